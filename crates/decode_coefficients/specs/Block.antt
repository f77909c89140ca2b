-- From the pairs of a block to its sixty-four coefficients (document 01, "Coefficients").
use Rattle.std.specs.Prelude.{List, [], ◌∷◌, ℕ, ℤ, pos, get_or, set, replicate}
use Rattle.tables.specs.Tables.{zigzag}
use Rattle.symbols.specs.declared.pair.Pair.{Pair}
use Rattle.symbols.specs.Pair.{pair_position, after_pair, after_pairs, first_position}
use Rattle.symbols.specs.Block.{Block, uncoded, coded}
use Rattle.decode_coefficients.specs.Scaling.{coefficient_of}
use Rattle.decode_coefficients.specs.declared.block.BlockCoding.{BlockCoding}
use Rattle.decode_coefficients.specs.Dc.{dc_of}

-- a level at its position in zigzag order
pub record PositionedLevel : Type 0 where
  pub position : ℕ
  pub level : ℤ

-- "The first pair lands at its run (intra: 1 plus run), each later one at run plus 1 further on"
unfoldable pub positioned_levels : ℕ → List Pair → List PositionedLevel
positioned_levels next [] = []
positioned_levels next (p ∷ pairs) = record { position = pair_position next p; level = p.level } ∷ positioned_levels (after_pair next p) pairs

-- the levels of a block's pairs, at their positions
abbrev pub block_levels : BlockCoding → List Pair → List PositionedLevel
block_levels c pairs = positioned_levels (first_position c.intra) pairs

-- the level of one more pair after these, at its position
abbrev pub next_level : BlockCoding → List Pair → Pair → PositionedLevel
next_level c pairs pair = record { position = pair_position (after_pairs (first_position c.intra) pairs) pair; level = pair.level }

-- "in zigzag order": the raster index of a position, 8 × row + column
abbrev pub raster_index : ℕ → ℕ
raster_index position = get_or zigzag position 0

-- a level scaled with the weight at its raster index
abbrev pub scaled_level : BlockCoding → List ℕ → PositionedLevel → ℤ
scaled_level c matrix p = coefficient_of c.intra p.level (pos c.scale) (pos (get_or matrix (raster_index p.position) 0))

-- a block after this level is stored in it, scaled and at its raster index
abbrev pub with_level : BlockCoding → List ℕ → PositionedLevel → List ℤ → List ℤ
with_level c matrix p block = set block (raster_index p.position) (scaled_level c matrix p)

-- a block after these levels are stored in it one by one
unfoldable pub with_levels : BlockCoding → List ℕ → List PositionedLevel → List ℤ → List ℤ
with_levels c matrix [] block = block
with_levels c matrix (p ∷ levels) block = with_levels c matrix levels (with_level c matrix p block)

-- a block after the levels of these pairs are stored in it
abbrev pub with_pairs : BlockCoding → List ℕ → List Pair → List ℤ → List ℤ
with_pairs c matrix pairs block = with_levels c matrix (block_levels c pairs) block

-- a block before its pairs: its DC, which is 0 if it is not intra, and zeros
unfoldable pub dc_block : ℤ → List ℤ
dc_block dc = set (replicate 64 (pos 0)) 0 dc

-- the sixty-four coefficients of a block with this DC and these pairs
unfoldable pub block_coefficients : BlockCoding → List ℕ → ℤ → List Pair → List ℤ
block_coefficients c matrix dc pairs = with_pairs c matrix pairs (dc_block dc)

-- the sixty-four coefficients of a block, with the past DC before it; all 0 if it is not coded
abbrev pub coefficients_of : BlockCoding → List ℕ → ℤ → Block → List ℤ
coefficients_of c matrix past uncoded = replicate 64 (pos 0)
coefficients_of c matrix past (coded difference pairs) = block_coefficients c matrix (dc_of c.intra past difference) pairs
