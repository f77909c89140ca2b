-- What a block holds after each of its pairs (document 02, No. 3).
use Rattle.std.specs.Prelude.{true, false, List, ◌≡◌, ℕ, ◌≤◌, ℤ, pos, length}
use Rattle.math.specs.Bound.{at}
use Rattle.math.specs.Each.{Each}
use Rattle.symbols.specs.declared.pair.Pair.{Pair}
use Rattle.symbols.specs.Pair.{last_position}
use Rattle.decode_coefficients.specs.declared.block.BlockCoding.{BlockCoding}
use Rattle.decode_coefficients.specs.Block.{block_levels, raster_index, scaled_level}

-- "after each pair the block holds the scaled coefficients read so far, in their places, and 0 elsewhere": `pairs` are those read so far
pub record HoldsSoFar (c : BlockCoding) (matrix : List ℕ) (dc : ℤ) (pairs : List Pair) (block : List ℤ) : Type 0 where
  pub full : length block ≡ 64
  -- at the raster index of each pair, its scaled level, which may be 0
  pub at-each-pair : Each (λ p. at block (raster_index p.position) ≡ scaled_level c matrix p) (block_levels c pairs)
  -- at raster index 0 of an intra block, its DC
  pub dc-at-0 : c.intra ≡ true → at block 0 ≡ dc
  -- at every other raster index, 0
  pub zero-elsewhere : (raster : ℕ) → (c.intra ≡ true → ¬ (raster ≡ 0)) → Each (λ p. ¬ (raster ≡ raster_index p.position)) (block_levels c pairs) → at block raster ≡ pos 0

-- only an intra block has a DC other than 0
pub record DcFits (c : BlockCoding) (dc : ℤ) : Type 0 where
  pub zero-otherwise : c.intra ≡ false → dc ≡ pos 0

-- pairs that land inside the block; the reader refuses any other (16)
abbrev pub PairsInside : BlockCoding → List Pair → Type 0
PairsInside c pairs = Each (λ p. p.position ≤ last_position) (block_levels c pairs)
