-- The value of each byte of a picture after macroblocks are made (document 01, "Vectors and prediction":
-- "Prediction (0 for intra) plus residue is limited to 0..255").
use Rattle.std.specs.Prelude.{cond, List, [], ◌∷◌, ℕ, ◌+◌, ◌-◌, ◌*◌, ◌/◌, ◌%◌, ltb, eqb, ℤ, get_or}
use Rattle.symbols.specs.Pattern.{is_coded}
use Rattle.symbols.specs.declared.size.PictureSize.{PictureSize}
use Rattle.symbols.specs.Size.{start_of_cb, start_of_cr}
use Rattle.decode_idct.specs.Transform.{limited_residue}
use Rattle.decode_macroblock.specs.Pel.{reconstructed_pel}
use Rattle.decode_macroblock.specs.declared.location.BlockLocation.{BlockLocation}
use Rattle.decode_macroblock.specs.Location.{macroblock_position, block_location}
use Rattle.decode_macroblock.specs.Compensation.{References, predicted_block}
use Rattle.decode_macroblock.specs.Block.{coefficients_at}
use Rattle.decode_macroblock.specs.Macroblock.{MadeMacroblock}
use Rattle.decode_macroblock.specs.Owner.{owner_of}

-- which of its macroblock's six blocks contains byte i of a picture
unfoldable pub block_of_byte : PictureSize → ℕ → ℕ
block_of_byte s i =
    cond (ltb i (start_of_cb s)) (2 * (i / (16 * s.width) / 8 % 2) + i % (16 * s.width) / 8 % 2)
    (cond (ltb i (start_of_cr s)) 4 5)

-- the location of that block, and the index of the byte among its 64 pels
abbrev pub location_of_byte : PictureSize → ℕ → BlockLocation
location_of_byte s i = block_location (macroblock_position s (owner_of s i)) (block_of_byte s i)

abbrev pub pel_index_at : BlockLocation → ℕ → ℕ
pel_index_at p i = 8 * ((i - p.from) / p.stride - p.y) + ((i - p.from) % p.stride - p.x)

unfoldable pub pel_of_byte : PictureSize → ℕ → ℕ
pel_of_byte s i = pel_index_at (location_of_byte s i) i

-- "Prediction (0 for intra) plus residue is limited to 0..255"; a block that is not coded is just its prediction
unfoldable pub byte_of : (List ℤ → ℕ → ℤ) → References → PictureSize → MadeMacroblock → ℕ → ℕ
byte_of transform r s m i =
    let block = block_of_byte s i in
    let prediction = get_or (predicted_block r.forward r.backward m.motion (location_of_byte s i) block) (pel_of_byte s i) 0 in
    let residue = limited_residue (transform (coefficients_at m.coefficients block) (pel_of_byte s i)) in
    cond (is_coded m.pattern block) (reconstructed_pel prediction residue) prediction

-- byte i after macroblocks are made: the macroblock that owns it decides; if none of them does, the byte is unchanged
unfoldable pub byte_among : (List ℤ → ℕ → ℤ) → References → PictureSize → List MadeMacroblock → ℕ → ℕ → ℕ
byte_among transform r s [] i old = old
byte_among transform r s (m ∷ macroblocks) i old = cond (eqb m.address (owner_of s i)) (byte_of transform r s m i) (byte_among transform r s macroblocks i old)
