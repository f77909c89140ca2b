-- The blocks of a macroblock (document 01, kind 4, and refusals 6, 16 and 17).
use Rattle.std.specs.Prelude.{Bool, cond, ◌&&◌, List, [], ◌∷◌, ℕ, zero, suc, ◌+◌, leb, ℤ, pos, negsuc}
use Rattle.math.specs.Limit.{in_range}
use Rattle.refusals.specs.declared.Refusal.TheVariants.{Coefficient, DcCoefficient}
use Rattle.symbols.specs.Guard.{require◌else◌then◌}
use Rattle.symbols.specs.Parsed.{Parser, ◌then◌, give, refuse, optional◌default◌read◌}
use Rattle.symbols.specs.declared.pair.Pair.{Pair}
use Rattle.symbols.specs.Pair.{first_position}
use Rattle.symbols.specs.Block.{Block, uncoded, coded}
use Rattle.symbols.specs.Pattern.{is_coded}
use Rattle.decode_coefficients.specs.Scaling.{intra_dc}
use Rattle.decode_coefficients.specs.declared.dc.DcPasts.{DcPasts}
use Rattle.decode_coefficients.specs.Dc.{dc_past_of, dc_pasts_after}
use Rattle.format3_records.specs.Field.{byte, signed_two_bytes}
use Rattle.format3_macroblock.specs.Pairs.{pairs_of}

-- not "difference outside -255..255"
unfoldable pub legal_difference : ℤ → Bool
legal_difference difference = in_range (negsuc 254) (pos 255) difference

-- nor "DC outside 0..2040"
unfoldable pub legal_dc : ℤ → Bool
legal_dc dc = in_range (pos 0) (pos 2040) dc

-- "a 2-byte DC difference": the difference is tested, then the DC that it gives (both 17)
unfoldable pub difference_of : ℤ → Parser ℤ
difference_of past =
    signed_two_bytes then λ difference.
    require legal_difference difference else refuse DcCoefficient then
    require legal_dc (intra_dc past difference) else refuse DcCoefficient then
    give difference

-- "a count of pairs (intra 0..63, else 1..64)"
unfoldable pub legal_count : Bool → ℕ → Bool
legal_count intra count = cond intra (leb count 63) (leb 1 count && leb count 64)

unfoldable pub count_of : Bool → Parser ℕ
count_of intra =
    byte then λ count.
    require legal_count intra count else refuse Coefficient then
    give count

-- "a count of pairs ..; the pairs"
unfoldable pub levels_of : Bool → Parser (List Pair)
levels_of intra =
    count_of intra then λ count.
    pairs_of count (first_position intra)

-- "intra only, a 2-byte DC difference"
abbrev pub given_difference_of : Bool → ℤ → Parser ℤ
given_difference_of intra past = optional intra default pos 0 read difference_of past

-- "A block is: intra only, a 2-byte DC difference; a count of pairs ..; the pairs"
unfoldable pub block_of : Bool → ℤ → Parser Block
block_of intra past =
    given_difference_of intra past then λ difference.
    levels_of intra then λ pairs.
    give (coded difference pairs)

-- a block, if the pattern marks it as coded
abbrev pub given_block_of : Bool → ℕ → DcPasts → ℕ → Parser Block
given_block_of intra pattern pasts block = optional is_coded pattern block default uncoded read block_of intra (dc_past_of pasts block)

-- n consecutive blocks from this one on, with the pasts before it
unfoldable pub blocks_of : Bool → ℕ → ℕ → DcPasts → ℕ → Parser (List Block)
blocks_of intra pattern zero pasts block = give []
blocks_of intra pattern (suc n) pasts block =
    given_block_of intra pattern pasts block then λ b.
    blocks_of intra pattern n (dc_pasts_after intra pasts block b) (block + 1) then λ blocks.
    give (b ∷ blocks)

-- all six blocks
abbrev pub six_blocks_of : Bool → ℕ → DcPasts → Parser (List Block)
six_blocks_of intra pattern pasts = blocks_of intra pattern 6 pasts 0
