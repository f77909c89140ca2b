-- What the readers of blocks answer: coefficients in the array of six blocks, and the DC predictors after them.
use Rattle.std.specs.Prelude.{Bool, List, ℕ, ℤ, Result}
use Rattle.refusals.specs.declared.Refusal.{Refusal}
use Rattle.symbols.specs.Parsed.{Parser, ◌then◌, give}
use Rattle.symbols.specs.Block.{Block, uncoded, coded}
use Rattle.symbols.specs.MacroblockType.{is_intra}
use Rattle.symbols.specs.declared.macroblock.MacroblockSymbols.{MacroblockSymbols}
use Rattle.decode_coefficients.specs.declared.block.BlockCoding.{BlockCoding}
use Rattle.decode_coefficients.specs.Block.{with_pairs, coefficients_of}
use Rattle.decode_coefficients.specs.declared.dc.DcPasts.{DcPasts}
use Rattle.decode_coefficients.specs.Dc.{dc_of, dc_past_of, dc_pasts_after, dc_pasts_through}
use Rattle.decode_coefficients.specs.Macroblock.{coefficients_from, block_coding}
use Rattle.decode_coefficients.specs.BlockArray.{six_blocks, put_block}
use Rattle.decode_coefficients.specs.Matrices.{matrix_for}
use Rattle.decode_coefficients.specs.declared.matrices.Matrices.{Matrices}
use Rattle.format3_records.specs.declared.field.Cursor.{Cursor}
use Rattle.format3_records.specs.Reader.{with_made}
use Rattle.format3_macroblock.specs.declared.blocks.BlocksCoding.{BlocksCoding}
use Rattle.format3_macroblock.specs.Blocks.{given_difference_of, levels_of, given_block_of, six_blocks_of}
use Rattle.format3_macroblock.specs.Macroblock.{blocks_to_end_of}

abbrev pub one_block_coding : BlocksCoding → BlockCoding
one_block_coding c = record { intra = c.intra; scale = c.scale }

-- ---- a block's DC
abbrev pub read_dc_of : Bool → ℤ → Parser ℤ
read_dc_of intra past =
    given_difference_of intra past then λ difference.
    give (dc_of intra past difference)

-- ---- a block's pairs, stored in it
abbrev pub levels_into : BlockCoding → List ℕ → List ℤ → Parser (List ℤ)
levels_into c matrix block =
    levels_of c.intra then λ pairs.
    give (with_pairs c matrix pairs block)

-- ---- progress through the blocks: the pasts after those read, and the array with them stored
pub record Progress : Type 0 where
  pub pasts : DcPasts
  pub coefficients : List ℤ

abbrev pub progress_after : BlocksCoding → List ℕ → ℕ → Progress → Block → Progress
progress_after c matrix block s uncoded = s
progress_after c matrix block s (coded difference pairs) = record {
  pasts = dc_pasts_after c.intra s.pasts block (coded difference pairs);
  coefficients = put_block block (coefficients_of (one_block_coding c) matrix (dc_past_of s.pasts block) (coded difference pairs)) s.coefficients;
}

abbrev pub block_into : BlocksCoding → List ℕ → ℕ → Progress → Parser Progress
block_into c matrix block s =
    given_block_of c.intra c.pattern s.pasts block then λ b.
    give (progress_after c matrix block s b)

abbrev pub progress_result : Result (DcPasts × Cursor) Refusal → List ℤ → Result (Progress × Cursor) Refusal
progress_result answer coefficients = with_made (λ pasts. record { pasts = pasts; coefficients = coefficients }) answer

-- ---- the six blocks: their coefficients, and the pasts after them
pub record DecodedBlocks : Type 0 where
  pub pasts : DcPasts
  pub coefficients : List (List ℤ)

abbrev pub decoded_blocks : BlockCoding → List ℕ → DcPasts → List Block → DecodedBlocks
decoded_blocks c matrix pasts blocks = record { pasts = dc_pasts_through c.intra pasts 0 blocks; coefficients = coefficients_from c matrix pasts 0 blocks }

abbrev pub decoded_blocks_of : BlocksCoding → List ℕ → DcPasts → Parser DecodedBlocks
decoded_blocks_of c matrix pasts =
    six_blocks_of c.intra c.pattern pasts then λ blocks.
    give (decoded_blocks (one_block_coding c) matrix pasts blocks)

abbrev pub decoded_blocks_result : Result (DcPasts × Cursor) Refusal → List ℤ → Result (DecodedBlocks × Cursor) Refusal
decoded_blocks_result answer coefficients = with_made (λ pasts. record { pasts = pasts; coefficients = six_blocks coefficients }) answer

-- ---- what the reader of the blocks answers: their coefficients, and the pasts after them
abbrev pub decoded_to_end_of : MacroblockSymbols → ℕ → Matrices → DcPasts → Parser DecodedBlocks
decoded_to_end_of m scale matrices pasts =
    blocks_to_end_of m pasts then λ blocks.
    give (decoded_blocks (block_coding m scale) (matrix_for (is_intra m.macroblock_type) matrices) pasts blocks)
