-- The macroblocks of the reel that document 01 prints, and one with every symbol, meet the laws' hypotheses and are read back.
-- Assumes nothing.
use mathlib.Core.Bool.{true, false}
use mathlib.Core.List.{[]}
use mathlib.Core.Path.{◌≡◌, refl, sym, ap, ◌∙◌}
use native.Mathlib.Omega.{arith}
use lib.IntN.{pos}
use Rattle.math.specs.Joined.{joined}
use Rattle.symbols.specs.Guard.{require◌else◌then◌}
use Rattle.symbols.specs.Parsed.{parsed}
use Rattle.symbols.specs.Header.{type_i}
use Rattle.symbols.specs.MacroblockType.{legal_type}
use Rattle.symbols.specs.Pair.{first_position}
use Rattle.symbols.specs.Pattern.{is_coded}
use Rattle.decode_coefficients.specs.Dc.{dc_past_of, with_dc_past, reset_dc_pasts, starting_dc_pasts}
use Rattle.decode_vectors.specs.Vector.{code_in_range, residual_in_range}
use Rattle.format3_records.specs.Field.{byte, two_bytes, signed_two_bytes, twos_complement}
use Rattle.format3_macroblock.specs.Pairs.{legal_level, pairs_of}
use Rattle.format3_macroblock.specs.Blocks.{block_of, levels_of, count_of, legal_count, difference_of, legal_difference, legal_dc, blocks_of}
use Rattle.format3_macroblock.specs.MacroblockHead.{legal_increment, head_of}
use Rattle.format3_macroblock.specs.declared.macroblock.MacroblockContext.{MacroblockContext}
use Rattle.format3_macroblock.specs.Vectors.{vectors_of}
use Rattle.format3_macroblock.specs.Macroblock.{macroblock_symbols_of, blocks_to_end_of, macroblock_of}
use Rattle.format3_writer.specs.Bytes.{complement, big_endian_bytes}
use Rattle.format3_writer.specs.Records.{head_bytes, vector_code_bytes, vector_codes_bytes, pair_bytes, levels_bytes, block_bytes, pattern_bytes, macroblock_body}
use Rattle.format3_writer.proofs.Laws.Examples.{printed_intra, printed_forward}
use Rattle.theorems_records.specs.FieldFit.{none, more, Matching, MacroblockFitsFields}
use Rattle.theorems_records.specs.Legal.{LegalSlice, LegalCoded, LegalMacroblock}
use Rattle.theorems_records.specs.WorkedRecords.{worked_slice, worked, predicted_context, worked_body}
use Rattle.theorems_records.proofs.RoundTrip.{macroblock-read-back}

intra-matching : Matching printed_intra
unfolding is_coded
intra-matching = record { pattern = refl; blocks = more refl (more refl (more refl (more refl (more refl (more refl none))))) }

intra-fitting : MacroblockFitsFields printed_intra
intra-fitting = record { symbols = record { increment = omega arith; scale = refl; forward = refl; backward = refl }; blocks = omega arith }

forward-matching : Matching printed_forward
unfolding is_coded
forward-matching = record { pattern = refl; blocks = more refl (more refl (more refl (more refl (more refl (more refl none))))) }

forward-fitting : MacroblockFitsFields printed_forward
forward-fitting = record { symbols = record { increment = omega arith; scale = refl; forward = omega arith; backward = refl }; blocks = omega arith }

pub slice-legal : LegalSlice worked_slice
slice-legal = record { scale = refl; two_bytes = record { fits = omega arith } }

-- the first macroblock of a slice, in an I picture of one
abbrev alone : MacroblockContext
alone = record { head = record { coding_type = type_i; macroblocks = 1; next = 0; first = true; intra = false }; forward_f = 0; backward_f = 0; dc = reset_dc_pasts }

intra-read : macroblock_of alone (macroblock_body printed_intra) ≡ parsed printed_intra []
unfolding macroblock_of macroblock_symbols_of head_of require◌else◌then◌ byte two_bytes signed_two_bytes twos_complement legal_type legal_increment vectors_of blocks_to_end_of starting_dc_pasts blocks_of block_of levels_of count_of legal_count difference_of legal_difference legal_dc dc_past_of with_dc_past pairs_of is_coded macroblock_body head_bytes pattern_bytes block_bytes levels_bytes joined big_endian_bytes complement
intra-read = refl

intra-legal : LegalMacroblock alone printed_intra
unfolding legal_type legal_increment is_coded legal_difference legal_dc legal_count dc_past_of with_dc_past starting_dc_pasts
intra-legal = record {
  symbols = record { type = refl; increment = refl; two_bytes = record { fits = omega arith }; scale = refl; forward = refl; backward = refl; pattern = refl };
  coded = intra-matching.blocks;
  blocks = (zero, (zero, (zero, (zero, (zero, (zero, tt))))));
}
  where
    zero : LegalCoded true (pos 1024) (pos 0) []
    zero = record { difference = record { small = refl; dc = refl }; count = refl; pairs = tt }

-- a macroblock with every symbol except a backward vector
pub worked-legal : LegalMacroblock predicted_context worked
unfolding legal_type legal_increment is_coded legal_count legal_level first_position code_in_range residual_in_range
worked-legal = record {
  symbols = record {
    type = refl;
    increment = refl;
    two_bytes = record { fits = omega arith };
    scale = refl;
    forward = record { horizontal = record { code = refl; residual = refl }; vertical = record { code = refl; residual = refl } };
    backward = refl;
    pattern = refl;
  };
  coded = more refl (more refl (more refl (more refl (more refl (more refl none)))));
  blocks = (record { difference = refl; count = refl; pairs = (record { position = refl; level = refl }, (record { position = refl; level = refl }, tt)) }, (tt, (tt, (tt, (tt, (tt, tt))))));
}

-- its record's body, and what the law says of it
pub worked-body : macroblock_body worked ≡ worked_body
unfolding macroblock_body head_bytes vector_codes_bytes vector_code_bytes pattern_bytes block_bytes levels_bytes pair_bytes joined big_endian_bytes complement
worked-body = refl

pub worked-read : macroblock_of predicted_context worked_body ≡ parsed worked []
worked-read = ap (macroblock_of predicted_context) (sym worked-body) ∙ macroblock-read-back worked-legal
