-- The picture of a worked slice, by computation. Assumes nothing.
use mathlib.Core.List.{List, [], ◌∷◌}
use mathlib.Core.Path.{◌≡◌, refl}
use Prim.Native.Nat.{ℕ}
use lib.IntN.{ℤ}
use lib.ListN.{replicate}
use Rattle.std.specs.Prelude.{Ok}
use Rattle.math.specs.Joined.{joined}
use Rattle.refusals.specs.Refusal.{accepted}
use Rattle.symbols.specs.Guard.{require◌else◌then◌}
use Rattle.symbols.specs.Size.{legal_size}
use Rattle.symbols.specs.Header.{legal_codings, legal_header, header_with}
use Rattle.symbols.specs.MacroblockType.{legal_type}
use Rattle.symbols.specs.Pattern.{is_coded}
use Rattle.decode_coefficients.specs.Dc.{dc_past_of, with_dc_past, starting_dc_pasts}
use Rattle.decode_macroblock.specs.Fit.{direction_fits, fit_of, first_misfit}
use Rattle.decode_state.specs.Plan.{plan_of}
use Rattle.decode_state.specs.Vectors.{predicts_forward, predicts_backward, own_motion}
use Rattle.format3_records.specs.Field.{twos_complement, byte, two_bytes, signed_two_bytes}
use Rattle.format3_records.specs.Record.{record_length_at, kind_at, record_of}
use Rattle.format3_header.specs.Header.{header_of}
use Rattle.format3_header.specs.Lengths.{lent_lengths, caller_verdict}
use Rattle.format3_header.specs.FileStart.{first_record, first_header, file_start_of}
use Rattle.format3_macroblock.specs.Pairs.{pairs_of}
use Rattle.format3_macroblock.specs.Blocks.{legal_difference, legal_dc, difference_of, legal_count, count_of, levels_of, block_of, blocks_of}
use Rattle.format3_macroblock.specs.Slice.{scale_of, slice_fields_of, slice_of}
use Rattle.format3_macroblock.specs.MacroblockHead.{legal_increment, head_of}
use Rattle.format3_macroblock.specs.Macroblock.{macroblock_symbols_of as macroblock_symbols, blocks_to_end_of, macroblock_of}
use Rattle.format3_macroblock.specs.Vectors.{vectors_of}
use Rattle.format3_writer.specs.Bytes.{complement, big_endian_bytes}
use Rattle.format3_writer.specs.Records.{record_head, record_bytes, slice_body, slice_records, levels_bytes, block_bytes, head_bytes, pattern_bytes, macroblock_body}
use Rattle.format3_picture.specs.MacroblockRecord.{record_fit, plan_applied_refusing, symbols_applied_refusing}
use Rattle.format3_picture.specs.Picture.{records_from_refusing, picture_of, picture_refusing}
use Rattle.format3_picture.specs.Step.{slice_started, record_applied_refusing, step_at_refusing}
use Rattle.format3_picture.specs.Symbols.{symbol_at}
use Rattle.theorems_records.specs.Slices.{slices_file}
use Rattle.theorems_records.specs.WorkedSlices.{one_macroblock, one_macroblock_fields, one_slice_symbols}

pub one-header : header_of one_macroblock_fields ≡ Ok one_macroblock
unfolding header_of header_with legal_header legal_size legal_codings require◌else◌then◌
one-header = refl

pub one-slice-accepted : (transform : List ℤ → ℕ → ℤ) → (picture_of transform (slices_file one_macroblock_fields (one_slice_symbols ∷ [])) [] [] (replicate 384 7)).number ≡ accepted
unfolding symbol_at require◌else◌then◌ twos_complement byte two_bytes signed_two_bytes record_length_at kind_at record_of legal_size legal_codings legal_header header_with header_of lent_lengths caller_verdict first_record first_header file_start_of scale_of slice_fields_of slice_of legal_type legal_increment head_of legal_difference legal_dc difference_of legal_count count_of levels_of block_of dc_past_of with_dc_past is_coded blocks_of macroblock_symbols starting_dc_pasts blocks_to_end_of macroblock_of vectors_of direction_fits fit_of first_misfit plan_of predicts_forward predicts_backward own_motion record_fit plan_applied_refusing symbols_applied_refusing records_from_refusing slice_started record_applied_refusing step_at_refusing pairs_of joined record_head record_bytes slice_body slice_records block_bytes levels_bytes head_bytes pattern_bytes macroblock_body complement big_endian_bytes picture_refusing
one-slice-accepted transform = refl
