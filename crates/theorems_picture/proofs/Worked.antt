-- The worked files, by computation. Assumes nothing.
use mathlib.Core.List.{[]}
use mathlib.Core.Path.{◌≡◌, refl}
use lib.ListN.{replicate}
use Rattle.std.specs.Prelude.{Ok}
use Rattle.math.specs.Scatter.{scatter}
use Rattle.math.specs.Tab.{tab}
use Rattle.math.specs.Test.{all_below, count_below}
use Rattle.math.specs.Total.{total}
use Rattle.refusals.specs.Refusal.{accepted}
use Rattle.refusals.specs.declared.Refusal.TheVariants.{ForwardVectorOutside}
use Rattle.symbols.specs.Guard.{require◌else◌then◌}
use Rattle.symbols.specs.Size.{max_macroblocks, max_macroblocks_small, legal_size}
use Rattle.symbols.specs.Header.{type_i, legal_codings, legal_header, header_with}
use Rattle.symbols.specs.MacroblockType.{legal_type}
use Rattle.symbols.specs.Pattern.{is_coded}
use Rattle.tables.specs.Tables.{scan, index_of, zigzag}
use Rattle.symbols.specs.Pair.{first_position}
use Rattle.decode_coefficients.specs.Scaling.{scaled, coefficient_of}
use Rattle.decode_coefficients.specs.Block.{positioned_levels, with_levels, dc_block, block_coefficients}
use Rattle.decode_coefficients.specs.Macroblock.{coefficients_from}
use Rattle.decode_coefficients.specs.Rows.{is_zero_row, rows_worked}
use Rattle.decode_coefficients.specs.Dc.{dc_past_of, with_dc_past, starting_dc_pasts}
use Rattle.decode_vectors.specs.Vector.{vector_difference_of as vector_difference, wrapped, vector_of, code_in_range, residual_in_range}
use Rattle.decode_prediction.specs.Fit.{vector_fits, macroblock_fits}
use Rattle.decode_macroblock.specs.Rows.{rows_of}
use Rattle.decode_macroblock.specs.Fit.{direction_fits, fit_of, first_misfit}
use Rattle.decode_state.specs.Plan.{skip_motion, plan_of, macroblocks_of_plan}
use Rattle.decode_state.specs.Vectors.{vector_pasts_before, forward_after, backward_after, vector_pasts_after, predicts_forward, predicts_backward, own_motion, next_vector_pasts}
use Rattle.format3_records.specs.Field.{twos_complement, byte, two_bytes, signed_byte, signed_two_bytes}
use Rattle.format3_records.specs.Record.{record_length_at, kind_at, record_of}
use Rattle.format3_header.specs.Header.{header_of}
use Rattle.format3_header.specs.Lengths.{lent_lengths, caller_verdict}
use Rattle.format3_header.specs.FileStart.{first_record, first_header, file_start_of, file_header_of}
use Rattle.format3_matrices.specs.Matrix.{positive, matrix_verdict, raster_order}
use Rattle.format3_macroblock.specs.Pairs.{legal_level, pair_of, pairs_of}
use Rattle.format3_macroblock.specs.Blocks.{legal_difference, legal_dc, difference_of, legal_count, count_of, levels_of, block_of, blocks_of}
use Rattle.format3_macroblock.specs.Slice.{scale_of, slice_fields_of, slice_of}
use Rattle.format3_macroblock.specs.MacroblockHead.{legal_increment, head_of}
use Rattle.format3_macroblock.specs.VectorCodes.{vector_code_of, vector_codes_of}
use Rattle.format3_macroblock.specs.Macroblock.{pattern_of, macroblock_symbols_of as macroblock_symbols, blocks_to_end_of, macroblock_of}
use Rattle.format3_macroblock.specs.Vectors.{vectors_of}
use Rattle.format3_picture.specs.MacroblockRecord.{record_fit, plan_applied_refusing, symbols_applied_refusing}
use Rattle.format3_picture.specs.Picture.{records_from_refusing, symbols_of, picture_refusing}
use Rattle.format3_picture.specs.Step.{matrix_applied, slice_started, record_applied_refusing, step_at_refusing}
use Rattle.format3_picture.specs.Symbols.{symbol_at}
use Rattle.theorems_picture.specs.Applies.{file_start}
use Rattle.theorems_picture.specs.Worked.{vector_cases, cases, row_cases, answers_refusing, answers_within, answers, expectations, expectations_as18, expectations_beyond, two_slices, two_wide, two_slices_symbols}

-- all of them; those of a B picture alone; these with 18 for a backward misfit; those of rows worked; all of them with the small limit; and those of
-- rows worked, which have two macroblocks, with limits of 2 and 1
pub worked-files : (answers cases ≡ expectations cases) × (answers vector_cases ≡ expectations vector_cases) × (answers_refusing ForwardVectorOutside max_macroblocks vector_cases ≡ expectations_as18 vector_cases) × (answers row_cases ≡ expectations row_cases)
    × (answers_within max_macroblocks_small cases ≡ expectations cases) × (answers_within 2 row_cases ≡ expectations row_cases) × (answers_within 1 row_cases ≡ expectations_beyond row_cases)
unfolding symbol_at all_below require◌else◌then◌ vector_fits macroblock_fits vector_difference wrapped vector_of code_in_range residual_in_range twos_complement byte two_bytes signed_byte signed_two_bytes record_length_at kind_at record_of legal_size legal_codings legal_header header_with header_of lent_lengths caller_verdict first_record first_header file_start_of positive matrix_verdict scale_of slice_fields_of slice_of legal_type legal_increment head_of vector_code_of vector_codes_of pairs_of legal_difference legal_dc difference_of legal_count count_of levels_of block_of dc_past_of with_dc_past is_coded blocks_of pattern_of macroblock_symbols starting_dc_pasts blocks_to_end_of macroblock_of vectors_of direction_fits fit_of first_misfit plan_of vector_pasts_before forward_after backward_after skip_motion vector_pasts_after predicts_forward predicts_backward own_motion next_vector_pasts record_fit plan_applied_refusing symbols_applied_refusing records_from_refusing picture_refusing matrix_applied slice_started record_applied_refusing step_at_refusing raster_order scatter pair_of legal_level first_position positioned_levels with_levels dc_block block_coefficients coefficients_from scaled coefficient_of scan index_of zigzag tab total rows_of macroblocks_of_plan is_zero_row rows_worked count_below
worked-files = (refl, refl, refl, refl, refl, refl, refl)

pub two-slices-header : file_header_of (first_header two_slices) ≡ record { number = accepted; coding_type = type_i; width = 2; height = 1; records_start = 11 }
unfolding require◌else◌then◌ record_length_at kind_at record_of legal_size legal_codings legal_header header_with header_of first_record first_header
two-slices-header = refl

pub two-slices-header-read : file_start max_macroblocks two_slices [] [] (replicate 768 7) ≡ Ok (record { header = two_wide; end = 11 })
unfolding symbol_at require◌else◌then◌ twos_complement byte two_bytes signed_two_bytes record_length_at kind_at record_of legal_size legal_codings legal_header header_with header_of lent_lengths caller_verdict first_record first_header file_start_of scale_of slice_fields_of slice_of legal_type legal_increment head_of legal_difference legal_dc difference_of legal_count count_of levels_of block_of dc_past_of with_dc_past is_coded blocks_of macroblock_symbols starting_dc_pasts blocks_to_end_of macroblock_of vectors_of direction_fits fit_of first_misfit plan_of predicts_forward predicts_backward own_motion record_fit plan_applied_refusing symbols_applied_refusing records_from_refusing slice_started record_applied_refusing step_at_refusing pairs_of
two-slices-header-read = refl

pub two-slices-symbols : symbols_of two_slices two_wide 11 ≡ two_slices_symbols
unfolding symbol_at require◌else◌then◌ twos_complement byte two_bytes signed_two_bytes record_length_at kind_at record_of legal_size legal_codings legal_header header_with header_of lent_lengths caller_verdict first_record first_header file_start_of scale_of slice_fields_of slice_of legal_type legal_increment head_of legal_difference legal_dc difference_of legal_count count_of levels_of block_of dc_past_of with_dc_past is_coded blocks_of macroblock_symbols starting_dc_pasts blocks_to_end_of macroblock_of vectors_of direction_fits fit_of first_misfit plan_of predicts_forward predicts_backward own_motion record_fit plan_applied_refusing symbols_applied_refusing records_from_refusing slice_started record_applied_refusing step_at_refusing pairs_of
two-slices-symbols = refl
