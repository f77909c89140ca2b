-- The worked slices, by computation. Assumes nothing.
use mathlib.Core.List.{[], ◌∷◌}
use mathlib.Core.Path.{◌≡◌, refl}
use Rattle.math.specs.Joined.{joined}
use Rattle.math.specs.Tab.{tab}
use Rattle.symbols.specs.Guard.{require◌else◌then◌}
use Rattle.symbols.specs.Size.{legal_size}
use Rattle.symbols.specs.Header.{legal_codings, legal_header, header_with}
use Rattle.symbols.specs.Pair.{first_position}
use Rattle.symbols.specs.Pattern.{is_coded}
use Rattle.format3_writer.specs.Bytes.{complement, big_endian_bytes}
use Rattle.format3_writer.specs.Records.{record_head, record_bytes, slice_body, slice_records, pair_bytes, levels_bytes, block_bytes, head_bytes, vector_code_bytes, vector_codes_bytes, pattern_bytes, macroblock_body}
use Rattle.mpeg1_bits.specs.Bits.{bits_of, bits, leading_number, all_zeros, bits_from}
use Rattle.mpeg1_tables.specs.Code.{digits_of, word, is_prefix, code_of, field_of}
use Rattle.mpeg1_tables.specs.AnnexB.{increment_words, increments, increments_after_escape, intra_types, predicted_types, bidirectional_types, types_of, patterns, motion_codes, luminance_sizes, chrominance_sizes, shared_words, first_coefficients, next_coefficients, byte_words, large_positive, large_negative}
use Rattle.mpeg1_vlc.specs.Difference.{dc_difference_of}
use Rattle.mpeg1_vlc.specs.SliceStart.{start_prefix, slice_start_of}
use Rattle.mpeg1_vlc.specs.Coefficient.{signed_of, large_of, level_of, escaped_of, finished_of, words_of, coefficient_code_of}
use Rattle.mpeg1_slice.specs.Increment.{after_stuffing, amount_of, after_escape, increment_at}
use Rattle.mpeg1_slice.specs.Vectors.{residual_at, component_at, vector_codes_at, given_vector_codes_at}
use Rattle.mpeg1_slice.specs.Blocks.{size_words, difference_at, next_pair_of, pairs_from, pairs_at, given_difference_at, block_at, given_block_at, blocks_from}
use Rattle.mpeg1_slice.specs.Macroblock.{scale_at, head_at, vectors_at, pattern_at, pattern_and_blocks_at, vectors_and_blocks_at, macroblock_at}
use Rattle.mpeg1_slice.specs.Slice.{after_extra, next_macroblock_at, macroblocks_from, start_address, slice_head_at, after_head_at, raw_slice_of}
use Rattle.mpeg1_reader.specs.Answer.{fitted, raw_slice_outcome}
use Rattle.theorems_records.specs.Read.{AllRead, none, more}
use Rattle.theorems_records.specs.WorkedSlices.{given, slice_cases, outcomes, slice_expectations, one_slice, one_macroblock, one_slice_symbols}

pub worked : outcomes slice_cases ≡ slice_expectations slice_cases
unfolding raw_slice_outcome header_with legal_header legal_size legal_codings require◌else◌then◌ fitted raw_slice_of slice_head_at after_head_at slice_start_of start_prefix tab bits bits_from bits_of is_prefix code_of field_of leading_number all_zeros after_extra next_macroblock_at macroblocks_from start_address increment_at after_stuffing amount_of after_escape increments increment_words increments_after_escape word digits_of head_at types_of intra_types predicted_types bidirectional_types scale_at vectors_at given_vector_codes_at vector_codes_at component_at residual_at motion_codes vectors_and_blocks_at pattern_and_blocks_at pattern_at patterns blocks_from given_block_at block_at given_difference_at is_coded first_position difference_at size_words luminance_sizes chrominance_sizes dc_difference_of pairs_at pairs_from next_pair_of words_of first_coefficients next_coefficients shared_words coefficient_code_of finished_of signed_of escaped_of level_of large_of large_positive large_negative byte_words macroblock_at joined record_head record_bytes slice_body slice_records pair_bytes levels_bytes block_bytes head_bytes vector_code_bytes vector_codes_bytes pattern_bytes macroblock_body complement big_endian_bytes
worked = refl

pub one-slice-read : AllRead (one_slice_symbols ∷ [])
unfolding raw_slice_outcome header_with legal_header legal_size legal_codings require◌else◌then◌ fitted raw_slice_of slice_head_at after_head_at slice_start_of start_prefix tab bits bits_from bits_of is_prefix code_of field_of leading_number all_zeros after_extra next_macroblock_at macroblocks_from start_address increment_at after_stuffing amount_of after_escape increments increment_words increments_after_escape word digits_of head_at types_of intra_types predicted_types bidirectional_types scale_at vectors_at given_vector_codes_at vector_codes_at component_at residual_at motion_codes vectors_and_blocks_at pattern_and_blocks_at pattern_at patterns blocks_from given_block_at block_at given_difference_at is_coded first_position difference_at size_words luminance_sizes chrominance_sizes dc_difference_of pairs_at pairs_from next_pair_of words_of first_coefficients next_coefficients shared_words coefficient_code_of finished_of signed_of escaped_of level_of large_of large_positive large_negative byte_words macroblock_at joined record_head record_bytes slice_body slice_records pair_bytes levels_bytes block_bytes head_bytes vector_code_bytes vector_codes_bytes pattern_bytes macroblock_body complement big_endian_bytes
one-slice-read = more (given 1 1 1 0 0) {h = one_macroblock} one_slice {end = record { byte = 8; bit = 4 }} refl refl none
