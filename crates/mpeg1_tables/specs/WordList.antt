-- The word lists of Annex B that are not of coefficients, by name, and where the code table has them.
use Rattle.std.specs.Prelude.{Bool, true, false, List, ℕ}
use Rattle.mpeg1_tables.specs.declared.word_list.WordList.{WordList}
use Rattle.mpeg1_tables.specs.declared.word_list.WordList.TheVariants.{Increments, IncrementsAfterEscape, IntraTypes, PredictedTypes, BidirectionalTypes, Patterns, MotionCodes, LuminanceSizes, ChrominanceSizes}
use Rattle.mpeg1_tables.specs.Code.{Word}
use Rattle.mpeg1_tables.specs.AnnexB.{increments, increments_after_escape, intra_types, predicted_types, bidirectional_types, patterns, motion_codes, luminance_sizes, chrominance_sizes}

abbrev pub words_in : WordList → List Word
words_in Increments = increments
words_in IncrementsAfterEscape = increments_after_escape
words_in IntraTypes = intra_types
words_in PredictedTypes = predicted_types
words_in BidirectionalTypes = bidirectional_types
words_in Patterns = patterns
words_in MotionCodes = motion_codes
words_in LuminanceSizes = luminance_sizes
words_in ChrominanceSizes = chrominance_sizes

-- a list's first row in `table_rows`
abbrev pub row_of : WordList → ℕ
row_of Increments = 0
row_of IncrementsAfterEscape = 2
row_of IntraTypes = 4
row_of PredictedTypes = 5
row_of BidirectionalTypes = 6
row_of Patterns = 7
row_of MotionCodes = 9
row_of LuminanceSizes = 11
row_of ChrominanceSizes = 12

-- whether a list has words of more than eight bits; these have at most 13, and start with five zeros
abbrev pub has_long_words : WordList → Bool
has_long_words Increments = true
has_long_words IncrementsAfterEscape = true
has_long_words IntraTypes = false
has_long_words PredictedTypes = false
has_long_words BidirectionalTypes = false
has_long_words Patterns = true
has_long_words MotionCodes = true
has_long_words LuminanceSizes = false
has_long_words ChrominanceSizes = false
