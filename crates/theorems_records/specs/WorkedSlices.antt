-- Slices worked by the definition: every refusal of the entry, and slices that are accepted.
use Rattle.std.specs.Prelude.{false, List, [], ◌∷◌, ℕ, pos, replicate}
use Rattle.symbols.specs.Header.{type_i}
use Rattle.symbols.specs.declared.header.Header.{Header}
use Rattle.symbols.specs.declared.header.HeaderFields.{HeaderFields}
use Rattle.symbols.specs.MacroblockType.{intra_part}
use Rattle.symbols.specs.Pattern.{all_blocks}
use Rattle.symbols.specs.Block.{coded}
use Rattle.symbols.specs.VectorCodes.{no_codes}
use Rattle.symbols.specs.Slice.{Slice}
use Rattle.mpeg1_reader.specs.Answer.{answer_number, answer_written, answer_byte, answer_bit, RawSliceOutcome, given_fields, raw_slice_outcome}

-- width, height, coding type, and the f_codes
abbrev pub given : ℕ → ℕ → ℕ → ℕ → ℕ → HeaderFields
given width height type forward backward = given_fields record { width = width; height = height; coding_type = type; forward_f_code = forward; backward_f_code = backward }

-- an outcome in numbers: number, bytes written, byte, bit and buffer
pub record OutcomeNumbers : Type 0 where
  pub number : ℕ
  pub written : ℕ
  pub byte : ℕ
  pub bit : ℕ
  pub buffer : List ℕ

abbrev pub outcome_numbers : RawSliceOutcome → OutcomeNumbers
outcome_numbers o = record { number = answer_number o.answer; written = answer_written o.answer; byte = answer_byte o.answer; bit = answer_bit o.answer; buffer = o.buffer }

-- given numbers, the bytes of a slice and a buffer, and the outcome
pub record SliceCase : Type 0 where
  pub numbers : HeaderFields
  pub bytes : List ℕ
  pub buffer : List ℕ
  pub expected : OutcomeNumbers

abbrev slice_case : HeaderFields → List ℕ → List ℕ → ℕ → ℕ → ℕ → ℕ → List ℕ → SliceCase
slice_case numbers bytes buffer number written byte bit after = record {
  numbers = numbers;
  bytes = bytes;
  buffer = buffer;
  expected = record { number = number; written = written; byte = byte; bit = bit; buffer = after };
}

abbrev pub slice_cases : List SliceCase
slice_cases =
    -- 48 by 9 macroblocks are more than 396
    slice_case (given 48 9 1 0 0) (0 ∷ 0 ∷ 1 ∷ 1 ∷ 67 ∷ 148 ∷ 165 ∷ 34 ∷ 32 ∷ []) [] 8 0 0 0 []
    -- two bytes of a start code
    ∷ slice_case (given 1 1 1 0 0) (0 ∷ 0 ∷ []) [] 25 0 0 0 []
    -- a row that is not in the picture
    ∷ slice_case (given 1 1 1 0 0) (0 ∷ 0 ∷ 1 ∷ 179 ∷ []) [] 24 0 0 0 []
    -- nothing after the extra bit
    ∷ slice_case (given 1 1 1 0 0) (0 ∷ 0 ∷ 1 ∷ 1 ∷ 8 ∷ []) [] 25 0 4 6 []
    -- eight zero bits at a macroblock's start
    ∷ slice_case (given 1 1 1 0 0) (0 ∷ 0 ∷ 1 ∷ 1 ∷ 71 ∷ 195 ∷ 224 ∷ 0 ∷ []) [] 24 0 7 0 []
    -- an intra macroblock, and four zero bits left
    ∷ slice_case (given 1 1 1 0 0) (0 ∷ 0 ∷ 1 ∷ 1 ∷ 67 ∷ 148 ∷ 165 ∷ 34 ∷ 32 ∷ []) (replicate 30 255) 0 30 8 4 (0 ∷ 4 ∷ 3 ∷ 8 ∷ 0 ∷ 0 ∷ 0 ∷ 22 ∷ 4 ∷ 16 ∷ 0 ∷ 1 ∷ 0 ∷ 0 ∷ 0 ∷ 0 ∷ 0 ∷ 0 ∷ 0 ∷ 0 ∷ 0 ∷ 0 ∷ 0 ∷ 0 ∷ 0 ∷ 0 ∷ 0 ∷ 0 ∷ 0 ∷ 0 ∷ [])
    -- a second macroblock is begun: the buffer is untouched
    ∷ slice_case (given 1 1 1 0 0) (0 ∷ 0 ∷ 1 ∷ 1 ∷ 67 ∷ 148 ∷ 165 ∷ 34 ∷ 33 ∷ []) (replicate 60 255) 25 0 8 4 (replicate 60 255)
    -- seven zero bits after stuffing
    ∷ slice_case (given 1 1 1 0 0) (0 ∷ 0 ∷ 1 ∷ 1 ∷ 71 ∷ 195 ∷ 224 ∷ 229 ∷ 41 ∷ 72 ∷ 136 ∷ 7 ∷ 128 ∷ []) [] 25 0 12 1 []
    -- stuffing, and then an escape
    ∷ slice_case (given 22 18 1 0 0) (0 ∷ 0 ∷ 1 ∷ 1 ∷ 64 ∷ 7 ∷ 128 ∷ 142 ∷ 82 ∷ 148 ∷ 136 ∷ 128 ∷ []) (replicate 30 255) 0 30 11 2 (0 ∷ 4 ∷ 3 ∷ 8 ∷ 0 ∷ 33 ∷ 0 ∷ 22 ∷ 4 ∷ 16 ∷ 0 ∷ 1 ∷ 0 ∷ 0 ∷ 0 ∷ 0 ∷ 0 ∷ 0 ∷ 0 ∷ 0 ∷ 0 ∷ 0 ∷ 0 ∷ 0 ∷ 0 ∷ 0 ∷ 0 ∷ 0 ∷ 0 ∷ 0 ∷ [])
    -- the 13th escape
    ∷ slice_case (given 22 18 1 0 0) (0 ∷ 0 ∷ 1 ∷ 1 ∷ 64 ∷ 4 ∷ 0 ∷ 128 ∷ 16 ∷ 2 ∷ 0 ∷ 64 ∷ 8 ∷ 1 ∷ 0 ∷ 32 ∷ 4 ∷ 0 ∷ 128 ∷ 16 ∷ 2 ∷ 0 ∷ 71 ∷ 41 ∷ 74 ∷ 68 ∷ 64 ∷ []) [] 24 0 21 2 []
    -- residuals of six bits
    ∷ slice_case (given 22 18 2 7 0) (0 ∷ 0 ∷ 1 ∷ 1 ∷ 66 ∷ 87 ∷ 236 ∷ 16 ∷ []) (replicate 16 255) 0 16 7 4 (0 ∷ 4 ∷ 3 ∷ 8 ∷ 0 ∷ 0 ∷ 0 ∷ 8 ∷ 4 ∷ 2 ∷ 0 ∷ 1 ∷ 1 ∷ 63 ∷ 255 ∷ 1 ∷ [])
    -- a level of -255
    ∷ slice_case (given 22 18 2 1 0) (0 ∷ 0 ∷ 1 ∷ 1 ∷ 66 ∷ 172 ∷ 16 ∷ 32 ∷ 0 ∷ 96 ∷ []) (replicate 17 255) 0 17 9 4 (0 ∷ 4 ∷ 3 ∷ 8 ∷ 0 ∷ 0 ∷ 0 ∷ 9 ∷ 4 ∷ 8 ∷ 0 ∷ 1 ∷ 1 ∷ 1 ∷ 0 ∷ 255 ∷ 1 ∷ [])
    -- a level of 0
    ∷ slice_case (given 22 18 2 1 0) (0 ∷ 0 ∷ 1 ∷ 1 ∷ 66 ∷ 172 ∷ 17 ∷ 64 ∷ 0 ∷ 32 ∷ []) [] 24 0 5 6 []
    -- a coefficient past position 63
    ∷ slice_case (given 22 18 2 1 0) (0 ∷ 0 ∷ 1 ∷ 1 ∷ 66 ∷ 172 ∷ 31 ∷ 192 ∷ 116 ∷ []) [] 24 0 8 2 []
    -- a scale and backward codes in a B picture
    ∷ slice_case (given 22 18 3 1 2) (0 ∷ 0 ∷ 1 ∷ 1 ∷ 66 ∷ 17 ∷ 232 ∷ 190 ∷ []) (replicate 22 255) 0 22 8 0 (0 ∷ 4 ∷ 3 ∷ 8 ∷ 0 ∷ 0 ∷ 0 ∷ 14 ∷ 4 ∷ 13 ∷ 0 ∷ 1 ∷ 7 ∷ 0 ∷ 0 ∷ 1 ∷ 0 ∷ 1 ∷ 1 ∷ 0 ∷ 255 ∷ 255 ∷ [])
    -- no room for the records
    ∷ slice_case (given 1 1 1 0 0) (0 ∷ 0 ∷ 1 ∷ 1 ∷ 67 ∷ 148 ∷ 165 ∷ 34 ∷ 32 ∷ []) [] 26 0 0 0 []
    -- 25 comes before 26
    ∷ slice_case (given 1 1 1 0 0) (0 ∷ 0 ∷ 1 ∷ 1 ∷ 67 ∷ 148 ∷ 165 ∷ 34 ∷ 33 ∷ []) [] 25 0 8 4 []
    ∷ []

abbrev pub outcomes : List SliceCase → List OutcomeNumbers
outcomes [] = []
outcomes (c ∷ cs) = outcome_numbers (raw_slice_outcome c.numbers c.bytes c.buffer) ∷ outcomes cs

abbrev pub slice_expectations : List SliceCase → List OutcomeNumbers
slice_expectations [] = []
slice_expectations (c ∷ cs) = c.expected ∷ slice_expectations cs

-- ---- one of these slices, with one intra macroblock, as the only slice of a picture
abbrev pub one_slice : List ℕ
one_slice = 0 ∷ 0 ∷ 1 ∷ 1 ∷ 67 ∷ 148 ∷ 165 ∷ 34 ∷ 32 ∷ []

-- an I picture of one macroblock: its header, and the seven bytes of the header's record
abbrev pub one_macroblock : Header
one_macroblock = record {
  size = record { width = 1; height = 1 };
  coding_type = type_i;
  forward = record { full_pel = false; f_code = 0 };
  backward = record { full_pel = false; f_code = 0 };
}

abbrev pub one_macroblock_fields : List ℕ
one_macroblock_fields = 1 ∷ 1 ∷ 1 ∷ 0 ∷ 0 ∷ 0 ∷ 0 ∷ []

-- six blocks of a DC difference of 0 and no pair
abbrev pub one_slice_symbols : Slice
one_slice_symbols = record {
  scale = 8;
  start = 0;
  macroblocks =
      record {
        symbols = record { macroblock_type = intra_part; increment = 1; scale = 0; forward = no_codes; backward = no_codes; pattern = all_blocks };
        blocks = replicate 6 (coded (pos 0) []);
      }
      ∷ [];
}
