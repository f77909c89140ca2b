-- Files worked by the definition: each of the refusals 1 to 21 and 23, pictures that are accepted, the rows worked for pictures, and headers around
-- the readers' limits (27).
use Rattle.std.specs.Prelude.{false, cond, List, [], ◌∷◌, ◌++◌, ℕ, suc, eqb, ℤ, pos, length, replicate}
use Rattle.refusals.specs.Refusal.{number_of}
use Rattle.refusals.specs.declared.Refusal.{Refusal}
use Rattle.refusals.specs.declared.Refusal.TheVariants.{ForwardVectorOutside, BackwardVectorOutside, MacroblockLimit}
use Rattle.symbols.specs.Header.{type_i}
use Rattle.symbols.specs.Size.{max_macroblocks}
use Rattle.symbols.specs.declared.header.Header.{Header}
use Rattle.symbols.specs.MacroblockType.{intra_part as intra_type}
use Rattle.symbols.specs.Pattern.{all_blocks}
use Rattle.symbols.specs.Block.{coded}
use Rattle.symbols.specs.Macroblock.{Macroblock}
use Rattle.symbols.specs.VectorCodes.{no_codes}
use Rattle.decode_coefficients.specs.Matrices.{default_matrices}
use Rattle.format3_picture.specs.Picture.{Picture, picture_refusing}
use Rattle.format3_picture.specs.Reconstruction.{Symbols}

-- ---- files of one macroblock
-- a record of fewer than 256 bytes: the length of kind and body, the kind, and the body
abbrev pub record_with : ℕ → List ℕ → List ℕ
record_with kind body = 0 ∷ suc (length body) ∷ kind ∷ body

-- the header, by size, type and forward f_code; and that of one macroblock
abbrev sized_header : ℕ → ℕ → ℕ → ℕ → List ℕ
sized_header width height type code = record_with 1 (width ∷ height ∷ type ∷ 0 ∷ code ∷ 0 ∷ 0 ∷ [])

abbrev header : ℕ → ℕ → List ℕ
header = sized_header 1 1

-- the version and the header, of an I and of a P picture
abbrev intra : List ℕ
intra = 3 ∷ header 1 0

abbrev predicted : List ℕ
predicted = 3 ∷ header 2 1

-- a slice of scale 8 from address 0
abbrev slice : List ℕ
slice = record_with 3 (8 ∷ 0 ∷ 0 ∷ [])

-- an intra macroblock: six blocks of a DC difference of 0 and no pair
abbrev pub grey : List ℕ
grey = record_with 4 (16 ∷ 0 ∷ 1 ∷ replicate 18 0)

-- a reference and an output of its length
abbrev reference : List ℕ
reference = replicate 384 9

abbrev output : List ℕ
output = replicate 384 7

-- ---- cases
-- the numbers of an answer
pub record Numbers : Type 0 where
  pub number : ℕ
  pub place : ℕ
  pub made : ℕ
  pub rows : ℕ

-- what is lent, and the answer
pub record Case : Type 0 where
  pub file : List ℕ
  pub forward : List ℕ
  pub backward : List ℕ
  pub output : List ℕ
  pub expected : Numbers

-- number, place, made and rows last
abbrev example : List ℕ → List ℕ → List ℕ → List ℕ → ℕ → ℕ → ℕ → ℕ → Case
example file forward backward output number place made rows = record {
  file = file;
  forward = forward;
  backward = backward;
  output = output;
  expected = record { number = number; place = place; made = made; rows = rows };
}

-- ---- a B picture, 2 by 2 macroblocks
-- its version, header and slice; backward vectors count whole pels if the flag is 1
abbrev four_b : ℕ → List ℕ
four_b flag = 3 ∷ record_with 1 (2 ∷ 2 ∷ 3 ∷ 0 ∷ 2 ∷ flag ∷ 2 ∷ []) ++ slice

abbrev vector_case : List ℕ → ℕ → ℕ → ℕ → ℕ → Case
vector_case file = example file (replicate 1536 9) (replicate 1536 9) (replicate 1536 7)

-- vectors that leave the picture, and one that goes just up to its edge
abbrev pub vector_cases : List Case
vector_cases =
    -- backward, left of the picture
    vector_case (four_b 0 ++ record_with 4 (4 ∷ 0 ∷ 1 ∷ 255 ∷ 0 ∷ 0 ∷ 0 ∷ [])) 23 17 0 0
    -- forward, above the picture
    ∷ vector_case (four_b 0 ++ record_with 4 (2 ∷ 0 ∷ 1 ∷ 0 ∷ 0 ∷ 255 ∷ 0 ∷ [])) 18 17 0 0
    -- both
    ∷ vector_case (four_b 0 ++ record_with 4 (6 ∷ 0 ∷ 1 ∷ 255 ∷ 0 ∷ 0 ∷ 0 ∷ 255 ∷ 0 ∷ 0 ∷ 0 ∷ [])) 18 17 0 0
    -- of both, the backward one alone
    ∷ vector_case (four_b 0 ++ record_with 4 (6 ∷ 0 ∷ 1 ∷ 0 ∷ 0 ∷ 0 ∷ 0 ∷ 255 ∷ 0 ∷ 0 ∷ 0 ∷ [])) 23 17 0 0
    -- a skipped macroblock's backward vector, right of the picture; the record's own forward vector leaves the picture too
    ∷ vector_case (four_b 0 ++ record_with 4 (4 ∷ 0 ∷ 1 ∷ 16 ∷ 0 ∷ 0 ∷ 0 ∷ []) ++ record_with 4 (2 ∷ 0 ∷ 2 ∷ 255 ∷ 0 ∷ 0 ∷ 0 ∷ [])) 23 27 1 0
    -- 16 whole pels to the right, up to the edge: three macroblocks are missing
    ∷ vector_case (four_b 1 ++ record_with 4 (4 ∷ 0 ∷ 1 ∷ 8 ∷ 1 ∷ 0 ∷ 0 ∷ [])) 7 27 1 0
    ∷ []

abbrev pub cases : List Case
cases =
    -- an empty file
    example [] [] [] [] 1 0 0 0
    -- version 4
    ∷ example (4 ∷ []) [] [] [] 2 0 0 0
    -- no header
    ∷ example (3 ∷ []) [] [] [] 7 1 0 0
    -- one byte of a record
    ∷ example (3 ∷ 0 ∷ []) [] [] [] 3 1 0 0
    -- a record of length 0
    ∷ example (3 ∷ 0 ∷ 0 ∷ 1 ∷ []) [] [] [] 3 1 0 0
    -- a record past the file's end
    ∷ example (3 ∷ 0 ∷ 9 ∷ 1 ∷ 1 ∷ []) [] [] [] 3 1 0 0
    -- kind 9
    ∷ example (3 ∷ record_with 9 []) [] [] [] 4 1 0 0
    -- a macroblock first
    ∷ example (3 ∷ record_with 4 []) [] [] [] 5 1 0 0
    -- a header of one byte
    ∷ example (3 ∷ record_with 1 (1 ∷ [])) [] [] [] 6 1 0 0
    -- 48 by 9 macroblocks
    ∷ example (3 ∷ record_with 1 (48 ∷ 9 ∷ 1 ∷ 0 ∷ 0 ∷ 0 ∷ 0 ∷ [])) [] [] [] 8 1 0 0
    -- an output that is too short
    ∷ example intra [] [] (replicate 383 7) 19 1 0 0
    -- no macroblock
    ∷ example intra [] [] output 7 11 0 0
    -- no forward reference for a P picture
    ∷ example predicted [] [] output 20 1 0 0
    -- a backward reference for an I picture
    ∷ example intra [] (1 ∷ []) output 21 1 0 0
    -- a second header
    ∷ example (intra ++ header 1 0) [] [] output 5 11 0 0
    -- a third matrix
    ∷ example (intra ++ record_with 2 (2 ∷ replicate 64 16)) [] [] output 9 11 0 0
    -- an intra matrix that starts with 9
    ∷ example (intra ++ record_with 2 (0 ∷ 9 ∷ replicate 63 16)) [] [] output 9 11 0 0
    -- scale 0
    ∷ example (intra ++ record_with 3 (0 ∷ 0 ∷ 0 ∷ [])) [] [] output 10 11 0 0
    -- a slice from address 1
    ∷ example (intra ++ record_with 3 (8 ∷ 0 ∷ 1 ∷ [])) [] [] output 11 11 0 0
    -- a type that is not in the table
    ∷ example (intra ++ slice ++ record_with 4 (18 ∷ [])) [] [] output 12 17 0 0
    -- an increment past the last address
    ∷ example (intra ++ slice ++ record_with 4 (16 ∷ 0 ∷ 2 ∷ [])) [] [] output 13 17 0 0
    -- vector code 17
    ∷ example (predicted ++ slice ++ record_with 4 (2 ∷ 0 ∷ 1 ∷ 17 ∷ [])) reference [] output 14 17 0 0
    -- pattern 0
    ∷ example (predicted ++ slice ++ record_with 4 (8 ∷ 0 ∷ 1 ∷ 0 ∷ [])) reference [] output 15 17 0 0
    -- a block of 64 pairs beside its DC
    ∷ example (intra ++ slice ++ record_with 4 (16 ∷ 0 ∷ 1 ∷ 0 ∷ 0 ∷ 64 ∷ [])) [] [] output 16 17 0 0
    -- a DC difference of 128, from 1024 beyond 2040
    ∷ example (intra ++ slice ++ record_with 4 (16 ∷ 0 ∷ 1 ∷ 0 ∷ 128 ∷ [])) [] [] output 17 17 0 0
    -- a vector that points left of the picture
    ∷ example (predicted ++ slice ++ record_with 4 (2 ∷ 0 ∷ 1 ∷ 255 ∷ 0 ∷ 0 ∷ 0 ∷ [])) reference [] output 18 17 0 0
    -- an intra macroblock: accepted
    ∷ example (intra ++ slice ++ grey) [] [] output 0 41 1 6
    -- a cut record after the last macroblock
    ∷ example (intra ++ slice ++ grey ++ 0 ∷ []) [] [] output 3 41 1 6
    -- a macroblock after the last
    ∷ example (intra ++ slice ++ grey ++ grey) [] [] output 5 41 1 6
    -- a macroblock copied from the reference: accepted
    ∷ example (predicted ++ slice ++ record_with 4 (2 ∷ 0 ∷ 1 ∷ 0 ∷ 0 ∷ 0 ∷ 0 ∷ [])) reference [] output 0 27 1 0
    ∷ vector_cases

-- ---- rows worked (request No. 6)
-- a P picture, 2 by 1 macroblocks, with a loaded non-intra matrix of weights 4, and a slice of scale 1
abbrev two_p : List ℕ
two_p = 3 ∷ record_with 1 (2 ∷ 1 ∷ 2 ∷ 0 ∷ 1 ∷ 0 ∷ 0 ∷ []) ++ record_with 2 (1 ∷ replicate 64 4) ++ record_with 3 (1 ∷ 0 ∷ 0 ∷ [])

-- a macroblock with its first block coded. Levels 1, -100 and 2 land in rows 0, 2 and 1; the first is scaled to 0, so two rows are worked
abbrev two_rows : List ℕ
two_rows = record_with 4 (8 ∷ 0 ∷ 1 ∷ 32 ∷ 3 ∷ 0 ∷ 0 ∷ 1 ∷ 2 ∷ 255 ∷ 156 ∷ 0 ∷ 0 ∷ 2 ∷ [])

-- two such blocks, and a byte too many after them
abbrev four_rows_refused : List ℕ
four_rows_refused = record_with 4 (8 ∷ 0 ∷ 1 ∷ 48 ∷ 3 ∷ 0 ∷ 0 ∷ 1 ∷ 2 ∷ 255 ∷ 156 ∷ 0 ∷ 0 ∷ 2 ∷ 3 ∷ 0 ∷ 0 ∷ 1 ∷ 2 ∷ 255 ∷ 156 ∷ 0 ∷ 0 ∷ 2 ∷ 0 ∷ [])

-- such a block, and a vector that points right of the picture
abbrev two_rows_outside : List ℕ
two_rows_outside = record_with 4 (10 ∷ 0 ∷ 1 ∷ 1 ∷ 0 ∷ 0 ∷ 0 ∷ 32 ∷ 3 ∷ 0 ∷ 0 ∷ 1 ∷ 2 ∷ 255 ∷ 156 ∷ 0 ∷ 0 ∷ 2 ∷ [])

abbrev row_case : List ℕ → ℕ → ℕ → ℕ → ℕ → Case
row_case file = example file (replicate 768 9) [] (replicate 768 7)

abbrev pub row_cases : List Case
row_cases =
    -- both macroblocks made: accepted, 2 and 2 rows
    row_case (two_p ++ two_rows ++ two_rows) 0 119 2 4
    -- the second is refused, and adds nothing: by its last byte, and by its vector, which is tested last
    ∷ row_case (two_p ++ two_rows ++ four_rows_refused) 6 102 1 2
    ∷ row_case (two_p ++ two_rows ++ two_rows_outside) 18 102 1 2
    -- a record after the last macroblock is refused: the whole total
    ∷ row_case (two_p ++ two_rows ++ two_rows ++ two_rows) 5 119 2 4
    -- no macroblock is made
    ∷ row_case two_p 7 85 0 0
    -- an output that is too short: no header is accepted
    ∷ example (two_p ++ two_rows ++ two_rows) (replicate 768 9) [] (replicate 767 7) 19 1 0 0
    ∷ []

-- a transform of zeros: no answer depends on it
abbrev pub zeros : List ℤ → ℕ → ℤ
zeros c k = pos 0

abbrev numbers_of : Picture → Numbers
numbers_of p = record { number = p.number; place = p.place; made = p.made; rows = p.rows }

-- the answers with any refusal for a backward misfit and any limit, those of a reader with a limit, and those with the format's limit
abbrev pub answers_refusing : Refusal → ℕ → List Case → List Numbers
answers_refusing backward_refusal limit [] = []
answers_refusing backward_refusal limit (c ∷ cs) =
    numbers_of (picture_refusing backward_refusal limit zeros c.file c.forward c.backward c.output) ∷ answers_refusing backward_refusal limit cs

abbrev pub answers_within : ℕ → List Case → List Numbers
answers_within = answers_refusing BackwardVectorOutside

abbrev pub answers : List Case → List Numbers
answers = answers_within max_macroblocks

abbrev pub expectations : List Case → List Numbers
expectations [] = []
expectations (c ∷ cs) = c.expected ∷ expectations cs

-- with 23 counted as 18
abbrev counted_as18 : Numbers → Numbers
counted_as18 a = record { number = cond (eqb a.number (number_of BackwardVectorOutside)) (number_of ForwardVectorOutside) a.number; place = a.place; made = a.made; rows = a.rows }

abbrev pub expectations_as18 : List Case → List Numbers
expectations_as18 [] = []
expectations_as18 (c ∷ cs) = counted_as18 c.expected ∷ expectations_as18 cs

-- ---- limits (request No. 4)
-- a file of a header alone, by size, type and forward f_code
abbrev pub sized_file : ℕ → ℕ → ℕ → ℕ → List ℕ
sized_file width height type code = 3 ∷ sized_header width height type code

-- its header, if it is an I picture
abbrev pub intra_header : ℕ → ℕ → Header
intra_header width height = record {
  size = record { width = width; height = height };
  coding_type = type_i;
  forward = record { full_pel = false; f_code = 0 };
  backward = record { full_pel = false; f_code = 0 };
}

-- 27 for each case
abbrev pub expectations_beyond : List Case → List Numbers
expectations_beyond [] = []
expectations_beyond (c ∷ cs) = record { number = number_of MacroblockLimit; place = 1; made = 0; rows = 0 } ∷ expectations_beyond cs

-- ---- a file with its symbols: two slices of one macroblock each, and a record that is cut
abbrev pub two_slices : List ℕ
two_slices = 3 ∷ record_with 1 (2 ∷ 1 ∷ 1 ∷ 0 ∷ 0 ∷ 0 ∷ 0 ∷ []) ++ record_with 3 (8 ∷ 0 ∷ 0 ∷ []) ++ grey ++ record_with 3 (4 ∷ 0 ∷ 1 ∷ []) ++ grey ++ 0 ∷ []

-- an I picture, two macroblocks wide and one high
abbrev pub two_wide : Header
two_wide = intra_header 2 1

-- the symbols of the intra macroblock: six blocks of a DC difference of 0 and no pair
abbrev pub grey_symbols : Macroblock
grey_symbols = record {
  symbols = record { macroblock_type = intra_type; increment = 1; scale = 0; forward = no_codes; backward = no_codes; pattern = all_blocks };
  blocks = replicate 6 (coded (pos 0) []);
}

abbrev pub two_slices_symbols : Symbols
two_slices_symbols = record {
  matrices = default_matrices;
  slices =
      record { scale = 8; start = 0; macroblocks = grey_symbols ∷ [] }
      ∷ record { scale = 4; start = 1; macroblocks = grey_symbols ∷ [] }
      ∷ [];
}
