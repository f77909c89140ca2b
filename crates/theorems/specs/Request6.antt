-- Request No. 6, rows worked: "Let the transform skip a row of eight coefficients that are all zero, and tell how many rows it worked. That number
-- equals the rows with a coefficient not zero, so at most 8. With 22 it is 0. Each macroblock, and the picture's answer, carries the total over its
-- coded blocks, at most 48 a macroblock. On a refused picture it is the total over the macroblocks made. Values and the accuracy rule are as before."
--
-- The number is in the contracts, as an equation at each level: `inverse_transform` and the entry (`rows_worked`, `transform_rows`), `write_macroblock`
-- (`macroblock_rows`), a record (`plan_applied`), and the readers (`picture_within`, field `rows`). The definitions of the residues and of the picture's
-- bytes do not mention it, and no refusal depends on it. The reader of a block's pairs marks each coefficient that is not 0 (`Marked`, in the crate
-- decode_coefficients); the transform works the rows that have a mark, and counts them.
use Rattle.std.specs.Prelude.{true, List, ◌∷◌, ◌++◌, ◌≡◌, ℕ, ◌-◌, ◌*◌, ◌≤◌, ℤ, pos, negsuc, length, replicate, Ok, Err}
use Rattle.math.specs.Test.{count_below}
use Rattle.refusals.specs.Refusal.{number_of}
use Rattle.refusals.specs.declared.Refusal.{Refusal}
use Rattle.refusals.specs.declared.Refusal.TheVariants.{NumberOutOfRange}
use Rattle.symbols.specs.Pattern.{all_blocks, no_block}
use Rattle.symbols.specs.declared.header.Header.{Header}
use Rattle.decode_coefficients.specs.Rows.{is_zero_row, rows_worked}
use Rattle.decode_coefficients.specs.Marks.{has_row, Marked}
use Rattle.decode_idct.specs.Transform.{row_sum}
use Rattle.decode_idct.specs.Answer.{transform_number, transform_rows}
use Rattle.decode_macroblock.specs.declared.compensation.Motion.{Motion}
use Rattle.decode_macroblock.specs.Macroblock.{MadeMacroblock, predicted_only_from}
use Rattle.decode_macroblock.specs.Rows.{macroblock_rows, rows_of}
use Rattle.format3_picture.specs.Picture.{picture_within, symbols_of}
use Rattle.format3_picture.specs.Reconstruction.{macroblocks_of}
use Rattle.theorems_picture.specs.Applies.{Reached, Passing, file_start, Applies}
use Rattle.theorems_picture.specs.Worked.{row_cases, answers, expectations}

-- "skip a row of eight coefficients that are all zero": it adds 0 to the sum at every row q and column p of the residues. A sum is that of what its
-- eight rows add (`double_sum`)
abbrev pub ZeroRow : Type 0
ZeroRow =
    (c : List ℤ) (v : ℕ) → is_zero_row c v ≡ true
    → (q p : ℕ) → row_sum c q p v ≡ pos 0

-- "so at most 8"
abbrev pub AtMost8 : Type 0
AtMost8 = (c : List ℤ) → rows_worked c ≤ 8

-- the rows worked are those with a mark (a bit that is set) in the block's marks: nothing has to look at the block again
abbrev pub RowsMarked : Type 0
RowsMarked = (c : List ℤ) (marks : ℕ) → Marked c marks → count_below 8 (has_row marks) ≡ rows_worked c

-- "With 22 it is 0"
abbrev pub NoneWith22 : Type 0
NoneWith22 = (c : List ℤ) → transform_number c ≡ number_of NumberOutOfRange → transform_rows c ≡ 0

-- "at most 48 a macroblock", whatever its pattern and coefficients
abbrev pub AtMost48 : Type 0
AtMost48 = (pattern : ℕ) (c : List (List ℤ)) → macroblock_rows pattern c ≤ 48

-- the sum over the macroblocks that the picture's records made: all records, or those before the refused one
pub record SumOverRecords (limit : ℕ) (transform : List ℤ → ℕ → ℤ) (file forward backward output : List ℕ) (h : Header) (end : ℕ) : Type 0 where
  pub reached : Reached
  pub passing : Passing file h end reached
  pub count : (picture_within limit transform file forward backward output).made ≡ length reached.macroblocks
  pub rows : (picture_within limit transform file forward backward output).rows ≡ rows_of reached.macroblocks
  -- these macroblocks are the ones that clause 2.4.4 makes of the symbols (demand 2)
  pub of-symbols : reached.macroblocks ≡ macroblocks_of h (symbols_of file h end)

-- a macroblock of which no block is coded has none, and neither have skipped macroblocks
pub record NoneIfNotCoded : Type 0 where
  pub no-block : (c : List (List ℤ)) → macroblock_rows no_block c ≡ 0
  pub skipped : (first n : ℕ) (m : Motion) → rows_of (predicted_only_from first n m) ≡ 0

-- "the total over the macroblocks made"
pub record TotalOverMade (limit : ℕ) (transform : List ℤ → ℕ → ℤ) (file forward backward output : List ℕ) : Type 0 where
  pub sum : (h : Header) (end : ℕ) → file_start limit file forward backward output ≡ Ok (record { header = h; end = end }) → SumOverRecords limit transform file forward backward output h end
  -- "On a refused picture it is the total over the macroblocks made": those that the records before the refused one made
  pub refused : (refusal : Refusal) (place : ℕ) (before : List MadeMacroblock) → Applies limit file forward backward output refusal place before
      → (picture_within limit transform file forward backward output).rows ≡ rows_of before
  -- none is made before a header is accepted
  pub no_header : (refusal : Refusal) (place : ℕ) → file_start limit file forward backward output ≡ Err (record { refusal = refusal; place = place })
      → (picture_within limit transform file forward backward output).rows ≡ 0
  pub most : (picture_within limit transform file forward backward output).rows ≤ 48 * (picture_within limit transform file forward backward output).made

abbrev pub PictureRows : Type 0
PictureRows =
    (limit : ℕ) (transform : List ℤ → ℕ → ℤ) (file forward backward output : List ℕ)
    → TotalOverMade limit transform file forward backward output

-- the number is the same with any inverse transform
abbrev pub AnyTransform : Type 0
AnyTransform =
    (limit : ℕ) (transform other : List ℤ → ℕ → ℤ) (file forward backward output : List ℕ)
    → (picture_within limit transform file forward backward output).rows ≡ (picture_within limit other file forward backward output).rows

-- ---- worked blocks and files
-- a block that is 0 except for one coefficient
abbrev one_at : ℕ → ℤ → List ℤ
one_at k z = replicate k (pos 0) ++ (z ∷ replicate (63 - k) (pos 0))

-- a row of eight of one number, and one that is 0 except for its first
abbrev row_of8 : ℤ → List ℤ
row_of8 z = replicate 8 z

abbrev first_only : ℤ → List ℤ
first_only z = z ∷ replicate 7 (pos 0)

-- eight rows alike
abbrev eight_rows : List ℤ → List ℤ
eight_rows row = row ++ row ++ row ++ row ++ row ++ row ++ row ++ row

pub record WorkedRows : Type 0 where
  pub zeros : rows_worked (replicate 64 (pos 0)) ≡ 0
  pub dc : rows_worked (one_at 0 (pos 1)) ≡ 1
  pub last : rows_worked (one_at 63 (negsuc 0)) ≡ 1
  -- a whole row is one row; a whole column is eight
  pub one-row : rows_worked (row_of8 (pos 5) ++ replicate 56 (pos 0)) ≡ 1
  pub one-column : rows_worked (eight_rows (first_only (pos 5))) ≡ 8
  -- the entry: 0 rows if a number is out of range
  pub in-range : transform_rows (eight_rows (first_only (pos 2047))) ≡ 8
  pub out_of_range : transform_rows (eight_rows (first_only (pos 2048))) ≡ 0
  -- a macroblock of six such blocks, of which all are coded, or the first and the last
  pub all_coded : macroblock_rows all_blocks (replicate 6 (eight_rows (first_only (pos 5)))) ≡ 48
  pub two-coded : macroblock_rows 33 (replicate 6 (eight_rows (first_only (pos 5)))) ≡ 16
  -- files: a level that is scaled to 0, a second record that is refused, one after the last macroblock, no macroblock, and no header
  pub files : answers row_cases ≡ expectations row_cases
