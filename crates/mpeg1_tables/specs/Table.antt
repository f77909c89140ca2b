-- The code table: for each word list, the code that each run of eight bits gives, possibly after some zeros.
use Rattle.std.specs.Prelude.{List, [], ◌∷◌, cond, ℕ, ◌+◌, ◌*◌, ◌/◌, ◌%◌, eqb, get_or, Result, Ok, Err}
use Rattle.math.specs.Joined.{joined}
use Rattle.math.specs.Tab.{tab}
use Rattle.mpeg1_bits.specs.Bits.{bits_of}
use Rattle.mpeg1_tables.specs.declared.code.Code.{Code}
use Rattle.mpeg1_tables.specs.declared.code.CodeError.{CodeError}
use Rattle.mpeg1_tables.specs.declared.code.CodeError.TheVariants.{NoCode, Truncated}
use Rattle.mpeg1_tables.specs.Code.{Word, found, code_of}
use Rattle.mpeg1_tables.specs.AnnexB.{increments, increments_after_escape, intra_types, predicted_types, bidirectional_types, patterns, motion_codes, luminance_sizes, chrominance_sizes, next_coefficients}

-- a row of the table: its words, and how many zeros the bits start with
pub record TableRow : Type 0 where
  pub zeros : ℕ
  pub words : List Word

abbrev pub table_row : ℕ → List Word → TableRow
table_row z w = record { zeros = z; words = w }

abbrev pub table_rows : List TableRow
table_rows =
    table_row 0 increments
    ∷ table_row 5 increments
    ∷ table_row 0 increments_after_escape
    ∷ table_row 5 increments_after_escape
    ∷ table_row 0 intra_types
    ∷ table_row 0 predicted_types
    ∷ table_row 0 bidirectional_types
    ∷ table_row 0 patterns
    ∷ table_row 5 patterns
    ∷ table_row 0 motion_codes
    ∷ table_row 5 motion_codes
    ∷ table_row 0 luminance_sizes
    ∷ table_row 0 chrominance_sizes
    ∷ table_row 0 next_coefficients
    ∷ table_row 6 next_coefficients
    ∷ table_row 8 next_coefficients
    ∷ []

abbrev pub table_row_at : ℕ → TableRow
table_row_at r = get_or table_rows r (table_row 0 [])

-- a code as one number: 32 × value + length; 0 for no code, 31 for truncated
unfoldable pub packed : Result Code CodeError → ℕ
packed (Ok code) = 32 * code.value + code.length
packed (Err NoCode) = 0
packed (Err Truncated) = 31

unfoldable pub unpacked_of : ℕ → Result Code CodeError
unpacked_of e = cond (eqb (e % 32) 0) (Err NoCode) (cond (eqb (e % 32) 31) (Err Truncated) (found (e / 32) (e % 32)))

-- a row's entry for the n-bit number v after its zeros
unfoldable pub entry_of : TableRow → ℕ → ℕ → ℕ
entry_of r n v = packed (code_of r.words (bits_of (r.zeros + n) v))

-- all entries of eight bits
unfoldable pub code_table : List ℕ
code_table = joined (λ r. tab 256 (entry_of r 8)) table_rows
