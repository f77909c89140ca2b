-- A slice's start code: "The start code 00 00 01 rr is one code"; "a row not in the picture (0, or above the height)" is no code.
use Rattle.std.specs.Prelude.{cond, List, [], ◌∷◌, ℕ, ◌+◌, ltb, Result, Err}
use Rattle.mpeg1_tables.specs.declared.code.Code.{Code}
use Rattle.mpeg1_tables.specs.declared.code.CodeError.{CodeError}
use Rattle.mpeg1_tables.specs.declared.code.CodeError.TheVariants.{NoCode}
use Rattle.mpeg1_tables.specs.Code.{Word, word, found, code_of, field_of, after_code}

-- the start code prefix: 23 zeros and a one
unfoldable pub start_prefix : List Word
start_prefix = word 24 000000000000000000000001 0 ∷ []

-- the value is the row. The input is whole bytes, so the row's eight bits are either all there or all missing
unfoldable pub slice_start_of : ℕ → List ℕ → Result Code CodeError
slice_start_of height b =
    after_code (code_of start_prefix b) b λ v n rest.
    after_code (field_of 8 rest) rest λ row m last.
    cond (ltb row 1) (Err NoCode) (cond (ltb height row) (Err NoCode) (found row (n + m)))
