-- Reads motion codes: "motion codes with a residual of f_code - 1 bits where f_code > 1 and the code isn't 0".
use Rattle.std.specs.Prelude.{Bool, not, ◌&&◌, List, ℕ, ◌-◌, eqb, ltb, pos, ◌-ℤ◌}
use Rattle.symbols.specs.Parsed.{◌then◌, give, optional◌default◌read◌}
use Rattle.symbols.specs.declared.vector_codes.VectorCode.{VectorCode}
use Rattle.symbols.specs.declared.vector_codes.VectorCodes.{VectorCodes}
use Rattle.symbols.specs.VectorCodes.{no_codes}
use Rattle.mpeg1_tables.specs.AnnexB.{motion_codes}
use Rattle.mpeg1_slice.specs.Read.{Reader, word_at, field_at}

-- the residual of a code; `value` is the code plus 16. It is 0 if there are no bits for it
unfoldable pub residual_at : ℕ → ℕ → List ℕ → Reader ℕ
residual_at f_code value bytes = optional not (eqb value 16) && ltb 1 f_code default 0 read field_at (f_code - 1) bytes

abbrev pub code_with : ℕ → ℕ → VectorCode
code_with value residual = record { code = pos value -ℤ pos 16; residual = residual }

-- the code and residual of one component
unfoldable pub component_at : ℕ → List ℕ → Reader VectorCode
component_at f_code bytes =
    word_at motion_codes bytes then λ value.
    residual_at f_code value bytes then λ residual.
    give (code_with value residual)

-- horizontal, then vertical
unfoldable pub vector_codes_at : ℕ → List ℕ → Reader VectorCodes
vector_codes_at f_code bytes =
    component_at f_code bytes then λ horizontal.
    component_at f_code bytes then λ vertical.
    give (record { horizontal = horizontal; vertical = vertical })

-- the codes of one direction, if the type has them
unfoldable pub given_vector_codes_at : Bool → ℕ → List ℕ → Reader VectorCodes
given_vector_codes_at present f_code bytes = optional present default no_codes read vector_codes_at f_code bytes
