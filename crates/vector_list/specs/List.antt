-- The text that lists the cases of f_code 1 and 2 (document 02, No. 11).
use Rattle.std.specs.Prelude.{List, ◌++◌, ℕ}
use Rattle.math.specs.Joined.{joined}
use Rattle.decode_vectors.specs.Vector.{f_of, vector_value}
use Rattle.text_writer.specs.Number.{space, line_end, field, signed_field}
use Rattle.vector_list.specs.Cases.{cases_of}
use Rattle.vector_list.specs.declared.VectorCase.{VectorCase}

-- "A line has f_code, past, code, residual and the vector": the one that the vector entry gives
unfoldable pub case_line : ℕ → VectorCase → List ℕ
case_line f_code c =
    field f_code space ++ (signed_field c.past space ++ (signed_field c.code space
    ++ (field c.residual space ++ signed_field (vector_value f_code c.past c.code c.residual) line_end)))

-- the lines of several cases
abbrev pub case_lines : ℕ → List VectorCase → List ℕ
case_lines f_code cases = joined (case_line f_code) cases

-- "for f_code 1, then 2"
unfoldable pub vector_list : List ℕ
vector_list = case_lines 1 (cases_of (f_of 1)) ++ case_lines 2 (cases_of (f_of 2))
