-- The cases that are legal for one f, in order (document 02, No. 11). A case, which is that document's word, is an input of the vector entry without
-- its f_code: past, code and residual.
use Rattle.std.specs.Prelude.{cond, List, ℕ, ◌*◌, ℤ, pos, neg_ℤ, ◌+ℤ◌}
use Rattle.math.specs.Joined.{joined}
use Rattle.math.specs.Limit.{eq_z}
use Rattle.math.specs.Tab.{tab}
use Rattle.decode_vectors.specs.Vector.{lowest}
use Rattle.vector_list.specs.declared.VectorCase.{VectorCase}

-- how many pasts there are: -16f..16f-1
abbrev pub past_count : ℕ → ℕ
past_count f = 32 * f

-- how many codes there are: "a code is -16..16"
abbrev pub code_count : ℕ
code_count = 33

-- how many residuals a code has: "its residual is below f, and 0 when the code is 0"
unfoldable pub residual_count : ℕ → ℤ → ℕ
residual_count f code = cond (eq_z code (pos 0)) 1 f

-- n integers, rising from `low`
abbrev pub integers_from : ℤ → ℕ → List ℤ
integers_from low n = tab n (λ k. low +ℤ pos k)

-- "past rising over its range": -16f, .., 16f - 1
abbrev pub pasts : ℕ → List ℤ
pasts f = integers_from (lowest (pos f)) (past_count f)

-- "then code rising": -16, .., 16
abbrev pub codes : List ℤ
codes = integers_from (neg_ℤ (pos 16)) code_count

-- "then residual rising": the cases of one past and code
unfoldable pub cases_of_code : ℕ → ℤ → ℤ → List VectorCase
cases_of_code f past code = tab (residual_count f code) (λ residual. record { past = past; code = code; residual = residual })

-- the cases of one past
unfoldable pub cases_of_past : ℕ → ℤ → List VectorCase
cases_of_past f past = joined (cases_of_code f past) codes

-- the cases of all pasts
unfoldable pub cases_of : ℕ → List VectorCase
cases_of f = joined (cases_of_past f) (pasts f)
