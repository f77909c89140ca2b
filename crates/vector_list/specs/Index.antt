-- Which cases are legal, which of two comes first, and where each legal one is in the list. The theorems need these; no contract does.
use Rattle.std.specs.Prelude.{Bool, cond, ◌&&◌, ◌≡◌, ℕ, ◌+◌, ◌-◌, ◌*◌, ◌<◌, ℤ, pos, nat_abs, ◌-ℤ◌, ◌<ℤ◌}
use Rattle.std.specs.Int.Signed.{lt_z}
use Rattle.decode_vectors.specs.Vector.{lowest, code_in_range, residual_in_range, past_in_range}
use Rattle.vector_list.specs.declared.VectorCase.{VectorCase}

-- whether a case is legal for an f, by the vector entry's own tests
unfoldable pub legal_case : ℕ → VectorCase → Bool
legal_case f c = past_in_range f c.past && code_in_range c.code && residual_in_range f c.code c.residual

-- which of two cases comes first: "past rising over its range, then code rising, then residual rising"
pub data Before (a b : VectorCase) : Type 0 where
  by-past : a.past <ℤ b.past → Before a b
  by_code : a.past ≡ b.past → a.code <ℤ b.code → Before a b
  by-residual : a.past ≡ b.past → a.code ≡ b.code → a.residual < b.residual → Before a b

-- how many cases of one past have a smaller code: f for each smaller code, except that code 0 has one. Below a code above 0 there are 15 + |code|
-- codes other than 0, and code 0; below any other, 16 - |code| codes
unfoldable pub cases_below_code : ℕ → ℤ → ℕ
cases_below_code f code = cond (lt_z (pos 0) code) ((15 + nat_abs code) * f + 1) ((16 - nat_abs code) * f)

-- the index of a legal case, from 0: 32f + 1 for each smaller past, then the cases of its past with a smaller code, then its residual
unfoldable pub index_of : ℕ → VectorCase → ℕ
index_of f c = nat_abs (c.past -ℤ lowest (pos f)) * (32 * f + 1) + (cases_below_code f c.code + c.residual)
