-- The rows of a block that the transform works (document 02, No. 6); the row is the vertical frequency.
use Rattle.std.specs.Prelude.{Bool, not, List, ℕ, ◌+◌, ◌*◌, ℤ, pos}
use Rattle.math.specs.Test.{all_below, count_below}
use Rattle.math.specs.Bound.{at}
use Rattle.math.specs.Limit.{eq_z}

-- "a row of eight coefficients that are all zero"
unfoldable pub is_zero_row : List ℤ → ℕ → Bool
is_zero_row c v = all_below 8 (λ u. eq_z (at c (8 * v + u)) (pos 0))

-- "the rows with a coefficient not zero": how many of the eight
unfoldable pub rows_worked : List ℤ → ℕ
rows_worked c = count_below 8 (λ v. not (is_zero_row c v))
