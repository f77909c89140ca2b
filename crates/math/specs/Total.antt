-- The sum of a list of numbers.
use Rattle.std.specs.Prelude.{List, [], ◌∷◌, ℕ, ◌+◌}

unfoldable pub total : List ℕ → ℕ
total [] = 0
total (first ∷ rest) = first + total rest
