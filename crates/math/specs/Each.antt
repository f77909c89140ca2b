-- A property of each element of a list.
use Rattle.std.specs.Prelude.{List, [], ◌∷◌}

-- P holds for each of them
abbrev pub Each : {A : Type 0} → (A → Type 0) → List A → Type 0
Each P [] = Unit {0}
Each P (a ∷ l) = P a × Each P l
