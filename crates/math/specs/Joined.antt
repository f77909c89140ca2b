-- Concatenation: the lists that a function gives for the elements of a list, joined in order.
use Rattle.std.specs.Prelude.{List, [], ◌∷◌, ◌++◌}

unfoldable pub joined : {A B : Type 0} → (A → List B) → List A → List B
joined f [] = []
joined f (first ∷ rest) = f first ++ joined f rest
