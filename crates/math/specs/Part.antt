-- A part of a list, lent to a function and given back.
use Rattle.std.specs.Prelude.{List, ◌++◌, ℕ, take, drop}

-- the list l with f applied to its n elements from index `from` on: what a caller holds after lending that part
unfoldable pub part : {A : Type 0} → ℕ → ℕ → (List A → List A) → List A → List A
part from n f l = take from l ++ (f (take n (drop from l)) ++ drop n (drop from l))
