-- Values stored one by one at indices that a function gives.
use Rattle.std.specs.Prelude.{List, ℕ, zero, suc, set}

-- the list l with value 0 at the index `index 0`, then value 1 at `index 1`, .., then value (n - 1) at `index (n - 1)`
unfoldable pub scatter : {A : Type 0} → (ℕ → ℕ) → (ℕ → A) → ℕ → List A → List A
scatter index value zero l = l
scatter index value (suc n) l = set (scatter index value n l) (index n) (value n)
