-- Bounds on an integer, by absolute value or by range, and on every integer of a list.
use Rattle.std.specs.Prelude.{List, ℕ, ◌≤◌, ℤ, pos, nat_abs, get_or, ◌≤ℤ◌}

-- -b ≤ z ≤ b
pub record Within (b : ℕ) (z : ℤ) : Type 0 where
  pub within : nat_abs z ≤ b

-- low ≤ z ≤ high
pub record Between (low high z : ℤ) : Type 0 where
  pub lower : low ≤ℤ z
  pub upper : z ≤ℤ high

-- the element at index k, and 0 past the end
abbrev pub at : List ℤ → ℕ → ℤ
at l k = get_or l k (pos 0)

-- each element is from -b to b
pub record AllWithin (b : ℕ) (l : List ℤ) : Type 0 where
  pub all : (k : ℕ) → Within b (at l k)

-- each element is from low to high, and so is the 0 that `at` gives past the end
pub record AllBetween (low high : ℤ) (l : List ℤ) : Type 0 where
  pub all : (k : ℕ) → Between low high (at l k)
