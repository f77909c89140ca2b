-- The properties of the seven cosines that document 01 names, in any linearly ordered commutative ring.
use Rattle.std.specs.Prelude.{◌≡◌, ℕ, ◌^◌, ◌<◌}
use Rattle.theorems_accuracy.specs.OrderedRing.{OrderedRing, AtMost, whole}

abbrev pub two : (S : OrderedRing) → S.Element
two S = S.plus S.one S.one

-- 2 × a, and the square of it
abbrev pub double : (S : OrderedRing) → S.Element → S.Element
double S a = S.times (two S) a

abbrev pub square_of_double : (S : OrderedRing) → S.Element → S.Element
square_of_double S a = S.times (double S a) (double S a)

-- "all seven are above 0; the square of (2 × the 4th) is 2; the squares of (2 × the 2nd) and (2 × the 6th) are 2 plus and minus
-- 2 × the 4th; the 1st and 7th likewise from the 2nd; the 3rd and 5th from the 6th". The i-th is c (i - 1)
pub record Cosines (S : OrderedRing) (c : ℕ → S.Element) : Type 0 where
  pub above : (i : ℕ) → i < 7 → S.Less S.zero (c i)
  pub fourth : square_of_double S (c 3) ≡ two S
  pub second : square_of_double S (c 1) ≡ S.plus (two S) (double S (c 3))
  pub sixth : square_of_double S (c 5) ≡ S.plus (two S) (S.negation (double S (c 3)))
  pub first : square_of_double S (c 0) ≡ S.plus (two S) (double S (c 1))
  pub seventh : square_of_double S (c 6) ≡ S.plus (two S) (S.negation (double S (c 1)))
  pub third : square_of_double S (c 2) ≡ S.plus (two S) (double S (c 5))
  pub fifth : square_of_double S (c 4) ≡ S.plus (two S) (S.negation (double S (c 5)))

-- 2^30 times an element lies between two whole numbers, these included
pub record HeldBetween (S : OrderedRing) (low high : ℕ) (a : S.Element) : Type 0 where
  pub at_least : AtMost S (whole S low) (S.times (whole S (2 ^ 30)) a)
  pub at_most : AtMost S (S.times (whole S (2 ^ 30)) a) (whole S high)
