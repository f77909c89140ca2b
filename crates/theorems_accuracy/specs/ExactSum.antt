-- The words of demand 3: coefficients in range, fractions between the ends, the exact sum, and a whole number within 9/16 of it.
use Rattle.std.specs.Prelude.{List, ℕ, ◌+◌, ◌*◌, ◌^◌, ◌<◌, ℤ, pos, negsuc}
use Rattle.std.proofs.Common.{lit<}
use Rattle.math.specs.Bound.{Between, at}
use Rattle.decode_idct.specs.Transform.{cosine_factor}
use Rattle.theorems_accuracy.specs.Ends.{low_end, high_end}
use Rattle.theorems_accuracy.specs.Fraction.{Fraction, ◌≼◌, whole_fraction, plus, times, negation, sum_of}

-- "sixty-four coefficients, each from -2048 to 2047": the numbers at indices 0 to 63 of a list; a missing one counts as 0
pub record CoefficientsInRange (c : List ℤ) : Type 0 where
  pub each : (k : ℕ) → k < 64 → Between (negsuc 2047) (pos 2047) (at c k)

-- n over 2^30
abbrev pub over30 : ℕ → Fraction
over30 n = record { numerator = pos n; denominator = 2 ^ 30; positive = lit< tt }

-- "seven fractions, each between the two ends that document 01 sets around its cosine, the ends included"
pub record BetweenEnds (x : ℕ → Fraction) : Type 0 where
  pub at_least : (i : ℕ) → i < 7 → over30 (low_end i) ≼ x i
  pub at_most : (i : ℕ) → i < 7 → x i ≼ over30 (high_end i)

-- "each factor being the fraction that stands for its cosine, with sign and u = 0 as above"
abbrev pub fraction_factor : (ℕ → Fraction) → ℕ → ℕ → Fraction
fraction_factor x p u = cosine_factor negation x p u

abbrev pub quarter : Fraction
quarter = record { numerator = pos 1; denominator = 4; positive = lit< tt }

-- "The exact sum at a place is a quarter of the sum of the 64 products horizontal factor × vertical factor × coefficient":
-- row q and column p
unfoldable pub exact_sum : (ℕ → Fraction) → List ℤ → ℕ → ℕ → Fraction
exact_sum x c q p =
    times quarter (sum_of (λ v. sum_of (λ u. times (times (fraction_factor x p u) (fraction_factor x q v)) (whole_fraction (at c (8 * v + u)))) 8) 8)

-- "lies within .. of": z is at most f + e, and f at most z + e
pub record LiesWithin (e : Fraction) (z : ℤ) (f : Fraction) : Type 0 where
  pub above : whole_fraction z ≼ plus f e
  pub below : f ≼ plus (whole_fraction z) e

-- "9/16"
abbrev pub nine_sixteenths : Fraction
nine_sixteenths = record { numerator = pos 9; denominator = 16; positive = lit< tt }
