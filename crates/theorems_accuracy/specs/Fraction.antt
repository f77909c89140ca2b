-- Fractions, their order, and sums and products of them.
use Rattle.std.specs.Prelude.{ℕ, zero, suc, ◌*◌, ◌<◌, ℤ, pos, ◌+ℤ◌, ◌-ℤ◌, ◌*ℤ◌, ◌≤ℤ◌}
use Rattle.std.proofs.Common.{mul-pos, lit<}

-- "any whole number over any positive one"
pub record Fraction : Type 0 where
  pub numerator : ℤ
  pub denominator : ℕ
  pub positive : 0 < denominator

-- f is at most g, by cross multiplication
infix 50 ◌≼◌
pub record ◌≼◌ (f g : Fraction) : Type 0 where
  pub crossed : (f.numerator *ℤ pos g.denominator) ≤ℤ (g.numerator *ℤ pos f.denominator)

-- a whole number as a fraction
abbrev pub whole_fraction : ℤ → Fraction
whole_fraction z = record { numerator = z; denominator = 1; positive = lit< tt }

abbrev pub plus : Fraction → Fraction → Fraction
plus f g = record {
  numerator = f.numerator *ℤ pos g.denominator +ℤ g.numerator *ℤ pos f.denominator;
  denominator = f.denominator * g.denominator;
  positive = mul-pos f.positive g.positive;
}

abbrev pub times : Fraction → Fraction → Fraction
times f g = record {
  numerator = f.numerator *ℤ g.numerator;
  denominator = f.denominator * g.denominator;
  positive = mul-pos f.positive g.positive;
}

abbrev pub negation : Fraction → Fraction
negation f = record { numerator = pos 0 -ℤ f.numerator; denominator = f.denominator; positive = f.positive }

-- f 0 + f 1 + .. + f (n - 1)
unfoldable pub sum_of : (ℕ → Fraction) → ℕ → Fraction
sum_of f zero = whole_fraction (pos 0)
sum_of f (suc n) = plus (sum_of f n) (f n)
