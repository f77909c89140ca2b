-- A transformed line of eight is the sum and the difference of an even and an odd half. Assumes nothing.
use Prim.Native.Nat.{ℕ, ◌+◌, ◌*◌, ◌^◌}
use mathlib.Core.List.{List, [], ◌∷◌}
use mathlib.Core.Path.{◌≡◌, refl}
use lib.IntN.{ℤ, pos, neg_ℤ, ◌+ℤ◌, ◌-ℤ◌, ◌*ℤ◌}
use Rattle.math.proofs.Bound.{within-mul}
use Rattle.math.proofs.Solve.{Expression, unknown, constant, ◌:+◌, ◌:-◌, ◌:*◌, solve-by}
use Rattle.math.proofs.Sum.{within-sum}
use Rattle.math.specs.Bound.{Within, at, AllWithin}
use Rattle.math.specs.Sum.{sum_to}
use Rattle.math.specs.Tab.{tab}
use Rattle.tables.specs.Tables.{cosines}
use Rattle.decode_idct.specs.Line.{line_sum, half_sum}
use Rattle.decode_idct.specs.Transform.{angle, cosine_factor, factor}

-- ---- the factors of the even and the odd frequencies at output indices 0 to 3, as the code's constants list them
abbrev pub even0 : List ℤ
even0 = at cosines 3 ∷ at cosines 1 ∷ at cosines 3 ∷ at cosines 5 ∷ []

abbrev pub even1 : List ℤ
even1 = at cosines 3 ∷ at cosines 5 ∷ neg_ℤ (at cosines 3) ∷ neg_ℤ (at cosines 1) ∷ []

abbrev pub even2 : List ℤ
even2 = at cosines 3 ∷ neg_ℤ (at cosines 5) ∷ neg_ℤ (at cosines 3) ∷ at cosines 1 ∷ []

abbrev pub even3 : List ℤ
even3 = at cosines 3 ∷ neg_ℤ (at cosines 1) ∷ at cosines 3 ∷ neg_ℤ (at cosines 5) ∷ []

abbrev pub odd0 : List ℤ
odd0 = at cosines 0 ∷ at cosines 2 ∷ at cosines 4 ∷ at cosines 6 ∷ []

abbrev pub odd1 : List ℤ
odd1 = at cosines 2 ∷ neg_ℤ (at cosines 6) ∷ neg_ℤ (at cosines 0) ∷ neg_ℤ (at cosines 4) ∷ []

abbrev pub odd2 : List ℤ
odd2 = at cosines 4 ∷ neg_ℤ (at cosines 0) ∷ at cosines 6 ∷ at cosines 2 ∷ []

abbrev pub odd3 : List ℤ
odd3 = at cosines 6 ∷ neg_ℤ (at cosines 4) ∷ at cosines 2 ∷ neg_ℤ (at cosines 0) ∷ []

pub half-within : (f x : List ℤ) (first : ℕ) → AllWithin (2 ^ 20) f → AllWithin (2 ^ 34) x → Within (2 ^ 56) (half_sum f x first)
half-within f x first s t = within-sum _ (2 ^ 54) 4 (λ k h. within-mul (s.all k) (t.all (first + 2 * k)))

-- ---- the sum and the difference of two halves, in the order of the frequencies
unfoldable pub mixed : List ℤ → List ℤ → List ℤ → ℤ
mixed e o x =
    pos 0 +ℤ at e 0 *ℤ at x 0 +ℤ at o 0 *ℤ at x 1 +ℤ at e 1 *ℤ at x 2 +ℤ at o 1 *ℤ at x 3
    +ℤ at e 2 *ℤ at x 4 +ℤ at o 2 *ℤ at x 5 +ℤ at e 3 *ℤ at x 6 +ℤ at o 3 *ℤ at x 7

unfoldable pub negated : List ℤ → List ℤ
negated o = (pos 0 -ℤ at o 0) ∷ (pos 0 -ℤ at o 1) ∷ (pos 0 -ℤ at o 2) ∷ (pos 0 -ℤ at o 3) ∷ []

abbrev unknowns : List ℤ → List ℤ → List ℤ → List ℤ
unknowns e o x = at e 0 ∷ at e 1 ∷ at e 2 ∷ at e 3 ∷ at o 0 ∷ at o 1 ∷ at o 2 ∷ at o 3 ∷ at x 0 ∷ at x 1 ∷ at x 2 ∷ at x 3 ∷ at x 4 ∷ at x 5 ∷ at x 6 ∷ at x 7 ∷ []

abbrev even : Expression
even = constant (pos 0) :+ unknown 0 :* unknown 8 :+ unknown 1 :* unknown 10 :+ unknown 2 :* unknown 12 :+ unknown 3 :* unknown 14

abbrev odd : Expression
odd = constant (pos 0) :+ unknown 4 :* unknown 9 :+ unknown 5 :* unknown 11 :+ unknown 6 :* unknown 13 :+ unknown 7 :* unknown 15

-- all eight products, the odd ones with a sign
abbrev all : (Expression → Expression) → Expression
all sign =
    constant (pos 0) :+ unknown 0 :* unknown 8 :+ sign (unknown 4) :* unknown 9 :+ unknown 1 :* unknown 10 :+ sign (unknown 5) :* unknown 11
    :+ unknown 2 :* unknown 12 :+ sign (unknown 6) :* unknown 13 :+ unknown 3 :* unknown 14 :+ sign (unknown 7) :* unknown 15

pub halves-sum : (e o x : List ℤ) → half_sum e x 0 +ℤ half_sum o x 1 ≡ mixed e o x
unfolding sum_to mixed
halves-sum e o x = solve-by (unknowns e o x) (even :+ odd) (all (λ z. z)) refl

pub halves-difference : (e o x : List ℤ) → half_sum e x 0 -ℤ half_sum o x 1 ≡ mixed e (negated o) x
unfolding sum_to mixed negated
halves-difference e o x = solve-by (unknowns e o x) (even :- odd) (all (λ z. constant (pos 0) :- z)) refl

-- all sixty-four factors, computed from the rule
pub line-is : (x : List ℤ) → mixed even0 odd0 x ∷ mixed even1 odd1 x ∷ mixed even2 odd2 x ∷ mixed even3 odd3 x ∷ mixed even3 (negated odd3) x ∷ mixed even2 (negated odd2) x ∷ mixed even1 (negated odd1) x ∷ mixed even0 (negated odd0) x ∷ [] ≡ tab 8 (line_sum x 0)
unfolding tab sum_to mixed negated factor cosine_factor angle
line-is x = refl
