-- How far a whole number is from a multiple of a fraction, through sums and products. Assumes nothing.
use Prim.Native.Nat.{ℕ, zero, suc, ◌+◌, ◌*◌, ◌<◌, zero-le}
use mathlib.Core.List.{[], ◌∷◌}
use mathlib.Core.Path.{◌≡◌, refl}
use native.Mathlib.Omega.{arith}
use lib.IntN.{ℤ, pos, neg_ℤ, ◌+ℤ◌, ◌-ℤ◌, ◌*ℤ◌}
use Rattle.math.proofs.Bound.{within-add, within-neg, within-mul, within-self, within_more, within-eq}
use Rattle.math.proofs.Difference.{as-sub, subs}
use Rattle.math.proofs.Solve.{constant, ◌:+◌, ◌:-◌, ◌:*◌, solve-by, X0, X1, X2, X3, X4, X5, X6, X7}
use Rattle.math.specs.Bound.{Within}
use Rattle.math.specs.Sum.{sum_to}
use Rattle.theorems_accuracy.specs.Fraction.{Fraction, whole_fraction, plus, times, negation, sum_of}

-- |z − S × f| ≤ e
pub record About (S e : ℕ) (z : ℤ) (f : Fraction) : Type 0 where
  pub about : Within (e * f.denominator) (z *ℤ pos f.denominator -ℤ pos S *ℤ f.numerator)

pub about-plus : {S e k : ℕ} {z w : ℤ} {f g : Fraction} → About S e z f → About S k w g → About S (e + k) (z +ℤ w) (plus f g)
about-plus {S} {e} {k} {z} {w} {f} {g} p q = record {
  about =
      within_more (within-eq (split z w f.numerator g.numerator (pos f.denominator) (pos g.denominator) (pos S)) (within-add (within-mul (within-self (pos g.denominator)) p.about) (within-mul (within-self (pos f.denominator)) q.about))) (omega arith);
}
  where
    split : (z w x y d h s : ℤ) → (z +ℤ w) *ℤ (d *ℤ h) -ℤ s *ℤ (x *ℤ h +ℤ y *ℤ d) ≡ h *ℤ (z *ℤ d -ℤ s *ℤ x) +ℤ d *ℤ (w *ℤ h -ℤ s *ℤ y)
    split z w x y d h s =
        solve-by (z ∷ w ∷ x ∷ y ∷ d ∷ h ∷ s ∷ []) ((X0 :+ X1) :* (X4 :* X5) :- X6 :* (X2 :* X5 :+ X3 :* X4)) (X5 :* (X0 :* X4 :- X6 :* X2) :+ X4 :* (X1 :* X5 :- X6 :* X3)) refl

-- a product of two, where z is at most Z and g at most 1
pub about-times : {S R e k Z : ℕ} {z w : ℤ} {f g : Fraction} → About S e z f → About R k w g → Within Z z → Within g.denominator g.numerator → About (S * R) (Z * k + R * e) (z *ℤ w) (times f g)
about-times {S} {R} {e} {k} {Z} {z} {w} {f} {g} p q hz hg = record {
  about =
      within_more (within-eq (split z w f.numerator g.numerator (pos f.denominator) (pos g.denominator) (pos S) (pos R)) (within-add (within-mul (within-mul hz (within-self (pos f.denominator))) q.about) (within-mul (within-mul (within-self (pos R)) hg) p.about))) (omega arith);
}
  where
    split : (z w x y d h s r : ℤ) → (z *ℤ w) *ℤ (d *ℤ h) -ℤ (s *ℤ r) *ℤ (x *ℤ y) ≡ (z *ℤ d) *ℤ (w *ℤ h -ℤ r *ℤ y) +ℤ (r *ℤ y) *ℤ (z *ℤ d -ℤ s *ℤ x)
    split z w x y d h s r =
        solve-by (z ∷ w ∷ x ∷ y ∷ d ∷ h ∷ s ∷ r ∷ []) ((X0 :* X1) :* (X4 :* X5) :- (X6 :* X7) :* (X2 :* X3)) ((X0 :* X4) :* (X1 :* X5 :- X7 :* X3) :+ (X7 :* X3) :* (X0 :* X4 :- X6 :* X2)) refl

pub about-whole : {S e C : ℕ} {z : ℤ} {f : Fraction} (c : ℤ) → About S e z f → Within C c → About S (C * e) (z *ℤ c) (times f (whole_fraction c))
about-whole {S} {e} {C} {z} {f} c p h = record { about = within_more (within-eq (split z c f.numerator (pos f.denominator) (pos S)) (within-mul p.about h)) (omega arith) }
  where
    split : (z c x d s : ℤ) → (z *ℤ c) *ℤ (d *ℤ pos 1) -ℤ s *ℤ (x *ℤ c) ≡ (z *ℤ d -ℤ s *ℤ x) *ℤ c
    split z c x d s = solve-by (z ∷ c ∷ x ∷ d ∷ s ∷ []) ((X0 :* X1) :* (X3 :* constant (pos 1)) :- X4 :* (X2 :* X1)) ((X0 :* X3 :- X4 :* X2) :* X1) refl

pub about-sum : {S e : ℕ} (z : ℕ → ℤ) (f : ℕ → Fraction) (n : ℕ) → ((k : ℕ) → k < n → About S e (z k) (f k)) → About S (n * e) (sum_to z n) (sum_of f n)
unfolding sum_to sum_of
about-sum {S} z f zero h = record { about = within-eq (none (pos S)) (record { within = zero-le }) }
  where
    none : (s : ℤ) → pos 0 *ℤ pos 1 -ℤ s *ℤ pos 0 ≡ pos 0
    none s = solve-by (s ∷ []) (constant (pos 0) :* constant (pos 1) :- X0 :* constant (pos 0)) (constant (pos 0)) refl
about-sum {S} {e} z f (suc n) h = more (about-plus (about-sum z f n (λ k p. h k (omega arith))) (h n (omega arith)))
  where
    more : {x : ℤ} {g : Fraction} → About S (n * e + e) x g → About S (suc n * e) x g
    more {g} p = record { about = within_more p.about (omega arith) }

pub about-negation : {S e : ℕ} {z : ℤ} {f : Fraction} → About S e z f → About S e (pos 0 -ℤ z) (negation f)
about-negation {S} {e} {z} {f} p = record { about = within-eq (turn z f.numerator (pos f.denominator) (pos S)) (within-neg p.about) }
  where
    turn : (z x d s : ℤ) → (pos 0 -ℤ z) *ℤ d -ℤ s *ℤ (pos 0 -ℤ x) ≡ neg_ℤ (z *ℤ d -ℤ s *ℤ x)
    turn z x d s = rw (as-sub z, as-sub x, as-sub d, as-sub s) (simp subs (omega arith))
