-- The factors of the table are near any seven fractions between the ends. Assumes nothing.
use Prim.Native.Nat.{ℕ, ◌+◌, ◌-◌, ◌*◌, ◌^◌, ◌≤◌, ◌<◌}
use mathlib.Core.Bool.{Bool, true, false, cond, not, ◌&&◌, ◌||◌}
use mathlib.Core.List.{[], ◌∷◌}
use mathlib.Core.Path.{◌≡◌, refl, sym, subst}
use native.Mathlib.Nat.{mul-le-mul_right}
use native.Mathlib.Omega.{arith}
use lib.Dec.{T, ltb, leb, eqb, lit<, leb→le, ltb→lt, nltb→le, T_not}
use lib.IntN.{ℤ, pos, neg_ℤ, nat_abs, ◌-ℤ◌, ◌*ℤ◌, +ℤ_idl, *ℤ_comm}
use lib.Signed.{non_neg, ◌≤ℤ◌, pos-nat_abs}
use Rattle.math.proofs.Bound.{within-neg, within-cancel, within-eq, within_both}
use Rattle.math.proofs.Difference.{as-sub, subs}
use Rattle.math.proofs.Solve.{constant, ◌:-◌, ◌:*◌, solve-by, X0, X1, X2}
use Rattle.math.specs.Bound.{Within, at}
use Rattle.math.proofs.Test.{and_left, and_right, at-below, at-below₂}
use Rattle.math.specs.Test.{all_below}
use Rattle.tables.specs.Tables.{cosines}
use Rattle.decode_idct.specs.Transform.{angle, cosine_factor, factor}
use Rattle.theorems_accuracy.proofs.About.{About, about-negation}
use Rattle.theorems_accuracy.specs.Ends.{low_ends, high_ends, low_end, high_end, Near}
use Rattle.theorems_accuracy.specs.ExactSum.{over30, BetweenEnds, fraction_factor}
use Rattle.theorems_accuracy.specs.Fraction.{Fraction, ◌≼◌, negation}

-- ---- one computed test over the seven entries
is_near : ℤ → ℕ → ℕ → Bool
is_near z l h = leb h (l + 16) && (non_neg z && (leb (2 ^ 10 * nat_abs z) (l + 2 ^ 10) && (leb h (2 ^ 10 * nat_abs z + 2 ^ 10) && leb h (2 ^ 30))))

all_near : T (all_below 7 (λ i. is_near (at cosines i) (low_end i) (high_end i)))
unfolding all_below is_near low_ends high_ends
all_near = tt

near_of : (z : ℤ) (l h : ℕ) → T (is_near z l h) → Near z l h
unfolding is_near
near_of z l h t =
    let s = and_right (leb h (l + 16)) _ t in
    let r = and_right (non_neg z) _ s in
    let q = and_right (leb (2 ^ 10 * nat_abs z) (l + 2 ^ 10)) _ r in
    record {
      apart = leb→le _ _ (and_left (leb h (l + 16)) _ t);
      not_negative = pos-nat_abs z (and_left (non_neg z) _ s);
      below-low = leb→le _ _ (and_left (leb (2 ^ 10 * nat_abs z) (l + 2 ^ 10)) _ r);
      above-high = leb→le _ _ (and_left (leb h (2 ^ 10 * nat_abs z + 2 ^ 10)) _ q);
      at_most_one = leb→le _ _ (and_right (leb h (2 ^ 10 * nat_abs z + 2 ^ 10)) _ q);
    }

-- what the test says of each entry
pub near : (i : ℕ) → i < 7 → Near (at cosines i) (low_end i) (high_end i)
near i h = near_of (at cosines i) (low_end i) (high_end i) (at-below 7 (λ j. is_near (at cosines j) (low_end j) (high_end j)) all_near i h)

-- ---- a number between L and H is within E of A
within-ends : (y : ℤ) (A L H E : ℕ) → pos L ≤ℤ y → y ≤ℤ pos H → A ≤ L + E → H ≤ A + E → Within E (pos A -ℤ y)
within-ends y A L H E p q h k = within_both (lo y A H E q k) (hi y A L E p h)
  where
    lo : (y : ℤ) (A H E : ℕ) → y ≤ℤ pos H → H ≤ A + E → neg_ℤ (pos E) ≤ℤ (pos A -ℤ y)
    lo y A H E = rw (as-sub y) (simp subs (omega arith))

    hi : (y : ℤ) (A L E : ℕ) → pos L ≤ℤ y → A ≤ L + E → (pos A -ℤ y) ≤ℤ pos E
    hi y A L E = rw (as-sub y) (simp subs (omega arith))

-- ---- an entry z of the table stands for a fraction f
pub record Stands (z : ℤ) (f : Fraction) : Type 0 where
  pub close : About (2 ^ 30) (2 ^ 10) (pos (2 ^ 10) *ℤ z) f
  pub one : Within f.denominator f.numerator

entry-stands : (x : ℕ → Fraction) → BetweenEnds x → (i : ℕ) → i < 7 → Stands (at cosines i) (x i)
entry-stands x b i h = go (at cosines i) (low_end i) (high_end i) (x i) (near i h) (b.at_least i h) (b.at_most i h)
  where
    go : (z : ℤ) (l k : ℕ) (f : Fraction) → Near z l k → over30 l ≼ f → f ≼ over30 k → Stands z f
    go z l k f e p q = record {
      close = record {
        about = subst (λ (y : ℤ). Within (2 ^ 10 * f.denominator) (pos (2 ^ 10) *ℤ y *ℤ pos f.denominator -ℤ pos (2 ^ 30) *ℤ f.numerator)) e.not_negative
            (within-ends (pos (2 ^ 30) *ℤ f.numerator) (2 ^ 10 * nat_abs z * f.denominator) (l * f.denominator) (k * f.denominator) (2 ^ 10 * f.denominator) at_least at_most
            (omega (arith, mul-le-mul_right f.denominator e.below-low)) (omega (arith, mul-le-mul_right f.denominator e.above-high)));
      };
      one = within-cancel (2 ^ 30) (lit< tt) (within_both (low (pos (2 ^ 30) *ℤ f.numerator) at_least) (high (pos (2 ^ 30) *ℤ f.numerator) at_most (mul-le-mul_right f.denominator e.at_most_one)));
    }
      where
        at_least : pos (l * f.denominator) ≤ℤ (pos (2 ^ 30) *ℤ f.numerator)
        at_least = subst (λ (y : ℤ). pos (l * f.denominator) ≤ℤ y) (*ℤ_comm f.numerator (pos (2 ^ 30))) p.crossed

        at_most : (pos (2 ^ 30) *ℤ f.numerator) ≤ℤ pos (k * f.denominator)
        at_most = subst (λ (y : ℤ). y ≤ℤ pos (k * f.denominator)) (*ℤ_comm f.numerator (pos (2 ^ 30))) q.crossed

        low : (y : ℤ) → pos (l * f.denominator) ≤ℤ y → neg_ℤ (pos (2 ^ 30 * f.denominator)) ≤ℤ y
        low y = rw (as-sub y) (simp subs (omega arith))

        high : (y : ℤ) → y ≤ℤ pos (k * f.denominator) → k * f.denominator ≤ 2 ^ 30 * f.denominator → y ≤ℤ pos (2 ^ 30 * f.denominator)
        high y = rw (as-sub y) (simp subs (omega arith))

stands-negation : {z : ℤ} {f : Fraction} → Stands z f → Stands (pos 0 -ℤ z) (negation f)
stands-negation {z} {f} s = record {
  close = record { about = within-eq (outside z (pos f.denominator) (pos (2 ^ 30) *ℤ (pos 0 -ℤ f.numerator))) (about-negation s.close).about };
  one = within-eq (plain f.numerator) (within-neg s.one);
}
  where
    outside : (z d y : ℤ) → pos (2 ^ 10) *ℤ (pos 0 -ℤ z) *ℤ d -ℤ y ≡ (pos 0 -ℤ pos (2 ^ 10) *ℤ z) *ℤ d -ℤ y
    outside z d y = solve-by (z ∷ d ∷ y ∷ []) (constant (pos (2 ^ 10)) :* (constant (pos 0) :- X0) :* X1 :- X2) ((constant (pos 0) :- constant (pos (2 ^ 10)) :* X0) :* X1 :- X2) refl

    plain : (x : ℤ) → pos 0 -ℤ x ≡ neg_ℤ x
    plain x = +ℤ_idl (neg_ℤ x)

-- ---- the angle of a frequency above 0 is 1 to 15 and not 8
angle_ok : ℕ → ℕ → Bool
angle_ok p u = eqb u 0 || ((ltb 0 (angle p u) && ltb (angle p u) 16) && not (eqb (angle p u) 8))

angles-ok : T (all_below 8 (λ p. all_below 8 (angle_ok p)))
unfolding all_below angle_ok angle
angles-ok = tt

record Angle (k : ℕ) : Type 0 where
  least : 0 < k
  most : k < 16
  other : k ≡ 8 → ⊥

angle-ok : (p u : ℕ) → p < 8 → u < 8 → T (not (eqb u 0)) → Angle (angle p u)
unfolding angle_ok
angle-ok p u hp hu t = go (eqb u 0) (angle p u) t (at-below₂ 8 8 angle_ok angles-ok p u hp hu)
  where
    go : (b : Bool) (k : ℕ) → T (not b) → T (b || ((ltb 0 k && ltb k 16) && not (eqb k 8))) → Angle k
    go true k n s = absurd n
    go false k n s =
        let a = and_left (ltb 0 k && ltb k 16) (not (eqb k 8)) s in
        record {
          least = ltb→lt 0 k (and_left (ltb 0 k) (ltb k 16) a);
          most = ltb→lt k 16 (and_right (ltb 0 k) (ltb k 16) a);
          other = λ e. T_not (eqb k 8) (and_right (ltb 0 k && ltb k 16) (not (eqb k 8)) s) (subst (λ (m : ℕ). T (eqb m 8)) (sym e) tt);
        }

cond₂ : {A B : Type 0} (Q : A → B → Type 0) (b : Bool) {x y : A} {v w : B} → (T b → Q x v) → (T (not b) → Q y w) → Q (cond b x y) (cond b v w)
cond₂ Q true f g = f tt
cond₂ Q false f g = g tt

pub factor-stands : (x : ℕ → Fraction) → BetweenEnds x → (p u : ℕ) → p < 8 → u < 8 → Stands (factor p u) (fraction_factor x p u)
unfolding factor cosine_factor
factor-stands x b p u hp hu = cond₂ Stands (eqb u 0) (λ t. entry-stands x b 3 (lit< tt)) (λ t.
    let a = angle-ok p u hp hu t in
    cond₂ Stands (ltb (angle p u) 8)
    (λ s. let l : angle p u < 8 = ltb→lt (angle p u) 8 s in entry-stands x b (angle p u - 1) (omega (arith, a.least)))
    (λ s. let l : 8 ≤ angle p u = nltb→le (angle p u) 8 s in stands-negation (entry-stands x b (15 - angle p u) (omega (arith, a.most, a.other)))))
