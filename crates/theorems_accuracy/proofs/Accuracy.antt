-- Demand 3: the error of the table, of the sums and of the division, put together, and the test of the transform's entry. Assumes nothing.
use Prim.Native.Nat.{ℕ, ◌+◌, ◌*◌, ◌/◌, ◌%◌, ◌^◌, ◌<◌}
use mathlib.Core.Bool.{true}
use mathlib.Core.List.{List, [], ◌∷◌}
use mathlib.Core.Path.{◌≡◌, refl, sym, ◌∙◌, subst}
use native.Mathlib.Omega.{arith}
use lib.Dec.{lit<}
use lib.IntN.{ℤ, pos, neg_ℤ, nat_abs, ◌+ℤ◌, ◌-ℤ◌, ◌*ℤ◌}
use lib.Signed.{◌≤ℤ◌, ◌<ℤ◌}
use Rattle.math.proofs.Bound.{abs-parts, within-add, within-mul, within-literal, within-self, within_more, within-cancel, within-eq, within_both}
use Rattle.math.proofs.Difference.{le_of, parts-neg, as-sub, subs}
use Rattle.math.proofs.Divide.{floor-le, floor-lt}
use Rattle.math.proofs.Limit.{between-range, between-within}
use Rattle.math.proofs.Solve.{constant, ◌:+◌, ◌:-◌, ◌:*◌, solve-by, X0, X1, X2, X3, X4}
use Rattle.math.proofs.Sum.{sum-ext, sum-mul}
use Rattle.math.specs.Bound.{Within, at}
use Rattle.math.specs.Sum.{sum_to}
use Rattle.math.proofs.Tab.{tab-at}
use Rattle.math.proofs.Test.{all_pass}
use Rattle.refusals.specs.Refusal.{accepted}
use Rattle.decode_idct.proofs.Passes.{factor-within}
use Rattle.decode_idct.specs.Answer.{transform_entry_in_range, transform_number, transform_residues}
use Rattle.decode_idct.specs.Transform.{factor, double_sum, divided, inverse_transform, limited_residue, residues_by}
use Rattle.theorems_accuracy.proofs.About.{About, about-times, about-whole, about-sum}
use Rattle.theorems_accuracy.proofs.Nearness.{factor-stands}
use Rattle.theorems_accuracy.specs.ExactSum.{CoefficientsInRange, BetweenEnds, fraction_factor, quarter, exact_sum, LiesWithin, nine_sixteenths}
use Rattle.theorems_accuracy.specs.Fraction.{Fraction, whole_fraction, times, sum_of}

-- ---- the sum of the 64 products, scaled to the fractions
abbrev wide : ℕ → ℕ → ℤ
wide p u = pos (2 ^ 10) *ℤ factor p u

wide-sum : (c : List ℤ) (q p : ℕ) → sum_to (λ v. sum_to (λ u. (wide p u *ℤ wide q v) *ℤ at c (8 * v + u)) 8) 8 ≡ pos (2 ^ 20) *ℤ double_sum c q p
unfolding double_sum
wide-sum c q p =
    sum-ext _ _ 8 (λ v hv. sum-ext _ _ 8 (λ u hu. out (factor p u) (factor q v) (at c (8 * v + u))) ∙ sym (sum-mul (pos (2 ^ 20)) (λ u. (factor p u *ℤ factor q v) *ℤ at c (8 * v + u)) 8))
    ∙ sym (sum-mul (pos (2 ^ 20)) (λ v. sum_to (λ u. (factor p u *ℤ factor q v) *ℤ at c (8 * v + u)) 8) 8)
  where
    out : (a b c : ℤ) → ((pos (2 ^ 10) *ℤ a) *ℤ (pos (2 ^ 10) *ℤ b)) *ℤ c ≡ pos (2 ^ 20) *ℤ ((a *ℤ b) *ℤ c)
    out a b c = solve-by (a ∷ b ∷ c ∷ []) (((constant (pos (2 ^ 10)) :* X0) :* (constant (pos (2 ^ 10)) :* X1)) :* X2) (constant (pos (2 ^ 20)) :* ((X0 :* X1) :* X2)) refl

-- ---- the division by 2^42 downwards, of s + 2^41
divided-near : (s : ℤ) → Within (2 ^ 41) (pos (2 ^ 42) *ℤ divided s -ℤ s)
divided-near s = within_both (low (divided s) s (floor-lt (s +ℤ pos (2 ^ 41)) (2 ^ 42) (lit< tt))) (high (divided s) s (floor-le (s +ℤ pos (2 ^ 41)) (2 ^ 42) (lit< tt)))
  where
    low : (w s : ℤ) → (s +ℤ pos (2 ^ 41)) <ℤ (w *ℤ pos (2 ^ 42) +ℤ pos (2 ^ 42)) → neg_ℤ (pos (2 ^ 41)) ≤ℤ (pos (2 ^ 42) *ℤ w -ℤ s)
    low w s = rw (as-sub w, as-sub s) (simp subs (omega arith))

    high : (w s : ℤ) → (w *ℤ pos (2 ^ 42)) ≤ℤ (s +ℤ pos (2 ^ 41)) → (pos (2 ^ 42) *ℤ w -ℤ s) ≤ℤ pos (2 ^ 41)
    high w s = rw (as-sub w, as-sub s) (simp subs (omega arith))

-- ---- from a bound on b × (z × denominator − numerator) to the two inequalities of fractions, for any distance a / b
lies_within : (a b : ℕ) (h : 0 < b) (z : ℤ) (f : Fraction) → Within (a * f.denominator) (pos b *ℤ (z *ℤ pos f.denominator -ℤ f.numerator))
    → LiesWithin (record { numerator = pos a; denominator = b; positive = h }) z f
lies_within a b h z f p = record {
  above = record { crossed = upper z f.numerator f.denominator (at_most p) };
  below = record { crossed = lower z f.numerator f.denominator (at_least p) };
}
  where
    at_most : {n : ℕ} {y : ℤ} → Within n y → y ≤ℤ pos n
    at_most {n} {y} w = le_of y (pos n) (omega (arith, w.within, abs-parts y))

    at_least : {n : ℕ} {y : ℤ} → Within n y → neg_ℤ (pos n) ≤ℤ y
    at_least {n} {y} w = le_of (neg_ℤ (pos n)) y (omega (arith, w.within, abs-parts y, parts-neg (pos n)))

    upper : (z x : ℤ) (d : ℕ) → (pos b *ℤ (z *ℤ pos d -ℤ x)) ≤ℤ pos (a * d) → (z *ℤ pos (d * b)) ≤ℤ ((x *ℤ pos b +ℤ pos a *ℤ pos d) *ℤ pos 1)
    upper z x d = rw (as-sub z, as-sub x) (simp subs (omega arith))

    lower : (z x : ℤ) (d : ℕ) → neg_ℤ (pos (a * d)) ≤ℤ (pos b *ℤ (z *ℤ pos d -ℤ x)) → (x *ℤ pos (1 * b)) ≤ℤ ((z *ℤ pos b +ℤ pos a *ℤ pos 1) *ℤ pos d)
    lower z x d = rw (as-sub z, as-sub x) (simp subs (omega arith))

coefficient-within : {c : List ℤ} → CoefficientsInRange c → (k : ℕ) → k < 64 → Within 2048 (at c k)
coefficient-within m k h = between-within (m.each k h) (within-literal tt) (within-literal tt)

-- ---- the distance of the transform's number from the exact sum: the division downwards moves it by at most 2^61 over 2^62, a half, and the
-- table by at most 2^58 over 2^62, a sixteenth
pub near : (c : List ℤ) → CoefficientsInRange c → (x : ℕ → Fraction) → BetweenEnds x → (k : ℕ) → k < 64 → LiesWithin nine_sixteenths (inverse_transform c k) (exact_sum x c (k / 8) (k % 8))
unfolding inverse_transform exact_sum
near c m x b k h =
    lies_within (nat_abs nine_sixteenths.numerator) nine_sixteenths.denominator nine_sixteenths.positive (divided (double_sum c q p)) (times quarter sums)
    (close sums (subst (λ (z : ℤ). About (2 ^ 60) (2 ^ 58) z sums) (wide-sum c q p) near-sums))
  where
    q : ℕ
    q = k / 8

    p : ℕ
    p = k % 8

    term : ℕ → ℕ → Fraction
    term v u = times (times (fraction_factor x p u) (fraction_factor x q v)) (whole_fraction (at c (8 * v + u)))

    sums : Fraction
    sums = sum_of (λ v. sum_of (term v) 8) 8

    near-sums : About (2 ^ 60) (2 ^ 58) (sum_to (λ v. sum_to (λ u. (wide p u *ℤ wide q v) *ℤ at c (8 * v + u)) 8) 8) sums
    near-sums = about-sum _ _ 8 (λ v hv. about-sum _ (term v) 8 (λ u hu.
        let hp : k % 8 < 8 = omega arith in
        let hq : k / 8 < 8 = omega arith in
        let a = factor-stands x b p u hp hu in
        let d = factor-stands x b q v hq hv in
        about-whole (at c (8 * v + u)) (about-times a.close d.close (within-mul (within-self (pos (2 ^ 10))) (factor-within p u hp hu)) d.one) (coefficient-within m (8 * v + u) (omega arith))))

    close : (f : Fraction) → About (2 ^ 60) (2 ^ 58) (pos (2 ^ 20) *ℤ double_sum c q p) f
        → Within (nat_abs nine_sixteenths.numerator * (quarter.denominator * f.denominator)) (pos nine_sixteenths.denominator *ℤ (divided (double_sum c q p) *ℤ pos (quarter.denominator * f.denominator) -ℤ quarter.numerator *ℤ f.numerator))
    close f a = within-cancel (2 ^ 60) (lit< tt) (within-eq (parts (pos nine_sixteenths.denominator) (divided (double_sum c q p)) (double_sum c q p) f.numerator (pos f.denominator))
        (within_more (within-mul (within-self (pos nine_sixteenths.denominator)) (within-add (within-mul (within-self (pos (2 ^ 20 * f.denominator))) (divided-near (double_sum c q p))) a.about)) (omega arith)))
      where
        parts : (b w s x d : ℤ) → pos (2 ^ 60) *ℤ (b *ℤ (w *ℤ (pos quarter.denominator *ℤ d) -ℤ quarter.numerator *ℤ x)) ≡ b *ℤ ((pos (2 ^ 20) *ℤ d) *ℤ (pos (2 ^ 42) *ℤ w -ℤ s) +ℤ ((pos (2 ^ 20) *ℤ s) *ℤ d -ℤ pos (2 ^ 60) *ℤ x))
        parts b w s x d = solve-by (b ∷ w ∷ s ∷ x ∷ d ∷ [])
            (constant (pos (2 ^ 60)) :* (X0 :* (X1 :* (constant (pos quarter.denominator) :* X4) :- constant quarter.numerator :* X3)))
            (X0 :* ((constant (pos (2 ^ 20)) :* X4) :* (constant (pos (2 ^ 42)) :* X1 :- X2) :+ ((constant (pos (2 ^ 20)) :* X2) :* X4 :- constant (pos (2 ^ 60)) :* X3))) refl

-- ---- the entry's own test
in-range : (c : List ℤ) → CoefficientsInRange c → transform_entry_in_range c ≡ true
unfolding transform_entry_in_range
in-range c m = all_pass 64 _ (λ k h. between-range (m.each k h))

pub accepts : (c : List ℤ) → CoefficientsInRange c → transform_number c ≡ accepted
accepts c m = rw (in-range c m)

pub gives : (c : List ℤ) → CoefficientsInRange c → (k : ℕ) → k < 64 → at (transform_residues c) k ≡ limited_residue (inverse_transform c k)
unfolding residues_by
gives c m k h = rw (in-range c m) (tab-at 64 (λ j. limited_residue (inverse_transform c j)) k (pos 0) h)
