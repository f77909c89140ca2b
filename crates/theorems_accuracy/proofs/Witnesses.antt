-- The hypotheses of demand 3 can be met, and a transform of zeros does not meet it: blocks and fractions are tested at every raster index,
-- by computing. Assumes nothing.
use Prim.Native.Nat.{ℕ, ◌*◌, ◌/◌, ◌%◌, ◌^◌, ◌<◌}
use mathlib.Core.Bool.{true}
use mathlib.Core.List.{List}
use mathlib.Core.Path.{◌≡◌, refl, ap, subst}
use native.Mathlib.Omega.{arith}
use lib.Dec.{T, eqb→eq}
use lib.IntN.{ℤ, pos, negsuc, ◌+ℤ◌, ◌*ℤ◌}
use lib.ListN.{replicate}
use lib.Signed.{◌≤ℤ◌, le_z, le_z_yes, ≤ℤ_refl}
use Rattle.math.proofs.Difference.{as-sub, subs}
use Rattle.math.proofs.Limit.{range-between}
use Rattle.math.specs.Bound.{at}
use Rattle.math.specs.Limit.{eq_z}
use Rattle.math.specs.Sum.{sum_to}
use Rattle.math.proofs.Test.{at-below, all-passed}
use Rattle.math.specs.Test.{all_below}
use Rattle.decode_idct.specs.Answer.{transform_entry_in_range}
use Rattle.decode_idct.specs.Transform.{angle, cosine_factor, factor, double_sum, inverse_transform, dc_alone}
use Rattle.theorems_accuracy.proofs.Accuracy.{near}
use Rattle.theorems_accuracy.specs.Ends.{low_ends, high_ends, low_end, high_end}
use Rattle.theorems_accuracy.specs.ExactSum.{over30, CoefficientsInRange, BetweenEnds, exact_sum, LiesWithin, nine_sixteenths}
use Rattle.theorems_accuracy.specs.Fraction.{Fraction, ◌≼◌}

-- ---- coefficients that pass the entry's test
tested : (c : List ℤ) → transform_entry_in_range c ≡ true → CoefficientsInRange c
unfolding transform_entry_in_range
tested c e = record { each = λ k h. range-between (negsuc 2047) (pos 2047) (at c k) (all-passed 64 _ e k h) }

-- ---- each low end is at most its high end
ends-test : T (all_below 7 (λ i. le_z (pos (low_end i) *ℤ pos (2 ^ 30)) (pos (high_end i) *ℤ pos (2 ^ 30))))
unfolding all_below low_ends high_ends
ends-test = tt

ends-ordered : (i : ℕ) → i < 7 → over30 (low_end i) ≼ over30 (high_end i)
ends-ordered i h = record { crossed = le_z_yes (at-below 7 _ ends-test i h) }

end-itself : (n : ℕ) → over30 n ≼ over30 n
end-itself n = record { crossed = ≤ℤ_refl _ }

pub least-met : CoefficientsInRange (replicate 64 (negsuc 2047))
unfolding transform_entry_in_range all_below
least-met = tested _ refl

pub greatest-met : CoefficientsInRange (replicate 64 (pos 2047))
unfolding transform_entry_in_range all_below
greatest-met = tested _ refl

pub low-met : BetweenEnds (λ i. over30 (low_end i))
low-met = record { at_least = λ i h. end-itself (low_end i); at_most = ends-ordered }

pub high-met : BetweenEnds (λ i. over30 (high_end i))
high-met = record { at_least = ends-ordered; at_most = λ i h. end-itself (high_end i) }

-- ---- with DC 2040 alone the transform's number is 255 at each of the sixty-four raster indices
number-test : T (all_below 64 (λ k. eq_z (inverse_transform (dc_alone 2040) k) (pos 255)))
unfolding all_below sum_to angle cosine_factor factor double_sum inverse_transform
number-test = tt

number : (k : ℕ) → k < 64 → inverse_transform (dc_alone 2040) k ≡ pos 255
number k h = is (inverse_transform (dc_alone 2040) k) (at-below 64 _ number-test k h)
  where
    is : (z : ℤ) → T (eq_z z (pos 255)) → z ≡ pos 255
    is (pos n) t = ap pos (eqb→eq n 255 t)
    is (negsuc n) t = absurd t

-- 255 and 0 are not both within 9/16 of one fraction
apart : (f : Fraction) → LiesWithin nine_sixteenths (pos 255) f → LiesWithin nine_sixteenths (pos 0) f → ⊥
apart f w z = go f.numerator f.denominator f.positive w.above.crossed z.below.crossed
  where
    go : (x : ℤ) (d : ℕ) → 0 < d
        → (pos 255 *ℤ pos (d * nine_sixteenths.denominator)) ≤ℤ ((x *ℤ pos nine_sixteenths.denominator +ℤ nine_sixteenths.numerator *ℤ pos d) *ℤ pos 1)
        → (x *ℤ pos (1 * nine_sixteenths.denominator)) ≤ℤ ((pos 0 *ℤ pos nine_sixteenths.denominator +ℤ nine_sixteenths.numerator *ℤ pos 1) *ℤ pos d) → ⊥
    go x d = rw (as-sub x) (simp subs (omega arith))

pub dc-met : CoefficientsInRange (dc_alone 2040)
unfolding transform_entry_in_range all_below
dc-met = tested _ refl

pub zeros-miss : (x : ℕ → Fraction) → BetweenEnds x → (k : ℕ) → k < 64 → LiesWithin nine_sixteenths (pos 0) (exact_sum x (dc_alone 2040) (k / 8) (k % 8)) → ⊥
zeros-miss x b k h =
    apart (exact_sum x (dc_alone 2040) (k / 8) (k % 8))
    (subst (λ (z : ℤ). LiesWithin nine_sixteenths z (exact_sum x (dc_alone 2040) (k / 8) (k % 8))) (number k h) (near (dc_alone 2040) dc-met x b k h))
