-- A block with a DC alone: the double sum is one product, and at most the first row is worked. Assumes nothing.
use Prim.Native.Nat.{ℕ, zero, suc, ◌+◌, ◌-◌, ◌*◌, ◌/◌, ◌%◌, ◌<◌}
use mathlib.Core.Bool.{Bool, true, false, not, cond}
use mathlib.Core.List.{List}
use mathlib.Core.Path.{◌≡◌, refl, ap, ◌∙◌}
use native.Mathlib.Decide.{ℕ_discrete}
use native.Mathlib.Omega.{arith}
use borrow.Author.Tests.{ne_eqb}
use lib.Dec.{eqb}
use lib.IntN.{ℤ, pos, ◌*ℤ◌, *ℤ-zero}
use lib.ListN.{replicate}
use Rattle.math.specs.Bound.{at}
use Rattle.math.specs.Limit.{eq_z}
use Rattle.math.specs.Tab.{tab}
use Rattle.math.specs.Test.{count_below}
use Rattle.math.proofs.Compare.{eq_z-true, eq-eq_z}
use Rattle.math.proofs.Sum.{sum-ext, sum-zero, sum_first}
use Rattle.math.proofs.Tab.{tab-ext}
use Rattle.math.proofs.Test.{all_pass, all-passed, one-fails, count-ext}
use Rattle.decode_coefficients.specs.Rows.{is_zero_row, rows_worked}
use Rattle.decode_coefficients.proofs.MarkLaws.{is_dc_alone}
use Rattle.decode_idct.specs.Line.{dc_sum, residue_of}
use Rattle.decode_idct.specs.Transform.{cosine_factor, factor, row_sum, double_sum, inverse_transform, residues_by}

module _ (c : List ℤ) (alone : is_dc_alone c ≡ true) where
  zero-at : (k : ℕ) → 0 < k → k < 64 → at c k ≡ pos 0
  unfolding is_dc_alone
  zero-at k h b =
      let there : 1 + (k - 1) ≡ k = omega arith in
      rw there at (eq_z-true (at c (1 + (k - 1))) (pos 0) (all-passed 63 _ alone (k - 1) (omega arith)))

  one_product : (q p : ℕ) → double_sum c q p ≡ dc_sum (at c 0)
  unfolding double_sum factor cosine_factor
  one_product q p =
      sum_first (row_sum c q p) 7
      (λ v h. sum-ext _ _ 8 (λ u b. ap (λ (z : ℤ). (factor p u *ℤ factor q (suc v)) *ℤ z) (zero-at (8 * suc v + u) (omega arith) (omega arith)) ∙ *ℤ-zero (factor p u *ℤ factor q (suc v))) ∙ sum-zero 8)
      ∙ sum_first (λ u. (factor p u *ℤ factor q 0) *ℤ at c (8 * 0 + u)) 7
      (λ u h. ap (λ (z : ℤ). (factor p (suc u) *ℤ factor q 0) *ℤ z) (zero-at (8 * 0 + suc u) (omega arith) (omega arith)) ∙ *ℤ-zero (factor p (suc u) *ℤ factor q 0))

  pub dc-residues : residues_by inverse_transform c ≡ replicate 64 (residue_of (dc_sum (at c 0)))
  unfolding residues_by inverse_transform tab
  dc-residues = tab-ext 64 _ (λ k. residue_of (dc_sum (at c 0))) (λ k h. ap residue_of (one_product (k / 8) (k % 8)))

  -- a row other than the first is zero, and the first one is if the DC is 0
  row-by-dc : (v : ℕ) → v < 8 → is_zero_row c v ≡ cond (eqb v 0) (eq_z (at c 0) (pos 0)) true
  unfolding is_zero_row
  row-by-dc zero h = first-row (eq_z (at c 0) (pos 0)) refl
    where
      first-row : (b : Bool) → eq_z (at c 0) (pos 0) ≡ b → is_zero_row c 0 ≡ b
      first-row true e = all_pass 8 _ (λ u b. elim (ℕ_discrete u 0) [
        | yes s ↦ ap (λ (k : ℕ). eq_z (at c (8 * 0 + k)) (pos 0)) s ∙ e
        | no s ↦ eq-eq_z (at c (8 * 0 + u)) (pos 0) (zero-at (8 * 0 + u) (omega arith) (omega arith))
      ])
      first-row false e = one-fails 8 _ 0 (omega arith) e
  row-by-dc (suc v) h =
      rw (ne_eqb (suc v) 0 (λ e. omega arith))
      (all_pass 8 _ (λ u b. eq-eq_z (at c (8 * suc v + u)) (pos 0) (zero-at (8 * suc v + u) (omega arith) (omega arith))))

  pub dc-rows : rows_worked c ≡ cond (eq_z (at c 0) (pos 0)) 0 1
  unfolding rows_worked count_below
  dc-rows = count-ext 8 _ (λ v. not (cond (eqb v 0) (eq_z (at c 0) (pos 0)) true)) (λ v h. ap not (row-by-dc v h)) ∙ go (eq_z (at c 0) (pos 0))
    where
      go : (zero-dc : Bool) → count_below 8 (λ v. not (cond (eqb v 0) zero-dc true)) ≡ cond zero-dc 0 1
      go true = refl
      go false = refl
