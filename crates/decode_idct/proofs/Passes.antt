-- Two passes, each from rows to columns, give the double sum; with bounds on every number on the way. Assumes nothing.
use Prim.Native.Nat.{ℕ, ◌+◌, ◌*◌, ◌/◌, ◌%◌, ◌^◌, ◌<◌}
use mathlib.Core.Bool.{Bool, true}
use mathlib.Core.List.{List}
use mathlib.Core.Path.{◌≡◌, sym, ap, ◌∙◌, subst}
use native.Mathlib.Decide.{dec_lt}
use native.Mathlib.Omega.{arith}
use lib.Dec.{T, leb}
use lib.IntN.{ℤ, pos, negsuc, nat_abs, ◌*ℤ◌, *ℤ-zero}
use lib.ListN.{length, get_or-eq_default}
use Rattle.math.proofs.Bound.{within-mul, within-literal, tab-within}
use Rattle.math.proofs.Compare.{eq_z-true}
use Rattle.math.proofs.Limit.{range-between, limited-between, between-within, all-between-within}
use Rattle.math.proofs.Sum.{sum-ext, sum-zero, within-sum, separable}
use Rattle.math.specs.Bound.{Within, at, AllWithin, Between, AllBetween}
use Rattle.math.specs.Sum.{sum_to}
use Rattle.math.proofs.Tab.{tab-at, tab-ext, tab-self}
use Rattle.math.proofs.Test.{at-below₂, all-passed}
use Rattle.math.specs.Tab.{tab}
use Rattle.math.specs.Test.{all_below}
use Rattle.decode_coefficients.specs.Rows.{is_zero_row}
use Rattle.decode_idct.specs.Answer.{transform_entry_in_range}
use Rattle.decode_idct.specs.Line.{line_sum, row_of, column_index, pass_result, residue_of}
use Rattle.decode_idct.specs.Transform.{angle, cosine_factor, factor, row_sum, double_sum, inverse_transform, limited_residue, residues_by}

-- ---- bounds
small : ℕ → ℕ → Bool
small p u = leb (nat_abs (factor p u)) (2 ^ 20)

every-small : T (all_below 8 (λ p. all_below 8 (small p)))
unfolding all_below small factor cosine_factor angle
every-small = tt

pub factor-within : (p u : ℕ) → p < 8 → u < 8 → Within (2 ^ 20) (factor p u)
unfolding small
factor-within p u h k = within-literal (at-below₂ 8 8 small every-small p u h k)

pub line_sum-within : {b : ℕ} {c : List ℤ} (start p : ℕ) → AllWithin b c → p < 8 → Within (8 * (2 ^ 20 * b)) (line_sum c start p)
line_sum-within {b} start p s h = within-sum _ (2 ^ 20 * b) 8 (λ u k. within-mul (factor-within p u h k) (s.all (start + u)))

pub line-within : {b : ℕ} {x : List ℤ} → AllWithin b x → AllWithin (8 * (2 ^ 20 * b)) (tab 8 (line_sum x 0))
line-within {b} s = tab-within (8 * (2 ^ 20 * b)) 8 _ (λ p h. line_sum-within 0 p s h)

pub row_within : {b : ℕ} (c : List ℤ) (v : ℕ) → AllWithin b c → AllWithin b (row_of c v)
row_within {b} c v s = tab-within b 8 _ (λ u h. s.all (8 * v + u))

pub pass-within : (c : List ℤ) → AllWithin 2048 c → AllWithin (2 ^ 34) (tab 64 (pass_result c))
pass-within c s = tab-within (2 ^ 34) 64 _ (λ k h. line_sum-within (8 * (k % 8)) (k / 8) s (omega arith))

pub residue-within : (z : ℤ) → Within 256 (limited_residue z)
residue-within z = between-within (limited-between (negsuc 255) (pos 255) z (record { le = tt })) (within-literal tt) (within-literal tt)

-- ---- a row copied out of a block, and where its numbers go
pub row-is : (c : List ℤ) (v : ℕ) {x : List ℤ} → length x ≡ 8 → ((u : ℕ) → u < 8 → at x u ≡ at c (8 * v + u)) → x ≡ row_of c v
row-is c v {x} long each = sym (tab-self 8 x (pos 0) long) ∙ tab-ext 8 (at x) (λ u. at c (8 * v + u)) each

row-sum : (c : List ℤ) (v p : ℕ) → line_sum (row_of c v) 0 p ≡ line_sum c (8 * v) p
row-sum c v p = sum-ext _ _ 8 (λ u h. ap (λ (z : ℤ). factor p u *ℤ z) (tab-at 8 _ (0 + u) (pos 0) (omega arith) ∙ ap (at c) (index u)))
  where
    index : (u : ℕ) → 8 * v + (0 + u) ≡ 8 * v + u
    index u = omega arith

passed-at : (c : List ℤ) (v u : ℕ) → v < 8 → line_sum c (8 * v) u ≡ pass_result c (column_index v u)
passed-at c v u h = λ i. line_sum c (8 * row i) (place i)
  where
    row : v ≡ (8 * u + v) % 8
    row = omega arith

    place : u ≡ (8 * u + v) / 8
    place = omega arith

pub line_at : (c x y : List ℤ) (v : ℕ) → v < 8 → x ≡ row_of c v → y ≡ tab 8 (line_sum x 0) → (u : ℕ) → u < 8 → at y u ≡ pass_result c (column_index v u)
line_at c x y v h p q u b =
    ap (λ (l : List ℤ). at l u) q ∙ tab-at 8 (line_sum x 0) u (pos 0) b ∙ ap (λ (l : List ℤ). line_sum l 0 u) p ∙ row-sum c v u ∙ passed-at c v u h

-- ---- a row of zeros
row_zero : (c : List ℤ) (v : ℕ) → is_zero_row c v ≡ true → (u : ℕ) → u < 8 → at c (8 * v + u) ≡ pos 0
unfolding is_zero_row
row_zero c v e u b = eq_z-true (at c (8 * v + u)) (pos 0) (all-passed 8 _ e u b)

pub zero_row : (c : List ℤ) (v : ℕ) → v < 8 → is_zero_row c v ≡ true → (u : ℕ) → pass_result c (column_index v u) ≡ pos 0
zero_row c v h e u =
    sym (passed-at c v u h)
    ∙ sum-ext _ _ 8 (λ k b. ap (λ (z : ℤ). factor u k *ℤ z) (row_zero c v e k b) ∙ *ℤ-zero (factor u k))
    ∙ sum-zero 8

-- "a row of eight coefficients that are all zero" adds 0 to every sum
pub zero-row-adds-0 : (c : List ℤ) (v q p : ℕ) → is_zero_row c v ≡ true → row_sum c q p v ≡ pos 0
zero-row-adds-0 c v q p e = sum-ext _ _ 8 (λ u b. ap (λ (z : ℤ). (factor p u *ℤ factor q v) *ℤ z) (row_zero c v e u b) ∙ *ℤ-zero (factor p u *ℤ factor q v)) ∙ sum-zero 8

-- ---- both passes
column : (c : List ℤ) (q p : ℕ) → q < 8 → p < 8 → line_sum (tab 64 (pass_result c)) (8 * p) q ≡ double_sum c q p
unfolding double_sum
column c q p hq hp =
    sum-ext _ _ 8 (λ v h. ap (λ (z : ℤ). factor q v *ℤ z) (row v h))
    ∙ separable (factor p) (factor q) (λ v u. at c (8 * v + u)) 8 8
  where
    row : (v : ℕ) → v < 8 → at (tab 64 (pass_result c)) (8 * p + v) ≡ sum_to (λ u. factor p u *ℤ at c (8 * v + u)) 8
    row v h =
        tab-at 64 _ (8 * p + v) (pos 0) (omega arith)
        ∙ sum-ext _ _ 8 (λ u k. λ i. factor (place i) u *ℤ at c (index u i))
      where
        place : (8 * p + v) / 8 ≡ p
        place = omega arith

        index : (u : ℕ) → 8 * ((8 * p + v) % 8) + u ≡ 8 * v + u
        index u = omega arith

pub passes : (c : List ℤ) → tab 64 (λ k. residue_of (pass_result (tab 64 (pass_result c)) k)) ≡ residues_by inverse_transform c
unfolding residues_by inverse_transform
passes c = tab-ext 64 _ _ (λ k h. ap residue_of (column c (k / 8) (k % 8) (omega arith) (omega arith)))

-- ---- coefficients that passed the range test
in-range-between : (c : List ℤ) → length c ≡ 64 → transform_entry_in_range c ≡ true → AllBetween (negsuc 2047) (pos 2047) c
unfolding transform_entry_in_range
in-range-between c long e = record {
  all = λ k. elim (dec_lt k 64) [
    | yes h ↦ range-between (negsuc 2047) (pos 2047) (at c k) (all-passed 64 _ e k h)
    | no h ↦ subst (Between (negsuc 2047) (pos 2047)) (sym (get_or-eq_default c (pos 0) (omega (arith, long)))) (record { lower = record { le = tt }; upper = record { le = tt } })
  ];
}

pub in-range-within : (c : List ℤ) → length c ≡ 64 → transform_entry_in_range c ≡ true → AllWithin 2048 c
in-range-within c long e = all-between-within (in-range-between c long e) (within-literal tt) (within-literal tt)
