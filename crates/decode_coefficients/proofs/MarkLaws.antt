-- Laws of marks: a block of zeros has none, a coefficient stored where a 0 was adds its own, and the rows worked are those with a mark.
-- Assumes nothing.
use mathlib.Core.Path.{◌≡◌, refl, sym, ap, ◌∙◌}
use mathlib.Core.Bool.{Bool, true, false, not, cond, ◌||◌}
use mathlib.Core.List.{List}
use Prim.Native.Nat.{ℕ, zero, suc, ◌+◌, ◌-◌, ◌*◌, ◌/◌, ◌%◌, ◌^◌, ◌<◌}
use native.Mathlib.Nat.{zero-mul, one-mul}
use native.Mathlib.Decide.{ℕ_discrete, dec_lt}
use native.Mathlib.Numerals.{add-one}
use native.Mathlib.Omega.{arith}
use borrow.Author.Tests.{lt-ltb, le-ltb, eq-eqb, ne_eqb, eqb-false, not-false}
use lib.Bits.{bit_or, or_lt, or_shr, or_mod, shifted_even}
use lib.Dec.{eqb, ltb, lit≤}
use lib.IntN.{ℤ, pos}
use lib.Pow.{pow-add, pow-lt, shr_lt, shl-shr, shr-shr}
use lib.ListN.{length, set, replicate, length-set, get_or-replicate}
use lib.Seq.{ext_get_or, get_or-set_same, get_or-set_other}
use Rattle.math.specs.Bound.{at}
use Rattle.math.proofs.Bound.{zeros-at}
use Rattle.math.specs.Limit.{eq_z}
use Rattle.math.proofs.Scatter.{scatter-length, scatter-at, scatter-other}
use Rattle.math.specs.Tab.{tab}
use Rattle.math.proofs.Tab.{tab-length, tab-at}
use Rattle.math.specs.Test.{all_below, count_below}
use Rattle.math.proofs.Test.{clash, all_pass, all-passed, count-ext}
use Rattle.decode_coefficients.specs.BlockArray.{block_in, put_block}
use Rattle.decode_coefficients.specs.Rows.{is_zero_row, rows_worked}
use Rattle.decode_coefficients.specs.Marks.{has_mark, Marked, has_row, has_ac, with_coefficient, BlocksMarked}

-- ---- bits of a power of 2, and of two marks together
set-bit : (k : ℕ) → has_mark (2 ^ k) k ≡ true
unfolding has_mark
set-bit k = let one : 2 ^ k / 2 ^ k ≡ 1 = ap (λ (n : ℕ). n / 2 ^ k) (sym (one-mul (2 ^ k))) ∙ shl-shr 1 k in rw one

other-bit : (raster k : ℕ) → (k ≡ raster → ⊥) → has_mark (2 ^ raster) k ≡ false
unfolding has_mark
other-bit raster k ne = go (dec_lt k raster)
  where
    go : Dec (k < raster) → eqb (2 ^ raster / 2 ^ k % 2) 1 ≡ false
    go (yes low) =
        let above : raster ≡ suc (raster - k - 1) + k = omega arith in
        let quotient : 2 ^ raster / 2 ^ k ≡ 1 * 2 ^ suc (raster - k - 1) = ap (λ (n : ℕ). 2 ^ n / 2 ^ k) above ∙ ap (λ (n : ℕ). n / 2 ^ k) (pow-add 2 (suc (raster - k - 1)) k) ∙ shl-shr (2 ^ suc (raster - k - 1)) k ∙ sym (one-mul _) in
        rw (quotient, shifted_even 1 (raster - k - 1))
    go (no high) =
        let above : raster < 0 + k = omega arith in
        let small : 2 ^ raster / 2 ^ k < 2 ^ 0 = shr_lt 0 k (pow-lt above) in
        let none : 2 ^ raster / 2 ^ k ≡ 0 = omega arith in
        rw none

digit : (a b : ℕ) → a < 2 → b < 2 → eqb (bit_or a b) 1 ≡ eqb a 1 || eqb b 1
digit zero zero h k = refl
digit zero (suc zero) h k = refl
digit (suc zero) zero h k = refl
digit (suc zero) (suc zero) h k = refl
digit zero (suc (suc b)) h k = absurd (omega arith)
digit (suc zero) (suc (suc b)) h k = absurd (omega arith)
digit (suc (suc a)) b h k = absurd (omega arith)

either : (m n k : ℕ) → has_mark (bit_or m n) k ≡ has_mark m k || has_mark n k
unfolding has_mark
either m n k =
    ap (λ (x : ℕ). eqb (x % 2) 1) (or_shr m n k)
    ∙ ap (λ (x : ℕ). eqb x 1) (or_mod (m / 2 ^ k) (n / 2 ^ k) 1)
    ∙ digit (m / 2 ^ k % 2) (n / 2 ^ k % 2) (omega arith) (omega arith)

or-true : (a : Bool) {b : Bool} → b ≡ true → a || b ≡ true
or-true true e = refl
or-true false e = e

or-false : (a : Bool) {b : Bool} → b ≡ false → a || b ≡ a
or-false true e = refl
or-false false e = e

-- ---- only the sixty-four coefficients matter
pub same-marks : {c d : List ℤ} → ((k : ℕ) → k < 64 → at c k ≡ at d k) → {marks : ℕ} → Marked c marks → Marked d marks
same-marks e p = record { small = p.small; each = λ k h. p.each k h ∙ ap (λ (z : ℤ). not (eq_z z (pos 0))) (e k h) }

-- ---- a block of zeros
no-bit : (k : ℕ) → has_mark 0 k ≡ false
unfolding has_mark
no-bit k = let none : 0 / 2 ^ k ≡ 0 = ap (λ (n : ℕ). n / 2 ^ k) (sym (zero-mul (2 ^ k))) ∙ shl-shr 0 k in rw none

pub none-marked : Marked (replicate 64 (pos 0)) 0
none-marked = record { small = lit≤ tt; each = λ k h. no-bit k ∙ ap (λ (z : ℤ). not (eq_z z (pos 0))) (sym (zeros-at 64 k)) }

-- ---- a coefficient stored where a 0 was
module _ {c : List ℤ} {marks : ℕ} (p : Marked c marks) (long : length c ≡ 64) (raster : ℕ) (h : raster < 64) (was-zero : at c raster ≡ pos 0) (z : ℤ) where
  abbrev after : List ℤ
  after = set c raster z

  here : at after raster ≡ z
  here = get_or-set_same c raster z (pos 0) (omega (arith, long))

  elsewhere : (k : ℕ) → (k ≡ raster → ⊥) → at after k ≡ at c k
  elsewhere k ne = get_or-set_other c raster k z (pos 0) ne

  -- the bit of each coefficient, whether the stored one is 0 or not
  bit : (b : Bool) → eq_z z (pos 0) ≡ b → (k : ℕ) → k < 64 → has_mark (cond b marks (bit_or marks (2 ^ raster))) k ≡ not (eq_z (at after k) (pos 0))
  bit true e k low = elim (ℕ_discrete k raster) [
    | yes s ↦ rw s (p.each raster h ∙ ap not (ap (λ (x : ℤ). eq_z x (pos 0)) was-zero ∙ sym (ap (λ (x : ℤ). eq_z x (pos 0)) here ∙ e)))
    | no ne ↦ p.each k low ∙ ap (λ (x : ℤ). not (eq_z x (pos 0))) (sym (elsewhere k ne))
  ]
  bit false e k low = elim (ℕ_discrete k raster) [
    | yes s ↦ rw s (either marks (2 ^ raster) raster ∙ or-true (has_mark marks raster) (set-bit raster) ∙ sym (ap (λ (x : ℤ). not (eq_z x (pos 0))) here ∙ ap not e))
    | no ne ↦ either marks (2 ^ raster) k ∙ or-false (has_mark marks k) (other-bit raster k ne) ∙ p.each k low ∙ ap (λ (x : ℤ). not (eq_z x (pos 0))) (sym (elsewhere k ne))
  ]

  fits : (b : Bool) → cond b marks (bit_or marks (2 ^ raster)) < 2 ^ 64
  fits true = p.small
  fits false = or_lt 64 marks (2 ^ raster) p.small (pow-lt h)

  pub marked-set : Marked after (with_coefficient marks raster z)
  unfolding with_coefficient
  marked-set = record { small = fits (eq_z z (pos 0)); each = bit (eq_z z (pos 0)) refl }

-- ---- the first k coefficients of a block, as a loop marks them
module _ (c : List ℤ) where
  abbrev pub first_of : ℕ → List ℤ
  first_of k = tab 64 (λ j. cond (ltb j k) (at c j) (pos 0))

  abbrev first_value : ℕ → ℕ → ℤ
  first_value k j = cond (ltb j k) (at c j) (pos 0)

  pub none_of : first_of 0 ≡ replicate 64 (pos 0)
  unfolding tab
  none_of = refl

  all_of : (k : ℕ) → k < 64 → at (first_of 64) k ≡ at c k
  all_of k h = tab-at 64 (first_value 64) k (pos 0) h ∙ rw (lt-ltb k 64 h)

  pub marked_all : {marks : ℕ} → Marked (first_of 64) marks → Marked c marks
  marked_all = same-marks all_of

  zero-next : (k : ℕ) → k < 64 → at (first_of k) k ≡ pos 0
  zero-next k h = tab-at 64 (first_value k) k (pos 0) h ∙ rw (le-ltb k k (omega arith))

  one-more-of : (k : ℕ) → k < 64 → first_of (k + 1) ≡ set (first_of k) k (at c k)
  one-more-of k h =
      ext_get_or (pos 0) (first_of (k + 1)) (set (first_of k) k (at c k)) (tab-length 64 (first_value (k + 1)) ∙ sym (length-set (first_of k) k (at c k) ∙ tab-length 64 (first_value k)))
      (λ j low. let small : j < 64 = omega (arith, tab-length 64 (first_value (k + 1))) in tab-at 64 (first_value (k + 1)) j (pos 0) small ∙ value j small (ℕ_discrete j k))
    where
      tests : (j : ℕ) → (j ≡ k → ⊥) → Dec (j < k) → ltb j (k + 1) ≡ ltb j k
      tests j ne (yes low) = lt-ltb j (k + 1) (omega arith) ∙ sym (lt-ltb j k low)
      tests j ne (no high) = le-ltb j (k + 1) (omega arith) ∙ sym (le-ltb j k (omega arith))

      value : (j : ℕ) → j < 64 → Dec (j ≡ k) → first_value (k + 1) j ≡ at (set (first_of k) k (at c k)) j
      value j small (yes e) = rw (lt-ltb j (k + 1) (omega arith), e) (sym (get_or-set_same (first_of k) k (at c k) (pos 0) (omega (arith, tab-length 64 (first_value k)))))
      value j small (no ne) = rw (tests j ne (dec_lt j k)) (sym (get_or-set_other (first_of k) k j (at c k) (pos 0) ne ∙ tab-at 64 (first_value k) j (pos 0) small))

  pub marked_more : {marks : ℕ} (k : ℕ) → k < 64 → Marked (first_of k) marks → Marked (first_of (k + 1)) (with_coefficient marks k (at c k))
  marked_more k h p = rw (one-more-of k h) (marked-set p (tab-length 64 (first_value k)) k h (zero-next k h) (at c k))

-- ---- rows and AC coefficients
-- whether all AC coefficients are 0
unfoldable pub is_dc_alone : List ℤ → Bool
is_dc_alone c = all_below 63 (λ k. eq_z (at c (1 + k)) (pos 0))

-- a number of n bits is 0 if none of them is set
half-bit : (m k : ℕ) → has_mark (m / 2) k ≡ has_mark m (1 + k)
unfolding has_mark
half-bit m k = ap (λ (n : ℕ). eqb (n % 2) 1) (shr-shr m 1 k)

zero_bits : (n m : ℕ) → m < 2 ^ n → ((k : ℕ) → k < n → has_mark m k ≡ false) → m ≡ 0
unfolding has_mark
zero_bits zero m h none = omega arith
zero_bits (suc n) m h none =
    let more : 2 ^ suc n ≡ 2 ^ (n + 1) = ap (λ (k : ℕ). 2 ^ k) (sym (add-one n)) in
    let half = zero_bits n (m / 2) (shr_lt n 1 (rw (← more) h)) (λ k low. half-bit m k ∙ none (1 + k) (omega arith)) in
    elim (ℕ_discrete (m / 2 ^ 0 % 2) 1) [
      | yes odd ↦ absurd (eqb-false (m / 2 ^ 0 % 2) 1 (none 0 (omega arith)) odd)
      | no even ↦ omega (arith, half)
    ]

-- the bits of a row, as a number of eight bits
low_bit : (m u : ℕ) → u < 8 → m % 256 / 2 ^ u % 2 ≡ m / 2 ^ u % 2
low_bit m zero h = omega arith
low_bit m (suc zero) h = omega arith
low_bit m (suc (suc zero)) h = omega arith
low_bit m (suc (suc (suc zero))) h = omega arith
low_bit m (suc (suc (suc (suc zero)))) h = omega arith
low_bit m (suc (suc (suc (suc (suc zero))))) h = omega arith
low_bit m (suc (suc (suc (suc (suc (suc zero)))))) h = omega arith
low_bit m (suc (suc (suc (suc (suc (suc (suc zero))))))) h = omega arith
low_bit m (suc (suc (suc (suc (suc (suc (suc (suc u)))))))) h = absurd (omega arith)

module _ {c : List ℤ} {marks : ℕ} (p : Marked c marks) where
  abbrev row_bits : ℕ → ℕ
  row_bits v = marks / 2 ^ (8 * v) % 2 ^ 8

  row-bit : (v u : ℕ) → v < 8 → u < 8 → has_mark (row_bits v) u ≡ not (eq_z (at c (8 * v + u)) (pos 0))
  unfolding has_mark
  row-bit v u h b =
      ap (λ (n : ℕ). eqb n 1) (low_bit (marks / 2 ^ (8 * v)) u b ∙ ap (λ (n : ℕ). n % 2) (shr-shr marks (8 * v) u))
      ∙ p.each (8 * v + u) (omega arith)

  pub row-marked : (v : ℕ) → v < 8 → has_row marks v ≡ not (is_zero_row c v)
  unfolding has_row is_zero_row
  row-marked v h = go (is_zero_row c v) refl
    where
      go : (b : Bool) → is_zero_row c v ≡ b → has_row marks v ≡ not b
      go true e = ap not (eq-eqb (row_bits v) 0 (zero_bits 8 (row_bits v) (omega arith) (λ u b. row-bit v u h b ∙ ap not (all-passed 8 _ e u b))))
      go false e = ap not (ne_eqb (row_bits v) 0 (λ none. clash (all_pass 8 _ (λ u b. not-false _ (sym (row-bit v u h b) ∙ ap (λ (n : ℕ). has_mark n u) none ∙ no-bit u))) e))

  pub ac-marked : has_ac marks ≡ not (is_dc_alone c)
  unfolding is_dc_alone
  ac-marked = go (is_dc_alone c) refl
    where
      beyond : (k : ℕ) → k < 63 → has_mark (marks / 2) k ≡ not (eq_z (at c (1 + k)) (pos 0))
      beyond k b = half-bit marks k ∙ p.each (1 + k) (omega arith)

      go : (b : Bool) → is_dc_alone c ≡ b → has_ac marks ≡ not b
      go true e =
          let none = zero_bits 63 (marks / 2) (shr_lt 63 1 p.small) (λ k b. beyond k b ∙ ap not (all-passed 63 _ e k b)) in
          le-ltb 1 marks (omega (arith, none))
      go false e = elim (dec_lt 1 marks) [
        | yes some ↦ lt-ltb 1 marks some
        | no none ↦
            let zero-half : marks / 2 ≡ 0 = omega arith in
            clash (all_pass 63 _ (λ k b. not-false _ (sym (beyond k b) ∙ ap (λ (n : ℕ). has_mark n k) zero-half ∙ no-bit k))) e
      ]

  -- ---- the rows worked are the rows that are marked
  pub rows-marked : count_below 8 (has_row marks) ≡ rows_worked c
  unfolding rows_worked
  rows-marked = count-ext 8 (has_row marks) _ row-marked

-- ---- six blocks in the array
block_at : (store : List ℤ) (block k : ℕ) → k < 64 → at (block_in store block) k ≡ at store (64 * block + k)
block_at store block k h = tab-at 64 (λ j. at store (64 * block + j)) k (pos 0) h

pub none-stored : BlocksMarked (replicate 384 (pos 0)) (replicate 6 0)
none-stored = record {
  coefficients = refl;
  blocks = refl;
  each = λ block h. rw (get_or-replicate {A = ℕ} 6 block 0 0 h) (same-marks (λ k low. zeros-at 64 k ∙ sym (block_at (replicate 384 (pos 0)) block k low ∙ zeros-at 384 (64 * block + k))) none-marked);
}

module _ {store values : List ℤ} {marks : List ℕ} {m : ℕ} (p : BlocksMarked store marks) (block : ℕ) (h : block < 6) (q : Marked values m) where
  own : (k : ℕ) → k < 64 → at values k ≡ at (block_in (put_block block values store) block) k
  unfolding put_block
  own k low =
      sym (block_at (put_block block values store) block k low
      ∙ scatter-at (λ j. 64 * block + j) (at values) 64 store k (pos 0) low (omega (arith, p.coefficients)) (λ j more below same. omega arith))

  other : (b : ℕ) → (b ≡ block → ⊥) → (k : ℕ) → k < 64 → at (block_in store b) k ≡ at (block_in (put_block block values store) b) k
  unfolding put_block
  other b ne k low =
      block_at store b k low
      ∙ sym (block_at (put_block block values store) b k low ∙ scatter-other (λ j. 64 * block + j) (at values) 64 store (64 * b + k) (pos 0) (λ j below same. ne (omega arith)))

  pub block-stored : BlocksMarked (put_block block values store) (set marks block m)
  unfolding put_block
  block-stored = record {
    coefficients = scatter-length _ _ 64 store ∙ p.coefficients;
    blocks = length-set marks block m ∙ p.blocks;
    each = λ b low. elim (ℕ_discrete b block) [
      | yes e ↦ rw (e, get_or-set_same marks block m 0 (omega (arith, p.blocks))) (same-marks own q)
      | no ne ↦ rw (get_or-set_other marks block b m 0 ne) (same-marks (other b ne) (p.each b low))
    ];
  }
