-- Two look-ups decide the code of fewer bits than a row looks at: padded with zeros, and with ones. One computed test covers every row and
-- every such run of bits. Assumes nothing.
use mathlib.Core.Path.{◌≡◌, refl, ap, ap₂, ◌∙◌, sym, subst}
use mathlib.Core.Bool.{Bool, true, false, cond, ◌&&◌}
use mathlib.Core.List.{List, [], ◌∷◌, ◌++◌}
use Prim.Native.Nat.{ℕ, zero, suc, ◌+◌, ◌*◌, ◌-◌, ◌/◌, ◌%◌, ◌^◌, ◌<◌, ◌≤◌}
use native.Mathlib.Nat.{zero-add, add-zero, suc-add, mul-le-mul_right, two-pow-succ}
use native.Mathlib.Omega.{arith}
use lib.Arith.{digits_div}
use lib.Dec.{T, eqb, ltb}
use lib.ListN.{length, take-append-drop}
use lib.Pow.{pow-add, pow_pos}
use borrow.Author.Tests.{eqb-true, le-ltb}
use Rattle.std.specs.Prelude.{Result, Ok, Err}
use Rattle.math.proofs.Test.{and_left, and_right}
use Rattle.mpeg1_bits.specs.Bits.{bits_of}
use Rattle.mpeg1_bits.proofs.Number.{Binary, none, more, bits-binary, bits-length, bits-take, bits-drop, bits-low}
use Rattle.mpeg1_tables.specs.declared.code.Code.{Code}
use Rattle.mpeg1_tables.specs.declared.code.CodeError.{CodeError}
use Rattle.mpeg1_tables.specs.declared.code.CodeError.TheVariants.{NoCode, Truncated}
use Rattle.mpeg1_tables.specs.Code.{word, digits_of, is_prefix, found, code_of}
use Rattle.mpeg1_tables.specs.AnnexB.{increment_words, increments, increments_after_escape, intra_types, predicted_types, bidirectional_types, patterns, motion_codes, luminance_sizes, chrominance_sizes, shared_words, next_coefficients}
use Rattle.mpeg1_tables.specs.Table.{TableRow, table_row, table_rows, table_row_at}
use Rattle.mpeg1_tables.proofs.Laws.Branch.{Branch, branch_of, branches, branches-code, grown, after, after-code, descended, descended-code, front-zero}
use Rattle.mpeg1_tables.proofs.Laws.Table.{every_row, row-test}
use Rattle.mpeg1_vlc.specs.Requires.{fewest_bits}
use Rattle.mpeg1_vlc.specs.LookUp.{unpadded_of}

-- whether two codes are equal
unfoldable pub same_code : Result Code CodeError → Result Code CodeError → Bool
same_code (Ok c) (Ok d) = eqb c.value d.value && eqb c.length d.length
same_code (Ok c) (Err e) = false
same_code (Err e) (Ok d) = false
same_code (Err NoCode) (Err NoCode) = true
same_code (Err NoCode) (Err Truncated) = false
same_code (Err Truncated) (Err NoCode) = false
same_code (Err Truncated) (Err Truncated) = true

truth : (b : Bool) → T b → b ≡ true
truth true t = refl
truth false t = absurd t

pub same_code_lem : (c d : Result Code CodeError) → T (same_code c d) → c ≡ d
unfolding same_code
same_code_lem (Ok c) (Ok d) t = ap₂ found (eqb-true c.value d.value (truth (eqb c.value d.value) (and_left (eqb c.value d.value) (eqb c.length d.length) t))) (eqb-true c.length d.length (truth (eqb c.length d.length) (and_right (eqb c.value d.value) (eqb c.length d.length) t)))
same_code_lem (Ok c) (Err e) t = absurd t
same_code_lem (Err e) (Ok d) t = absurd t
same_code_lem (Err NoCode) (Err NoCode) t = refl
same_code_lem (Err NoCode) (Err Truncated) t = absurd t
same_code_lem (Err Truncated) (Err NoCode) t = absurd t
same_code_lem (Err Truncated) (Err Truncated) t = refl

-- ---- the code after n more bits that all are x
unfoldable filled_with : ℕ → ℕ → List Branch → Result Code CodeError
filled_with x zero ts = branch_of ts []
filled_with x (suc n) ts = filled_with x n (after x ts)

zeros-filled : (n : ℕ) (ts : List Branch) → branch_of ts (bits_of n 0) ≡ filled_with 0 n ts
unfolding filled_with bits_of
zeros-filled zero ts = refl
zeros-filled (suc n) ts = ap (λ (x : ℕ). branch_of ts (x ∷ bits_of n 0)) (front-zero n 0 (pow_pos n)) ∙ after-code 0 (bits_of n 0) ts ∙ zeros-filled n (after 0 ts)

ones-filled : (n : ℕ) (ts : List Branch) → branch_of ts (bits_of n (2 ^ n - 1)) ≡ filled_with 1 n ts
unfolding filled_with bits_of
ones-filled zero ts = refl
ones-filled (suc n) ts = ap₂ (λ (x : ℕ) (b : List ℕ). branch_of ts (x ∷ b)) front low ∙ after-code 1 (bits_of n (2 ^ n - 1)) ts ∙ ones-filled n (after 1 ts)
  where
    parts : 2 ^ suc n - 1 ≡ 1 * 2 ^ n + (2 ^ n - 1)
    parts = omega (arith, two-pow-succ n, pow_pos n)

    front : (2 ^ suc n - 1) / 2 ^ n % 2 ≡ 1
    front = ap (λ (x : ℕ). x % 2) (ap (λ (x : ℕ). x / 2 ^ n) parts ∙ digits_div 1 (omega (arith, pow_pos n)))

    low : bits_of n (2 ^ suc n - 1) ≡ bits_of n (2 ^ n - 1)
    low = ap (bits_of n) (parts ∙ ap (λ (e : ℕ). 1 * 2 ^ e + (2 ^ n - 1)) (sym (add-zero n))) ∙ bits-low n 0 1 (2 ^ n - 1)

-- ---- the test: whether the two paddings decide the code of every run of bits, from `from` of `all` bits on, when n are still to come
unfoldable decides_here : ℕ → ℕ → ℕ → List Branch → Bool
decides_here from all n ts = cond (ltb (all - n) from) true (same_code (branch_of ts []) (unpadded_of (all - n) (filled_with 0 n ts) (filled_with 1 n ts)))

unfoldable decides : ℕ → ℕ → ℕ → List Branch → Bool
decides from all zero ts = true
decides from all (suc n) ts = decides_here from all (suc n) ts && (decides from all n (after 0 ts) && decides from all n (after 1 ts))

rows-decide : T (every_row (λ r. decides (fewest_bits r.zeros) (r.zeros + 8) 8 (descended r.zeros (branches r.words))) table_rows)
unfolding every_row decides decides_here same_code unpadded_of filled_with descended after grown branches branch_of is_prefix word digits_of increment_words increments increments_after_escape intra_types predicted_types bidirectional_types patterns motion_codes luminance_sizes chrominance_sizes shared_words next_coefficients
rows-decide = tt

-- ---- from the test to each run of bits
-- how many bits are to come before these bits, if p + 1 are to come after them
beyond : ℕ → List ℕ → ℕ
beyond p [] = suc p
beyond p (x ∷ b) = suc (beyond p b)

beyond-length : (p : ℕ) (b : List ℕ) → beyond p b ≡ length b + suc p
unfolding beyond
beyond-length p [] = sym (zero-add (suc p))
beyond-length p (x ∷ b) = ap suc (beyond-length p b) ∙ sym (suc-add (length b) (suc p))

-- c and d are p + 1 zeros and as many ones
module _ (from all p : ℕ) (enough : from ≤ all - suc p) (c d : List ℕ) (zeroed : (ts : List Branch) → branch_of ts c ≡ filled_with 0 (suc p) ts) (filled : (ts : List Branch) → branch_of ts d ≡ filled_with 1 (suc p) ts) where
  decided-here : (ts : List Branch) → T (decides_here from all (suc p) ts) → branch_of ts [] ≡ unpadded_of (all - suc p) (branch_of ts c) (branch_of ts d)
  unfolding decides_here
  decided-here ts t = rw (zeroed ts, filled ts) (same_code_lem (branch_of ts []) here (subst (λ (b : Bool). T (cond b true (same_code (branch_of ts []) here))) (le-ltb (all - suc p) from enough) t))
    where
      here : Result Code CodeError
      here = unpadded_of (all - suc p) (filled_with 0 (suc p) ts) (filled_with 1 (suc p) ts)

  decided-after : (x : ℕ) (b : List ℕ) (ts : List Branch) → branch_of (after x ts) b ≡ unpadded_of (all - suc p) (branch_of (after x ts) (b ++ c)) (branch_of (after x ts) (b ++ d)) → branch_of ts (x ∷ b) ≡ unpadded_of (all - suc p) (branch_of ts (x ∷ b ++ c)) (branch_of ts (x ∷ b ++ d))
  decided-after x b ts e = after-code x b ts ∙ e ∙ sym (ap₂ (unpadded_of (all - suc p)) (after-code x (b ++ c) ts) (after-code x (b ++ d) ts))

  decided : {b : List ℕ} → Binary b → (ts : List Branch) → T (decides from all (beyond p b) ts) → branch_of ts b ≡ unpadded_of (all - suc p) (branch_of ts (b ++ c)) (branch_of ts (b ++ d))
  unfolding decides beyond
  decided none ts t = decided-here ts (and_left (decides_here from all (suc p) ts) (decides from all p (after 0 ts) && decides from all p (after 1 ts)) t)
  decided (more {x = zero} {b = b} s q) ts t =
      let n = beyond p b in
      let both = and_right (decides_here from all (suc n) ts) (decides from all n (after 0 ts) && decides from all n (after 1 ts)) t in
      decided-after 0 b ts (decided q (after 0 ts) (and_left (decides from all n (after 0 ts)) (decides from all n (after 1 ts)) both))
  decided (more {x = suc zero} {b = b} s q) ts t =
      let n = beyond p b in
      let both = and_right (decides_here from all (suc n) ts) (decides from all n (after 0 ts) && decides from all n (after 1 ts)) t in
      decided-after 1 b ts (decided q (after 1 ts) (and_right (decides from all n (after 0 ts)) (decides from all n (after 1 ts)) both))
  decided (more {x = suc (suc x)} s q) ts t = absurd (omega arith)

bits-join : (n p v r : ℕ) → r < 2 ^ p → bits_of (n + p) (v * 2 ^ p + r) ≡ bits_of n v ++ bits_of p r
bits-join n p v r h =
    sym (take-append-drop n (bits_of (n + p) (v * 2 ^ p + r)))
    ∙ ap₂ ◌++◌ (bits-take n p (v * 2 ^ p + r) ∙ ap (bits_of n) (digits_div v h)) (bits-drop n p (v * 2 ^ p + r) ∙ ap (λ (e : ℕ). bits_of p (v * 2 ^ e + r)) (sym (add-zero p)) ∙ bits-low p 0 v r)

-- a row's code for n bits and p more
row-code : (row : TableRow) (n p v r : ℕ) → v < 2 ^ n → r < 2 ^ p → code_of row.words (bits_of (row.zeros + (n + p)) (v * 2 ^ p + r)) ≡ branch_of (descended row.zeros (branches row.words)) (bits_of n v ++ bits_of p r)
row-code row n p v r h g =
    branches-code row.words (bits_of (row.zeros + (n + p)) (v * 2 ^ p + r))
    ∙ descended-code row.zeros (n + p) (v * 2 ^ p + r) (branches row.words) below
    ∙ ap (branch_of (descended row.zeros (branches row.words))) (bits-join n p v r g)
  where
    below : v * 2 ^ p + r < 2 ^ (n + p)
    below = rw pow-add (omega (arith, g, mul-le-mul_right (2 ^ p) h))

-- the code of n bits after a row's zeros, from the row's codes of these bits and p zeros or ones
pub code-unpadded : (k n p v : ℕ) → k < 16 → n + p ≡ 8 → 0 < p → v < 2 ^ n → fewest_bits (table_row_at k).zeros ≤ (table_row_at k).zeros + n → code_of (table_row_at k).words (bits_of ((table_row_at k).zeros + n) v) ≡ unpadded_of ((table_row_at k).zeros + n) (code_of (table_row_at k).words (bits_of ((table_row_at k).zeros + 8) (v * 2 ^ p))) (code_of (table_row_at k).words (bits_of ((table_row_at k).zeros + 8) (v * 2 ^ p + (2 ^ p - 1))))
code-unpadded k n zero v h e q b g = absurd (omega arith)
code-unpadded k n (suc p) v h e q b g =
    row-bits
    ∙ decided (fewest_bits z) (z + 8) p (rw count g) (bits_of (suc p) 0) (bits_of (suc p) (2 ^ suc p - 1)) (zeros-filled (suc p)) (ones-filled (suc p)) (bits-binary n v) ts (rw bits (row-test test table_rows (table_row 0 []) k rows-decide h))
    ∙ (λ i. unpadded_of (count i) (sym zeroed i) (sym (filled (2 ^ suc p - 1) (omega (arith, pow_pos (suc p)))) i))
  where
    z : ℕ
    z = (table_row_at k).zeros

    ts : List Branch
    ts = descended z (branches (table_row_at k).words)

    count : z + 8 - suc p ≡ z + n
    count = omega (arith, e)

    bits : beyond p (bits_of n v) ≡ 8
    bits = beyond-length p (bits_of n v) ∙ ap (λ (m : ℕ). m + suc p) (bits-length n v) ∙ e

    test : TableRow → Bool
    test r = decides (fewest_bits r.zeros) (r.zeros + 8) 8 (descended r.zeros (branches r.words))

    row-bits : code_of (table_row_at k).words (bits_of (z + n) v) ≡ branch_of ts (bits_of n v)
    row-bits = branches-code (table_row_at k).words (bits_of (z + n) v) ∙ descended-code z n v (branches (table_row_at k).words) b

    filled : (r : ℕ) → r < 2 ^ suc p → code_of (table_row_at k).words (bits_of (z + 8) (v * 2 ^ suc p + r)) ≡ branch_of ts (bits_of n v ++ bits_of (suc p) r)
    filled r l = subst (λ (m : ℕ). code_of (table_row_at k).words (bits_of (z + m) (v * 2 ^ suc p + r)) ≡ branch_of ts (bits_of n v ++ bits_of (suc p) r)) e (row-code (table_row_at k) n (suc p) v r b l)

    zeroed : code_of (table_row_at k).words (bits_of (z + 8) (v * 2 ^ suc p)) ≡ branch_of ts (bits_of n v ++ bits_of (suc p) 0)
    zeroed = ap (λ (x : ℕ). code_of (table_row_at k).words (bits_of (z + 8) x)) (sym (add-zero (v * 2 ^ suc p))) ∙ filled 0 (pow_pos (suc p))
