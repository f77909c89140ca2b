-- The code of a large level's second eight bits, by comparison with the lowest and the highest number. Assumes nothing.
use mathlib.Core.Path.{◌≡◌, refl, ap, ap₂, ◌∙◌, sym}
use mathlib.Core.Bool.{Bool, cond, ◌&&◌}
use mathlib.Core.List.{List, []}
use Prim.Native.Nat.{ℕ, zero, suc, ◌+◌, ◌*◌, ◌-◌, ◌/◌, ◌%◌, ◌^◌, ◌<◌, ◌≤◌, min}
use native.Mathlib.Nat.{pow-suc, min-eq_left, min-eq_right, min-le_left, mul-le-mul_right}
use native.Mathlib.Decide.{dec_le}
use native.Mathlib.Omega.{arith}
use lib.Dec.{T, ltb, leb}
use lib.ListN.{length, take, drop}
use lib.Pow.{pow-add}
use lib.Seq.{take_all}
use Rattle.std.specs.Prelude.{Result, Err}
use Rattle.math.specs.Tab.{tab}
use Rattle.math.proofs.Test.{and_left, and_right}
use Rattle.mpeg1_bits.specs.declared.Window.{Window}
use Rattle.mpeg1_bits.specs.Bits.{bits_of, leading_number, bits_in}
use Rattle.mpeg1_bits.proofs.Number.{Binary, none, more, bits-binary, bits-length, number-of-bits}
use Rattle.mpeg1_bits.proofs.Rest.{window-take, window-length, window-drop}
use Rattle.mpeg1_tables.specs.declared.code.Code.{Code}
use Rattle.mpeg1_tables.specs.declared.code.CodeError.{CodeError}
use Rattle.mpeg1_tables.specs.declared.code.CodeError.TheVariants.{NoCode, Truncated}
use Rattle.mpeg1_tables.specs.Code.{is_prefix, found, code_of}
use Rattle.mpeg1_tables.specs.AnnexB.{byte_words}
use Rattle.mpeg1_tables.proofs.Laws.Prefix.{every_word, no_longer, code-take, code-tested}
use Rattle.mpeg1_tables.proofs.Laws.Branch.{Branch, branch_of, branches, branches-code, grown, after, after-code}
use Rattle.mpeg1_tables.proofs.Laws.Table.{Sized, sized, sized-value, sized-length}
use Rattle.mpeg1_vlc.specs.declared.coefficient.LargeLevels.{LargeLevels}
use Rattle.mpeg1_vlc.specs.declared.coefficient.LargeLevels.TheVariants.{Negative, Positive}
use Rattle.mpeg1_vlc.specs.Large.{lowest_of, added_to}
use Rattle.mpeg1_vlc.proofs.Laws.Field.{front-small}
use Rattle.mpeg1_vlc.proofs.Laws.Padding.{same_code, same_code_lem}

-- v is the first bits of a byte, to which p bits are missing: no code if no such byte is in the range, truncated if a bit is missing
unfoldable pub range_of : ℕ → ℕ → ℕ → Result Code CodeError
range_of low p v =
    cond (leb (v * 2 ^ p + 2 ^ p) low) (Err NoCode)
    (cond (ltb (low + 127) (v * 2 ^ p)) (Err NoCode)
    (cond (ltb 0 p) (Err Truncated) (found (v * 2 ^ p) 8)))

unfoldable ranged : ℕ → ℕ → ℕ → List Branch → Bool
ranged low zero v ts = same_code (branch_of ts []) (range_of low 0 v)
ranged low (suc p) v ts = same_code (branch_of ts []) (range_of low (suc p) v) && (ranged low p (2 * v) (after 0 ts) && ranged low p (2 * v + 1) (after 1 ts))

negative-ranged : T (ranged 1 8 0 (branches (byte_words 1 128)))
unfolding ranged same_code range_of after grown branches branch_of is_prefix byte_words tab bits_of
negative-ranged = tt

positive-ranged : T (ranged 128 8 0 (branches (byte_words 128 128)))
unfolding ranged same_code range_of after grown branches branch_of is_prefix byte_words tab bits_of
positive-ranged = tt

-- ---- from the test to each run of bits
first-ranged : (low p v : ℕ) (ts : List Branch) → T (ranged low p v ts) → branch_of ts [] ≡ range_of low p v
unfolding ranged
first-ranged low zero v ts t = same_code_lem (branch_of ts []) (range_of low 0 v) t
first-ranged low (suc p) v ts t = same_code_lem (branch_of ts []) (range_of low (suc p) v) (and_left (same_code (branch_of ts []) (range_of low (suc p) v)) (ranged low p (2 * v) (after 0 ts) && ranged low p (2 * v + 1) (after 1 ts)) t)

later-ranged : (low p v : ℕ) (ts : List Branch) → T (ranged low (suc p) v ts) → T (ranged low p (2 * v) (after 0 ts)) × T (ranged low p (2 * v + 1) (after 1 ts))
unfolding ranged
later-ranged low p v ts t =
    let both = and_right (same_code (branch_of ts []) (range_of low (suc p) v)) (ranged low p (2 * v) (after 0 ts) && ranged low p (2 * v + 1) (after 1 ts)) t in
    (and_left (ranged low p (2 * v) (after 0 ts)) (ranged low p (2 * v + 1) (after 1 ts)) both, and_right (ranged low p (2 * v) (after 0 ts)) (ranged low p (2 * v + 1) (after 1 ts)) both)

in-range : (low p v : ℕ) {b : List ℕ} → Binary b → (ts : List Branch) → length b ≤ p → T (ranged low p v ts) → branch_of ts b ≡ range_of low (p - length b) (v * 2 ^ length b + leading_number (length b) b)
unfolding leading_number
in-range low p v none ts h t = first-ranged low p v ts t ∙ ap₂ (range_of low) all number
  where
    all : p ≡ p - 0
    all = omega arith

    number : v ≡ v * 2 ^ 0 + 0
    number = omega arith
in-range low zero v (more s q) ts h t = absurd (omega arith)
in-range low (suc p) v (more {x = zero} {b = b} s q) ts h t =
    after-code 0 b ts ∙ in-range low p (2 * v) q (after 0 ts) (omega arith) (later-ranged low p v ts t).0 ∙ ap₂ (range_of low) left number
  where
    left : p - length b ≡ suc p - suc (length b)
    left = omega arith

    number : 2 * v * 2 ^ length b + leading_number (length b) b ≡ v * 2 ^ suc (length b) + (0 * 2 ^ length b + leading_number (length b) b)
    number = rw pow-suc (omega arith)
in-range low (suc p) v (more {x = suc zero} {b = b} s q) ts h t =
    after-code 1 b ts ∙ in-range low p (2 * v + 1) q (after 1 ts) (omega arith) (later-ranged low p v ts t).1 ∙ ap₂ (range_of low) left number
  where
    left : p - length b ≡ suc p - suc (length b)
    left = omega arith

    number : (2 * v + 1) * 2 ^ length b + leading_number (length b) b ≡ v * 2 ^ suc (length b) + (1 * 2 ^ length b + leading_number (length b) b)
    number = rw pow-suc (omega arith)
in-range low (suc p) v (more {x = suc (suc x)} s q) ts h t = absurd (omega arith)

-- ---- the two ranges
record Range (low : ℕ) : Type 0 where
  small : low < 256
  test : T (ranged low 8 0 (branches (byte_words low 128)))
  lengths : T (no_longer 8 (byte_words low 128))
  sizes : T (every_word sized (byte_words low 128))

range_of_levels : (levels : LargeLevels) → Range (lowest_of levels)
unfolding every_word byte_words tab bits_of
range_of_levels Negative = record { small = omega arith; test = negative-ranged; lengths = tt; sizes = tt }
range_of_levels Positive = record { small = omega arith; test = positive-ranged; lengths = tt; sizes = tt }

pub large-sized : (levels : LargeLevels) (b : List ℕ) {v n : ℕ} → code_of (byte_words (lowest_of levels) 128) b ≡ found v n → Sized v n
large-sized levels b {v} {n} e =
    let s = code-tested sized (byte_words (lowest_of levels) 128) b v n (range_of_levels levels).sizes e in
    record { value = sized-value v n s; long = sized-length v n s }

-- the code of a large level's second eight bits, from those that the window has
module _ (levels : LargeLevels) (next : Window) (fits : next.bits < 4294967296) (most : next.count ≤ 32) where
  abbrev low : ℕ
  low = lowest_of levels

  abbrev n : ℕ
  n = min 8 next.count

  range : Range low
  range = range_of_levels levels

  front : take 8 (bits_in next) ≡ bits_of n (next.bits / 2 ^ (32 - n))
  front = elim (dec_le 8 next.count) [
    | yes h ↦ rw (min-eq_left h) (window-take next 8 h most)
    | no h ↦ let few : next.count ≤ 8 = omega arith in rw (min-eq_right few) (take_all 8 (bits_in next) (omega (arith, window-length next most)) ∙ sym (take_all next.count (bits_in next) (omega (arith, window-length next most))) ∙ window-take next next.count (omega arith) most)
  ]

  pub known_small : next.bits / 2 ^ (32 - n) < 2 ^ n
  known_small = front-small next.bits n fits (omega (arith, min-le_left 8 next.count))

  number : 0 * 2 ^ length (bits_of n (next.bits / 2 ^ (32 - n))) + leading_number (length (bits_of n (next.bits / 2 ^ (32 - n)))) (bits_of n (next.bits / 2 ^ (32 - n))) ≡ next.bits / 2 ^ (32 - n)
  number = rw (bits-length, number-of-bits n (next.bits / 2 ^ (32 - n)) known_small) (omega arith)

  pub large-range : code_of (byte_words low 128) (bits_in next) ≡ range_of low (8 - n) (next.bits / 2 ^ (32 - n))
  large-range =
      sym (code-take (byte_words low 128) 8 (bits_in next) range.lengths)
      ∙ ap (code_of (byte_words low 128)) front
      ∙ branches-code (byte_words low 128) (bits_of n (next.bits / 2 ^ (32 - n)))
      ∙ in-range low 8 0 (bits-binary n (next.bits / 2 ^ (32 - n))) (branches (byte_words low 128)) (omega (arith, bits-length n (next.bits / 2 ^ (32 - n)), min-le_left 8 next.count)) range.test
      ∙ ap₂ (range_of low) (ap (λ (m : ℕ). 8 - m) (bits-length n (next.bits / 2 ^ (32 - n)))) number

  pub low_small : low < 256
  low_small = range.small

  -- the bits, padded with zeros, are the first number of 2 ^ (8 - n) in a byte
  pub padded-small : next.bits / 2 ^ (32 - n) * 2 ^ (8 - n) + 2 ^ (8 - n) ≤ 256
  padded-small = omega (arith, mul-le-mul_right (2 ^ (8 - n)) known_small, powers)
    where
      all : n + (8 - n) ≡ 8
      all = omega (arith, min-le_left 8 next.count)

      powers : 2 ^ n * 2 ^ (8 - n) ≡ 256
      powers = sym (pow-add 2 n (8 - n)) ∙ ap (λ (m : ℕ). 2 ^ m) all

  -- with the numbers that the code computes: how many of the eight bits the window has, what pads them, and the first number
  pub large-padded : (lowest known padding : ℕ) → lowest ≡ low → known ≡ n → padding ≡ 2 ^ (8 - known) → code_of (byte_words low 128) (bits_in next) ≡ cond (leb (next.bits / 2 ^ (32 - known) * padding + padding) lowest) (Err NoCode) (cond (ltb (lowest + 127) (next.bits / 2 ^ (32 - known) * padding)) (Err NoCode) (cond (ltb 0 (8 - known)) (Err Truncated) (found (next.bits / 2 ^ (32 - known) * padding) 8)))
  unfolding range_of
  large-padded lowest known padding e f g = rw (g, f, e) large-range

-- the answer of a read from a window without its first 20 bits
pub large-after : (levels : LargeLevels) (next : Window) {answer : Result Code CodeError} → next.count ≤ 32 → 20 ≤ next.count → answer ≡ code_of (byte_words (lowest_of levels) 128) (bits_in (record { bits = next.bits % 4096 * 1048576; count = next.count - 20 })) → code_of (byte_words (lowest_of levels) 128) (drop 20 (bits_in next)) ≡ answer
large-after levels next most h e = ap (code_of (byte_words (lowest_of levels) 128)) (sym (window-drop next 20 12 refl h most)) ∙ sym e

pub less-added : (levels : LargeLevels) → added_to levels ≤ 256
less-added Negative = omega arith
less-added Positive = omega arith
