-- Bounds on each code read: its value, and its length, which is at most the bits left. Assumes nothing.
use mathlib.Core.Path.{◌≡◌, sym, subst}
use mathlib.Core.Bool.{Bool, true, false, cond, ◌&&◌}
use mathlib.Core.List.{List}
use Prim.Native.Nat.{ℕ, ◌^◌, ◌<◌, ◌≤◌}
use native.Mathlib.Omega.{arith}
use lib.Dec.{T, leb, leb→le, ltb, eqb}
use lib.ListN.{length}
use borrow.Author.Tests.{ltb-false}
use Rattle.math.proofs.Test.{and_left, and_right}
use Rattle.mpeg1_bits.specs.Bits.{leading_number}
use Rattle.mpeg1_bits.proofs.Number.{Binary, number-below}
use Rattle.mpeg1_tables.specs.Code.{Word, word, digits_of, found, code_of, field_of}
use Rattle.mpeg1_tables.specs.AnnexB.{increment_words, increments, increments_after_escape, intra_types, predicted_types, bidirectional_types, types_of, patterns, motion_codes, luminance_sizes, chrominance_sizes}
use Rattle.mpeg1_tables.proofs.Laws.Prefix.{case, every_word, code-tested, code_inside, found-same}
use Rattle.mpeg1_vlc.proofs.Laws.Field.{not_found}

-- a code with a value from `low` to `high` and 1 to `long` bits, read from b
pub record Read (low high long : ℕ) (b : List ℕ) (v n : ℕ) : Type 0 where
  pub least : low ≤ v
  pub most : v ≤ high
  pub some : 1 ≤ n
  pub few : n ≤ long
  pub inside : n ≤ length b

abbrev ranged : ℕ → ℕ → ℕ → ℕ → ℕ → Bool
ranged low high long v n = (leb low v && leb v high) && (leb 1 n && leb n long)

code_read : (low high long : ℕ) (words : List Word) (b : List ℕ) (v n : ℕ) → T (every_word (ranged low high long) words) → code_of words b ≡ found v n → Read low high long b v n
code_read low high long words b v n t e =
    let s = code-tested (ranged low high long) words b v n t e in
    let value = and_left (leb low v && leb v high) (leb 1 n && leb n long) s in
    let count = and_right (leb low v && leb v high) (leb 1 n && leb n long) s in
    record {
      least = leb→le low v (and_left (leb low v) (leb v high) value);
      most = leb→le v high (and_right (leb low v) (leb v high) value);
      some = leb→le 1 n (and_left (leb 1 n) (leb n long) count);
      few = leb→le n long (and_right (leb 1 n) (leb n long) count);
      inside = code_inside words b v n e;
    }

-- increments 1 to 33; 34 is stuffing and 35 the escape
pub increment-read : (b : List ℕ) (v n : ℕ) → code_of increments b ≡ found v n → Read 1 35 11 b v n
unfolding every_word word digits_of increment_words increments
increment-read b v n = code_read 1 35 11 increments b v n tt

pub increment-after-escape-read : (b : List ℕ) (v n : ℕ) → code_of increments_after_escape b ≡ found v n → Read 1 35 11 b v n
unfolding every_word word digits_of increment_words increments_after_escape
increment-after-escape-read b v n = code_read 1 35 11 increments_after_escape b v n tt

types-ranged : (t : ℕ) → T (every_word (ranged 2 17 6) (types_of t))
unfolding every_word word digits_of types_of intra_types predicted_types bidirectional_types
types-ranged t = one (eqb t 1) (eqb t 2)
  where
    one : (a b : Bool) → T (every_word (ranged 2 17 6) (cond a intra_types (cond b predicted_types bidirectional_types)))
    one true b = tt
    one false true = tt
    one false false = tt

pub type-read : (t : ℕ) (b : List ℕ) (v n : ℕ) → code_of (types_of t) b ≡ found v n → Read 2 17 6 b v n
type-read t b v n = code_read 2 17 6 (types_of t) b v n (types-ranged t)

pub pattern-read : (b : List ℕ) (v n : ℕ) → code_of patterns b ≡ found v n → Read 1 63 9 b v n
unfolding every_word word digits_of patterns
pattern-read b v n = code_read 1 63 9 patterns b v n tt

-- a motion code, stored with 16 added
pub motion-code-read : (b : List ℕ) (v n : ℕ) → code_of motion_codes b ≡ found v n → Read 0 32 11 b v n
unfolding every_word word digits_of motion_codes
motion-code-read b v n = code_read 0 32 11 motion_codes b v n tt

pub luminance-size-read : (b : List ℕ) (v n : ℕ) → code_of luminance_sizes b ≡ found v n → Read 0 8 7 b v n
unfolding every_word word digits_of luminance_sizes
luminance-size-read b v n = code_read 0 8 7 luminance_sizes b v n tt

pub chrominance-size-read : (b : List ℕ) (v n : ℕ) → code_of chrominance_sizes b ≡ found v n → Read 0 8 8 b v n
unfolding every_word word digits_of chrominance_sizes
chrominance-size-read b v n = code_read 0 8 8 chrominance_sizes b v n tt

-- a number of k bits
pub record FieldRead (k : ℕ) (b : List ℕ) (v n : ℕ) : Type 0 where
  pub small : v < 2 ^ k
  pub long : n ≡ k
  pub inside : k ≤ length b

pub field-read : (k : ℕ) {b : List ℕ} (v n : ℕ) → Binary b → field_of k b ≡ found v n → FieldRead k b v n
unfolding field_of
field-read k {b} v n p e =
    case (ltb (length b) k)
    (λ t. absurd (not_found (rw t at e)))
    (λ t.
    let good : found (leading_number k b) k ≡ found v n = rw t at e in
    let same = found-same good in
    record { small = subst (λ (x : ℕ). x < 2 ^ k) same.0 (number-below k p); long = sym same.1; inside = omega (arith, ltb-false (length b) k t) })
