-- Laws of reading a code: it ends within the bytes, and the next one starts further on. Assumes nothing.
use mathlib.Core.List.{List}
use mathlib.Core.Path.{◌≡◌, refl, ap}
use Rattle.std.specs.Prelude.{Result, Ok, Err, IsErrAnd}
use Prim.Native.Nat.{ℕ, ◌+◌, ◌^◌, ◌<◌, ◌≤◌}
use native.Mathlib.Omega.{arith}
use lib.ListN.{length}
use Rattle.symbols.specs.Parsed.{parsed, refused}
use Rattle.symbols.proofs.Parsed.{All, here, none, all_more}
use Rattle.mpeg1_bits.specs.Bits.{bit_offset, bits_from, skip}
use Rattle.mpeg1_bits.specs.Requires.{InBytes}
use Rattle.mpeg1_bits.specs.declared.BitPosition.{BitPosition}
use Rattle.mpeg1_bits.proofs.Rest.{rest-binary, rest-length, in-bytes-advanced}
use Rattle.mpeg1_tables.specs.declared.code.Code.{Code}
use Rattle.mpeg1_tables.specs.declared.code.CodeError.{CodeError}
use Rattle.mpeg1_tables.specs.Code.{Word, found, code_of, field_of}
use Rattle.mpeg1_vlc.proofs.Laws.Range.{field-read}
use Rattle.mpeg1_vlc.proofs.Laws.Range as Known
use Rattle.mpeg1_slice.specs.Read.{Read, read_code, word_at, field_at}
use Rattle.mpeg1_slice.specs.Slice.{first_bit}
use Rattle.mpeg1_slice.specs.Answers.{CodeFits, answer_with, answer}
use Rattle.mpeg1_slice.specs.declared.refused.RefusedAt.{RefusedAt}

-- ---- from what the code returns to what the definition reads
module _ {A : Type 0} {r : Result (A × BitPosition) RefusedAt} where
  pub step-read : (x : Read A) {v : A} {p : BitPosition} → r ≡ answer x → r ≡ Ok (v, p) → x ≡ parsed v p
  step-read (parsed w q) {v} {p} e f =
      let same : (w, q) ≡ (v, p) = cc in
      ap (λ (x : A × BitPosition). parsed x.0 x.1) same
  step-read (refused reason) e f = let z : ◌≡◌ {A = ℕ} 0 1 = cc in absurd (omega arith)

  pub step-refused : (x : Read A) {reason : RefusedAt} → r ≡ answer x → r ≡ Err reason → x ≡ refused reason
  step-refused (parsed w q) e f = let z : ◌≡◌ {A = ℕ} 0 1 = cc in absurd (omega arith)
  step-refused (refused other) e f = cc

-- the exit of a `?` returns the refusal
pub exits : {A B : Type 0} (make : A → BitPosition → B) (r : Result B RefusedAt) {reason : RefusedAt} {x : Read A} → IsErrAnd r (λ y. y ≡ reason) → x ≡ refused reason → r ≡ answer_with make x
exits make (Ok b) h e = absurd h
exits make (Err y) h e = rw e (ap Err h)

-- ---- a property of the code holds of what is read
pub all-code : {P : ℕ → BitPosition → Type 0} (code : Result Code CodeError) (at : BitPosition) → ((v n : ℕ) → code ≡ found v n → P v (skip at n)) → All P (read_code code at)
all-code (Ok code) at h = here (h code.value code.length refl)
all-code (Err error) at h = none

pub first-inside : (bytes : List ℕ) → InBytes bytes first_bit
first-inside bytes = record { bit_small = omega arith; not_past = omega arith }

-- a code of at most 32 bits ends at a valid bit offset
module _ (bytes : List ℕ) (at : BitPosition) (within : InBytes bytes at) where
  pub code_fits : (code : Result Code CodeError) → ((v n : ℕ) → code ≡ found v n → (n ≤ 32) × (n ≤ length (bits_from bytes at))) → length bytes < 18446744073709551616 → CodeFits at code
  code_fits (Ok code) inside few = let i = inside code.value code.length refl in (omega (arith, i.0), omega (arith, i.1, rest-length bytes at, within.not_past))
  code_fits (Err error) inside few = tt

  pub word_fits : {low high long : ℕ} (words : List Word) → ((b : List ℕ) (v n : ℕ) → code_of words b ≡ found v n → Known.Read low high long b v n)
      → long ≤ 32 → length bytes < 18446744073709551616 → CodeFits at (code_of words (bits_from bytes at))
  word_fits words known h few = code_fits (code_of words (bits_from bytes at)) (λ v n e. let k = known (bits_from bytes at) v n e in (omega (arith, k.few), k.inside)) few

  pub field_fits : (n : ℕ) → n ≤ 8 → length bytes < 18446744073709551616 → CodeFits at (field_of n (bits_from bytes at))
  field_fits n h few =
      code_fits (field_of n (bits_from bytes at)) (λ v m e. let k = field-read n v m (rest-binary bytes at) e in (omega (arith, k.long), omega (arith, k.long, k.inside))) few

-- ---- where a part ends: within the bytes, with at least `least` bits before it
pub record Ahead (bytes : List ℕ) (least : ℕ) (p : BitPosition) : Type 0 where
  pub inside : InBytes bytes p
  pub further : least ≤ bit_offset p

abbrev pub Onward : {A : Type 0} → List ℕ → ℕ → Read A → Type 0
Onward bytes least = All (λ a p. Ahead bytes least p)

pub standing : {bytes : List ℕ} {p : BitPosition} → InBytes bytes p → Ahead bytes (bit_offset p) p
standing within = record { inside = within; further = omega arith }

pub nearer : {bytes : List ℕ} {least : ℕ} {p : BitPosition} → Ahead bytes (1 + least) p → Ahead bytes least p
nearer h = record { inside = h.inside; further = omega (arith, h.further) }

module _ {bytes : List ℕ} {least : ℕ} {at : BitPosition} (h : Ahead bytes least at) where
  pub stepped : (n : ℕ) → n ≤ length (bits_from bytes at) → Ahead bytes least (skip at n)
  stepped n k = record { inside = in-bytes-advanced n h.inside k; further = omega (arith, h.further) }

  -- a code takes at least `bits` bits
  pub code-ahead : (bits : ℕ) (code : Result Code CodeError) → ((v n : ℕ) → code ≡ found v n → (bits ≤ n) × (n ≤ length (bits_from bytes at))) → Onward bytes (bits + least) (read_code code at)
  code-ahead bits code known =
      all-code code at λ v n e. let k = known v n e in record { inside = in-bytes-advanced n h.inside k.1; further = omega (arith, h.further, k.0) }

  pub word-ahead : {low high long : ℕ} (words : List Word) → ((b : List ℕ) (v n : ℕ) → code_of words b ≡ found v n → Known.Read low high long b v n) → Onward bytes (1 + least) (word_at words bytes at)
  word-ahead words known = code-ahead 1 (code_of words (bits_from bytes at)) λ v n e. let k = known (bits_from bytes at) v n e in (k.some, k.inside)

  pub word-onward : {low high long : ℕ} (words : List Word) → ((b : List ℕ) (v n : ℕ) → code_of words b ≡ found v n → Known.Read low high long b v n) → Onward bytes least (word_at words bytes at)
  word-onward words known = all_more (word-ahead words known) λ v p. nearer

  pub field-ahead : (n : ℕ) → Onward bytes (n + least) (field_at n bytes at)
  field-ahead n =
      code-ahead n (field_of n (bits_from bytes at)) λ v m e. let k = field-read n v m (rest-binary bytes at) e in (omega (arith, k.long), omega (arith, k.long, k.inside))

  pub field-onward : (n : ℕ) → Onward bytes least (field_at n bytes at)
  field-onward n = all_more (field-ahead n) λ v p k. record { inside = k.inside; further = omega (arith, k.further) }

-- ---- bounds on a value that is read
module _ (bytes : List ℕ) (at : BitPosition) where
  pub field_below : (n : ℕ) → All (λ v p. v < 2 ^ n) (field_at n bytes at)
  field_below n = all-code (field_of n (bits_from bytes at)) at λ v m e. (field-read n v m (rest-binary bytes at) e).small

  pub word-between : {low high long : ℕ} (words : List Word) → ((b : List ℕ) (v n : ℕ) → code_of words b ≡ found v n → Known.Read low high long b v n)
      → All (λ v p. (low ≤ v) × (v ≤ high)) (word_at words bytes at)
  word-between words known = all-code (code_of words (bits_from bytes at)) at λ v n e. let k = known (bits_from bytes at) v n e in (k.least, k.most)
