-- What the field readers find, from the length of the input and its bytes. Assumes nothing.
use mathlib.Core.Path.{◌≡◌, refl, ◌∙◌}
use mathlib.Core.List.{List, [], ◌∷◌}
use Prim.Native.Nat.{ℕ, suc, ◌-◌, ◌*◌, ◌<◌, ◌≤◌}
use native.Mathlib.Decide.{dec_lt}
use native.Mathlib.Omega.{arith}
use borrow.Author.Tests.{lt-ltb, le-ltb}
use lib.IntN.{ℤ, pos, negsuc, neg_ℤ, ◌-ℤ◌}
use lib.ListN.{length, get_or, take, drop, length-drop, drop_of_length-le}
use lib.Seq.{take_all}
use mir.Syntax.{w8, w16}
use mir.Val.{Fits, SFits, to_z, of_z}
use mir.ValLaws.{to_z-of_z, to_z-Fits}
use Rattle.std.specs.Prelude.{Ok, Err}
use Rattle.std.specs.Int.{cast_signed}
use Rattle.math.proofs.Difference.{same_of, parts_add, parts-neg}
use Rattle.format3_records.specs.Reader.{ParsesAs}
use Rattle.format3_records.specs.declared.field.Cursor.{Cursor}
use Rattle.format3_records.specs.Field.{not_inside, big_endian, twos_complement, byte, two_bytes}

pub byte-short : (l : List ℕ) → length l < 1 → ParsesAs byte l (Err not_inside)
unfolding byte
byte-short [] h = refl
byte-short (a ∷ l) h = absurd (omega arith)

pub byte-read : (l : List ℕ) → 1 ≤ length l → ParsesAs byte l (Ok (get_or l 0 0, record { at = 1 }))
unfolding byte
byte-read [] h = absurd (omega arith)
byte-read (a ∷ l) h = (refl, h)

pub word-short : (l : List ℕ) → length l < 2 → ParsesAs two_bytes l (Err not_inside)
unfolding two_bytes
word-short [] h = refl
word-short (a ∷ []) h = refl
word-short (a ∷ b ∷ l) h = absurd (omega arith)

pub word_read : (l : List ℕ) → 2 ≤ length l → ParsesAs two_bytes l (Ok (big_endian (get_or l 0 0) (get_or l 1 0), record { at = 2 }))
unfolding two_bytes
word_read [] h = absurd (omega arith)
word_read (a ∷ []) h = absurd (omega arith)
word_read (a ∷ b ∷ l) h = (refl, h)

pub ruleset bytes_read = (byte-short, byte-read, word-short, word_read)

-- the part from n on, as slicing gives it
pub rest_from : (n : ℕ) (l : List ℕ) → take (length l - n) (drop n l) ≡ drop n l
rest_from n l = take_all (length l - n) (drop n l) (simp length-drop (omega arith))

pub ruleset rests = (rest_from, drop_of_length-le)

-- ---- two's complement: the signed number with the same bits
below-zero : (half n : ℕ) → half ≤ n → n < 2 * half → negsuc (2 * half - suc n) ≡ pos n -ℤ pos (2 * half)
below-zero half n h k = same_of _ _ (omega (arith, parts_add (pos n) (neg_ℤ (pos (2 * half))), parts-neg (pos (2 * half))))

signed-byte : (n : ℕ) → n < 256 → cast_signed w8 n ≡ twos_complement 128 n
unfolding twos_complement
signed-byte n k = elim (dec_lt n 128) [
  | yes h ↦ rw (lt-ltb n 128 h)
  | no h ↦ rw (le-ltb n 128 (omega arith)) (below-zero 128 n (omega arith) k)
]

signed-word : (n : ℕ) → n < 65536 → cast_signed w16 n ≡ twos_complement 32768 n
unfolding twos_complement
signed-word n k = elim (dec_lt n 32768) [
  | yes h ↦ rw (lt-ltb n 32768 h)
  | no h ↦ rw (le-ltb n 32768 (omega arith)) (below-zero 32768 n (omega arith) k)
]

-- what a parser finds among bytes fits
pub byte-fits : (l : List ℕ) → ((i : ℕ) → Fits w8 (get_or l i 0)) → {n : ℕ} {end : Cursor} → ParsesAs byte l (Ok (n, end)) → n < 256
unfolding byte
byte-fits [] f e = absurd (let z : ◌≡◌ {A = ℕ} 0 1 = cc in omega arith)
byte-fits (a ∷ l) f {n} e = let same : a ≡ n = cc in let fits = (f 0).fits in omega arith

pub word-fits : (l : List ℕ) → ((i : ℕ) → Fits w8 (get_or l i 0)) → {n : ℕ} {end : Cursor} → ParsesAs two_bytes l (Ok (n, end)) → n < 65536
word-fits l f {n} found = elim (dec_lt (length l) 2) [
  | yes short ↦ let none = word-short l short in absurd (let z : ◌≡◌ {A = ℕ} 0 1 = cc (none, found.0) in omega arith)
  | no long ↦
      let read = word_read l (omega arith) in
      let same : big_endian (get_or l 0 0) (get_or l 1 0) ≡ n = cc (read.0, found.0) in
      let high = (f 0).fits in let low = (f 1).fits in omega arith
]

-- the same number, held in 16 bits
held : (z w : ℤ) → z ≡ w → SFits w16 w → to_z w16 (of_z w16 z) ≡ w
held z w e fits = rw e (to_z-of_z w16 w fits)

pub byte-held : (n : ℕ) (y z : ℤ) → n < 256 → y ≡ cast_signed w8 n → z ≡ to_z w8 (of_z w8 y) → to_z w16 (of_z w16 z) ≡ twos_complement 128 n
byte-held n y z h e i =
    let fits : Fits w8 n = record { fits = h } in
    let small : SFits w8 (cast_signed w8 n) = to_z-Fits w8 n fits in
    held z (cast_signed w8 n) (i ∙ rw e (to_z-of_z w8 (cast_signed w8 n) small)) (record { sfits = omega (arith, small.sfits) }) ∙ signed-byte n h

pub word-held : (n : ℕ) (z : ℤ) → n < 65536 → z ≡ cast_signed w16 n → to_z w16 (of_z w16 z) ≡ twos_complement 32768 n
word-held n z h e = held z (cast_signed w16 n) e (to_z-Fits w16 n (record { fits = h })) ∙ signed-word n h
