-- Laws of bits that are all zeros. Assumes nothing.
use mathlib.Core.Path.{◌≡◌, refl, ap, ap₂, ◌∙◌, sym}
use mathlib.Core.Bool.{Bool, true, false, ◌&&◌}
use mathlib.Core.List.{List, [], ◌∷◌, ◌++◌}
use Prim.Native.Nat.{ℕ, zero, suc, ◌+◌, ◌*◌, ◌-◌, ◌%◌, ◌^◌, ◌<◌, ◌≤◌, zero-le}
use native.Mathlib.Nat.{div-one, mod-eq_of_lt}
use native.Mathlib.Numerals.{add-one}
use native.Mathlib.Omega.{arith}
use lib.Dec.{eqb}
use lib.ListN.{length, take, drop, get_or, length-drop, drop_of_length-le}
use lib.Pow.{pow_pos}
use lib.Seq.{drop-cons, drop-append-le, drop-drop, take-append_seam}
use borrow.Author.Tests.{eqb-true, eq-eqb, ne_eqb}
use Rattle.std.specs.Bool.{MatchBool}
use Rattle.std.specs.List.{AllWithin, HoldsAt}
use Rattle.mpeg1_bits.specs.declared.BitPosition.{BitPosition}
use Rattle.mpeg1_bits.specs.Bits.{bits, bits_of, leading_number, all_zeros, bits_from, bit_offset}
use Rattle.mpeg1_bits.proofs.Number.{number-bits, number-split, bits-length}
use Rattle.mpeg1_bits.proofs.Bytes.{drop_bits, length-bits}

zeros-append : (a b : List ℕ) → all_zeros (a ++ b) ≡ all_zeros a && all_zeros b
unfolding all_zeros
zeros-append [] b = refl
zeros-append (x ∷ a) b = ap (λ (t : Bool). eqb x 0 && t) (zeros-append a b) ∙ sym (and_assoc (eqb x 0) (all_zeros a) (all_zeros b))
  where
    and_assoc : (p q r : Bool) → (p && q) && r ≡ p && (q && r)
    and_assoc true q r = refl
    and_assoc false q r = refl

and-true : (p q : Bool) → p && q ≡ true → (p ≡ true) × (q ≡ true)
and-true true q e = (refl, e)
and-true false q e = (e, absurd (false-not-true e))
  where
    false-not-true : false ≡ true → ⊥
    false-not-true e = let z : ◌≡◌ {A = ℕ} 0 1 = cc in omega arith

-- zero bits form the number 0
zeros-number : (n : ℕ) (b : List ℕ) → all_zeros b ≡ true → leading_number n b ≡ 0
unfolding all_zeros leading_number
zeros-number zero b e = refl
zeros-number (suc n) [] e = refl
zeros-number (suc n) (x ∷ b) e =
    let p = and-true (eqb x 0) (all_zeros b) e in
    rw (eqb-true x 0 p.0) (omega (arith, zeros-number n b p.1))

first-zero : (x m y : ℕ) → x * 2 ^ m + y ≡ 0 → x ≡ 0
first-zero zero m y e = refl
first-zero (suc x) m y e = absurd (omega (arith, pow_pos m, e))

-- and only zero bits do
number-zeros : (n : ℕ) (b : List ℕ) → leading_number n b ≡ 0 → all_zeros (take n b) ≡ true
unfolding all_zeros leading_number
number-zeros zero b e = refl
number-zeros (suc n) [] e = refl
number-zeros (suc n) (x ∷ b) e =
    let z = first-zero x n (leading_number n b) e in
    ap₂ ◌&&◌ (eq-eqb x 0 z) (number-zeros n b (omega (arith, rw z at e)))

same_bool : (p q : Bool) → (p ≡ true → q ≡ true) → (q ≡ true → p ≡ true) → p ≡ q
same_bool true q f g = sym (f refl)
same_bool false true f g = g refl
same_bool false false f g = refl

no_bits : all_zeros (bits_of 8 0) ≡ true
unfolding all_zeros bits_of
no_bits = refl

byte-zeros : (x : ℕ) → x < 256 → all_zeros (bits_of 8 x) ≡ eqb x 0
byte-zeros x h = same_bool (all_zeros (bits_of 8 x)) (eqb x 0) (λ e. eq-eqb x 0 (sym (number-bits 8 0 x ∙ ap (λ (n : ℕ). n % 256) (div-one x) ∙ mod-eq_of_lt h) ∙ zeros-number 8 (bits_of 8 x) e)) (λ e. rw (eqb-true x 0 e) no_bits)

-- all bytes are zero exactly if their bits are
zero_each : (l : List ℕ) → ((k : ℕ) → k < length l → get_or l k 0 ≡ 0) → all_zeros (bits l) ≡ true
unfolding bits all_zeros
zero_each [] h = refl
zero_each (x ∷ l) h =
    zeros-append (bits_of 8 x) (bits l)
    ∙ rw (h 0 (omega arith), no_bits) (zero_each l (λ k p. h (suc k) (omega (arith, p))))

pub zero-none : (l : List ℕ) (k : ℕ) → k < length l → get_or l k 0 < 256 → (get_or l k 0 ≡ 0 → ⊥) → all_zeros (bits l) ≡ false
unfolding bits
zero-none [] k h small e = absurd (omega arith)
zero-none (x ∷ l) zero h small e = zeros-append (bits_of 8 x) (bits l) ∙ rw (byte-zeros x small, ne_eqb x 0 e) refl
zero-none (x ∷ l) (suc k) h small e =
    zeros-append (bits_of 8 x) (bits l)
    ∙ ap (λ (t : Bool). all_zeros (bits_of 8 x) && t) (zero-none l k (omega (arith, h)) small e)
    ∙ and-false (all_zeros (bits_of 8 x))
  where
    and-false : (p : Bool) → p && false ≡ false
    and-false true = refl
    and-false false = refl

-- `decided` says whether they are
pub zeros-decided : (l : List ℕ) (decided : Bool) → ((i : ℕ) → get_or l i 0 < 256) → MatchBool decided (AllWithin (λ x. x ≡ 0) l 0 (length l)) ((k : ℕ) × (k < length l) × HoldsAt (λ x. x ≡ 0 → ⊥) l k) → decided ≡ all_zeros (bits l)
zeros-decided l true small h = sym (zero_each l (λ k p. h k 0 zero-le p))
zeros-decided l false small h = sym (zero-none l h.0 h.1 (small h.0) (h.2 0))

-- ---- the same for the bits from a position on
pub not_zeros : (l : List ℕ) (p : BitPosition) → (leading_number 32 (bits_from l p) ≡ 0 → ⊥) → all_zeros (bits_from l p) ≡ false
not_zeros l p f = same_bool (all_zeros (bits_from l p)) false (λ e. absurd (f (zeros-number 32 (bits_from l p) e))) (λ e. absurd (let z : ◌≡◌ {A = ℕ} 0 1 = cc in omega arith))

pub zeros-past : (l : List ℕ) (p : BitPosition) → length l ≤ p.byte → all_zeros (bits_from l p) ≡ true
unfolding bits_from all_zeros
zeros-past l p h = rw (drop_of_length-le (bits l) {i = bit_offset p} (omega (arith, length-bits l)))

pub rest-zeros : (l : List ℕ) (p : BitPosition) → p.bit < 8 → p.byte < length l → leading_number 32 (bits_from l p) ≡ 0 → all_zeros (bits_from l p) ≡ all_zeros (bits (drop (p.byte + 1) l))
unfolding bits_from bits
rest-zeros l p b h e = ap all_zeros split ∙ zeros-append front rest ∙ rw front-zero
  where
    x : ℕ
    x = get_or l p.byte 0

    front : List ℕ
    front = drop p.bit (bits_of 8 x)

    rest : List ℕ
    rest = bits (drop (p.byte + 1) l)

    byte : bits (drop p.byte l) ≡ bits_of 8 x ++ rest
    byte = rw (drop-cons l p.byte 0 h) (ap (λ (n : ℕ). bits_of 8 x ++ bits (drop n l)) (sym (add-one p.byte)))

    split : drop (bit_offset p) (bits l) ≡ front ++ rest
    split =
        sym (drop-drop p.bit (8 * p.byte) (bits l))
        ∙ ap (drop p.bit) (drop_bits p.byte l ∙ byte)
        ∙ drop-append-le p.bit (bits_of 8 x) rest (omega (arith, bits-length 8 x, b))

    long : length front ≡ 8 - p.bit
    long = length-drop p.bit (bits_of 8 x) ∙ ap (λ (n : ℕ). n - p.bit) (bits-length 8 x)

    whole : length front + (32 - length front) ≡ 32
    whole = omega (arith, long)

    front-zero : all_zeros front ≡ true
    front-zero =
        ap all_zeros (sym (take-append_seam front rest))
        ∙ number-zeros (length front) (front ++ rest) (first-zero (leading_number (length front) (front ++ rest)) (32 - length front) (leading_number (32 - length front) (drop (length front) (front ++ rest))) (sym (number-split (length front) (32 - length front) (front ++ rest)) ∙ ap (λ (n : ℕ). leading_number n (front ++ rest)) whole ∙ ap (leading_number 32) (sym split) ∙ e))
