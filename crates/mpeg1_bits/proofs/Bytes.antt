-- Laws of the bits of a list of bytes. Assumes nothing.
use mathlib.Core.Path.{◌≡◌, refl, ap, ap₂, ◌∙◌, sym}
use mathlib.Core.List.{List, [], ◌∷◌, ◌++◌}
use Prim.Native.Nat.{ℕ, zero, suc, ◌+◌, ◌*◌, ◌-◌, ◌/◌, ◌%◌, ◌^◌, ◌<◌, zero-le, suc-le-suc}
use native.Mathlib.Nat.{mul-suc, add_comm, mod-lt, mod-eq_of_lt, div-one, zero-div, add-zero}
use native.Mathlib.Omega.{arith}
use lib.ListN.{length, drop, get_or, length-append, get_or-append}
use lib.Seq.{drop-append-add, drop-drop, drop-nil, drop_at, take_at, get_or-drop}
use Rattle.std.specs.Int.{w32, from_be_bytes}
use Rattle.mpeg1_bits.specs.Bits.{bits_of, bits, leading_number}
use Rattle.mpeg1_bits.proofs.Number.{Binary, none, binary-append, bits-binary, bits-length, number-nil, number-take, number-split, number-bits, bit-of}

pub binary-bits : (l : List ℕ) → Binary (bits l)
unfolding bits
binary-bits [] = none
binary-bits (x ∷ l) = binary-append (bits-binary 8 x) (binary-bits l)

pub length-bits : (l : List ℕ) → length (bits l) ≡ 8 * length l
unfolding bits
length-bits [] = refl
length-bits (x ∷ l) = length-append (bits_of 8 x) (bits l) ∙ rw (bits-length, length-bits l) (omega arith)

-- dropping 8 bits per byte is dropping bytes
pub drop_bits : (i : ℕ) (l : List ℕ) → drop (8 * i) (bits l) ≡ bits (drop i l)
unfolding bits
drop_bits zero l = refl
drop_bits (suc i) [] = drop-nil (8 * suc i)
drop_bits (suc i) (x ∷ l) = rw (mul-suc, add_comm (8 * i) 8) (rw bits-length at (drop-append-add (bits_of 8 x) (bits l) (8 * i))) ∙ drop_bits i l

-- the first byte gives the most significant bits
pub number-byte : (m : ℕ) (l : List ℕ) → get_or l 0 0 < 256 → leading_number (8 + m) (bits l) ≡ get_or l 0 0 * 2 ^ m + leading_number m (bits (drop 1 l))
unfolding bits
number-byte m [] h = omega (arith, number-nil (8 + m), number-nil m)
number-byte m (x ∷ l) h =
    number-split 8 m (bits_of 8 x ++ bits l)
    ∙ ap₂ (λ (n : ℕ) (b : List ℕ). n * 2 ^ m + leading_number m b) high (drop_at (bits_of 8 x) (bits l) 8 (bits-length 8 x))
  where
    high : leading_number 8 (bits_of 8 x ++ bits l) ≡ x
    high =
        sym (number-take 8 8 (bits_of 8 x ++ bits l) (omega arith))
        ∙ ap (leading_number 8) (take_at (bits_of 8 x) (bits l) 8 (bits-length 8 x))
        ∙ number-bits 8 0 x ∙ ap (λ (n : ℕ). n % 256) (div-one x) ∙ mod-eq_of_lt h

-- four bytes from an index on as one number, with zeros past the end
abbrev pub four : List ℕ → ℕ → ℕ
four l i = 16777216 * get_or l i 0 + 65536 * get_or l (i + 1) 0 + 256 * get_or l (i + 2) 0 + get_or l (i + 3) 0

-- as four bytes, most significant first
pub from-bytes : (a b c d : ℕ) → from_be_bytes w32 (a ∷ b ∷ c ∷ d ∷ []) ≡ 16777216 * a + 65536 * b + 256 * c + d
from-bytes a b c d = omega arith

module _ (l : List ℕ) (small : (i : ℕ) → get_or l i 0 < 256) where
  from_byte : (m i j : ℕ) → i + 1 ≡ j → leading_number (8 + m) (bits (drop i l)) ≡ get_or l i 0 * 2 ^ m + leading_number m (bits (drop j l))
  from_byte m i j e =
      number-byte m (drop i l) (rw (get_or-drop, add-zero) (small i))
      ∙ rw (get_or-drop, add-zero, drop-drop, e) refl

  pub number-forty : (i : ℕ) → leading_number 40 (bits (drop i l)) ≡ 256 * four l i + get_or l (i + 4) 0
  unfolding leading_number
  number-forty i =
      omega (
        arith,
        from_byte 32 i (i + 1) refl,
        from_byte 24 (i + 1) (i + 2) (omega arith),
        from_byte 16 (i + 2) (i + 3) (omega arith),
        from_byte 8 (i + 3) (i + 4) (omega arith),
        from_byte 0 (i + 4) (i + 5) (omega arith),
      )

first-bits : (l : List ℕ) (r : ℕ) → r < 8 → get_or (bits l) r 0 ≡ get_or l 0 0 / 2 ^ (7 - r) % 2
unfolding bits
first-bits [] r h = sym (ap (λ (x : ℕ). x % 2) (zero-div (2 ^ (7 - r))))
first-bits (x ∷ l) r h =
    get_or-append (bits_of 8 x) (bits l) 0 r (omega (arith, bits-length 8 x))
    ∙ bit-of 8 r x h ∙ ap (λ (m : ℕ). x / 2 ^ m % 2) same
  where
    same : 8 - (r + 1) ≡ 7 - r
    same = omega arith

-- bit i lies in byte i / 8, most significant bit first
pub bit_at : (l : List ℕ) (i : ℕ) → get_or (bits l) i 0 ≡ get_or l (i / 8) 0 / 2 ^ (7 - i % 8) % 2
bit_at l i =
    ap (λ (n : ℕ). get_or (bits l) n 0) place
    ∙ sym (get_or-drop (8 * (i / 8)) (bits l) (i % 8) 0)
    ∙ ap (λ (b : List ℕ). get_or b (i % 8) 0) (drop_bits (i / 8) l)
    ∙ first-bits (drop (i / 8) l) (i % 8) (mod-lt i (suc-le-suc zero-le))
    ∙ ap (λ (x : ℕ). x / 2 ^ (7 - i % 8) % 2) (get_or-drop (i / 8) l 0 0 ∙ ap (λ (n : ℕ). get_or l n 0) (add-zero (i / 8)))
  where
    place : i ≡ 8 * (i / 8) + i % 8
    place = omega arith
