-- Bytes as a list of bits, most significant first ("Bits count from 0 at the most significant").
use Rattle.std.specs.Prelude.{Bool, true, ◌&&◌, List, [], ◌∷◌, ◌++◌, ℕ, zero, suc, ◌+◌, ◌*◌, ◌/◌, ◌%◌, ◌^◌, min, eqb, length, take, drop}
use Rattle.mpeg1_bits.specs.declared.BitPosition.{BitPosition}
use Rattle.mpeg1_bits.specs.declared.Window.{Window}

-- the n low bits of a number, most significant first
unfoldable pub bits_of : ℕ → ℕ → List ℕ
bits_of zero v = []
bits_of (suc n) v = v / 2 ^ n % 2 ∷ bits_of n v

-- all the bits of a list of bytes
unfoldable pub bits : List ℕ → List ℕ
bits [] = []
bits (byte ∷ bytes) = bits_of 8 byte ++ bits bytes

-- the first n bits as a number, with zeros past the end
unfoldable pub leading_number : ℕ → List ℕ → ℕ
leading_number zero b = 0
leading_number (suc n) [] = 0
leading_number (suc n) (x ∷ b) = x * 2 ^ n + leading_number n b

unfoldable pub all_zeros : List ℕ → Bool
all_zeros [] = true
all_zeros (x ∷ b) = eqb x 0 && all_zeros b

-- how many bits lie before a position
abbrev pub bit_offset : BitPosition → ℕ
bit_offset p = 8 * p.byte + p.bit

-- 8 × 2 ^ 64: no position in a slice has that many bits before it
abbrev pub bit_limit : ℕ
bit_limit = 2 ^ 67

-- all bits from a position on
unfoldable pub bits_from : List ℕ → BitPosition → List ℕ
bits_from bytes p = drop (bit_offset p) (bits bytes)

-- the position n bits further on
abbrev pub skip : BitPosition → ℕ → BitPosition
skip p n = record { byte = p.byte + (p.bit + n) / 8; bit = (p.bit + n) % 8 }

-- the next 32 of these bits as a number, with zeros past the end, and how many of them really exist
abbrev pub window_of : List ℕ → Window
window_of b = record { bits = leading_number 32 b; count = min 32 (length b) }

-- the bits that really exist in a window
unfoldable pub bits_in : Window → List ℕ
bits_in w = take w.count (bits_of 32 w.bits)
