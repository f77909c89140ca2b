-- The bytes of a field (document 01, "The Format 3 file": "Numbers are big-endian; signed ones two's complement").
use Rattle.std.specs.Prelude.{List, [], ◌∷◌, ℕ, suc, ◌-◌, ◌*◌, ◌/◌, ◌%◌, ◌^◌, ℤ, pos, negsuc}

-- two's complement: `half` is the count of non-negative values, 2 ^ 7 for a byte and 2 ^ 15 for two. `twos_complement` reads it back
unfoldable pub complement : ℕ → ℤ → ℕ
complement half (pos n) = n
complement half (negsuc n) = 2 * half - suc n

-- an unsigned 16-bit number, high byte first
unfoldable pub big_endian_bytes : ℕ → List ℕ
big_endian_bytes n = n / 256 % 256 ∷ n % 256 ∷ []

-- signed numbers of one byte and of two bytes
abbrev pub complement_byte : ℤ → ℕ
complement_byte z = complement (2 ^ 7) z

abbrev pub signed_big_endian_bytes : ℤ → List ℕ
signed_big_endian_bytes z = big_endian_bytes (complement (2 ^ 15) z)
