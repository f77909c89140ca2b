-- The fields of a body (document 01, "The Format 3 file": "Numbers are big-endian; signed ones two's complement").
use Rattle.std.specs.Prelude.{cond, [], ◌∷◌, ℕ, ◌+◌, ◌*◌, ◌^◌, ltb, ℤ, pos, ◌-ℤ◌, Option, Result, ok_or}
use Rattle.refusals.specs.declared.Refusal.{Refusal}
use Rattle.refusals.specs.declared.Refusal.TheVariants.{BodyLength}
use Rattle.symbols.specs.Parsed.{Parser, parsed, refused, ◌then◌, give}
use Rattle.format3_records.specs.declared.field.Cursor.{Cursor}

-- "A field that isn't wholly inside its record is refused by 6"
abbrev pub not_inside : Refusal
not_inside = BodyLength

-- two bytes as a number, the high one first
abbrev pub big_endian : ℕ → ℕ → ℕ
big_endian high low = 256 * high + low

-- the signed number that n encodes, where `half` is half of all numbers: 2 ^ 7 for one byte, 2 ^ 15 for two
unfoldable pub twos_complement : ℕ → ℕ → ℤ
twos_complement half n = cond (ltb n half) (pos n) (pos n -ℤ pos (2 * half))

-- an unsigned byte
unfoldable pub byte : Parser ℕ
byte [] = refused not_inside
byte (b ∷ rest) = parsed b rest

-- an unsigned two-byte number
unfoldable pub two_bytes : Parser ℕ
two_bytes [] = refused not_inside
two_bytes (a ∷ []) = refused not_inside
two_bytes (a ∷ b ∷ rest) = parsed (big_endian a b) rest

-- signed numbers of one and of two bytes
unfoldable pub signed_byte : Parser ℤ
signed_byte =
    byte then λ n.
    give (twos_complement (2 ^ 7) n)

unfoldable pub signed_two_bytes : Parser ℤ
signed_two_bytes =
    two_bytes then λ n.
    give (twos_complement (2 ^ 15) n)

-- ---- what the field readers answer
abbrev pub field_result : {A : Type 0} → Option (A × Cursor) → Result (A × Cursor) Refusal
field_result answer = ok_or answer not_inside
