-- Numbers as text, in ASCII.
use Rattle.std.specs.Prelude.{cond, List, [], ◌∷◌, ◌++◌, ℕ, zero, suc, ◌+◌, ◌/◌, ltb, ℤ, pos, negsuc}
use Rattle.io.specs.Digits.{last_digits}

abbrev pub space : ℕ
space = 32

abbrev pub line_end : ℕ
line_end = 10

abbrev pub minus : ℕ
minus = 45

-- how many decimal digits a number has (0 has one); n is at least the number
unfoldable pub digit_count_within : ℕ → ℕ → ℕ
digit_count_within zero number = 1
digit_count_within (suc n) number = cond (ltb number 10) 1 (suc (digit_count_within n (number / 10)))

abbrev pub digit_count : ℕ → ℕ
digit_count number = digit_count_within number number

-- a number in decimal, without leading zeros
abbrev pub decimal : ℕ → List ℕ
decimal number = last_digits 10 (digit_count number) number

-- an integer in decimal: a negative one is a minus sign and its absolute value
abbrev pub signed_decimal : ℤ → List ℕ
signed_decimal (pos number) = decimal number
signed_decimal (negsuc number) = minus ∷ decimal (suc number)

-- a field: a number and the separator after it
abbrev pub field : ℕ → ℕ → List ℕ
field number after = decimal number ++ (after ∷ [])

-- the same for an integer
abbrev pub signed_field : ℤ → ℕ → List ℕ
signed_field number after = signed_decimal number ++ (after ∷ [])

-- the most bytes of a field: a number below 2 ^ 64 has at most 20 digits
abbrev pub field_bytes : ℕ
field_bytes = 20 + 1
