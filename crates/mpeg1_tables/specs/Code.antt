-- Reading one code from bits, for any word list.
use Rattle.std.specs.Prelude.{Bool, true, false, cond, ◌&&◌, List, [], ◌∷◌, ℕ, zero, suc, ◌/◌, ◌%◌, ◌^◌, eqb, ltb, length, drop, Result, Ok, Err}
use Rattle.mpeg1_bits.specs.Bits.{leading_number}
use Rattle.mpeg1_tables.specs.declared.code.Code.{Code}
use Rattle.mpeg1_tables.specs.declared.code.CodeError.{CodeError}
use Rattle.mpeg1_tables.specs.declared.code.CodeError.TheVariants.{NoCode, Truncated}

-- the code with this value and length
abbrev pub found : ℕ → ℕ → Result Code CodeError
found v n = Ok (record { value = v; length = n })

-- a word of a table and its value
pub record Word : Type 0 where
  pub bits : List ℕ
  pub value : ℕ

-- the last n decimal digits of a number
unfoldable pub digits_of : ℕ → ℕ → List ℕ
digits_of zero d = []
digits_of (suc n) d = d / 10 ^ n % 10 ∷ digits_of n d

-- a word as Annex B prints it: `word 5 00011 16` is 00011, five bits, with the value 16
unfoldable pub word : ℕ → ℕ → ℕ → Word
word n digits value = record { bits = digits_of n digits; value = value }

-- whether a is a prefix of b (b is a prefix of itself)
unfoldable pub is_prefix : List ℕ → List ℕ → Bool
is_prefix [] b = true
is_prefix (x ∷ a) [] = false
is_prefix (x ∷ a) (y ∷ b) = eqb x y && is_prefix a b

-- b holds all bits left. A word that is a prefix of b is the code, with its value and length. If b is a prefix of a word, b is truncated.
-- There is no code if "no code of this place is a prefix of b and b is a prefix of none".
unfoldable pub code_of : List Word → List ℕ → Result Code CodeError
code_of [] b = Err NoCode
code_of (w ∷ words) b = cond (is_prefix w.bits b) (found w.value (length w.bits)) (cond (is_prefix b w.bits) (Err Truncated) (code_of words b))

-- an n-bit number: any n bits are a code
unfoldable pub field_of : ℕ → List ℕ → Result Code CodeError
field_of n b = cond (ltb (length b) n) (Err Truncated) (found (leading_number n b) n)

-- A code of several parts: continues with the part's value, its length and the bits after it. If the part is no code or truncated,
-- so is the whole.
abbrev pub after_code : {A : Type 0} → Result Code CodeError → List ℕ → (ℕ → ℕ → List ℕ → Result A CodeError) → Result A CodeError
after_code (Ok part) b rest = rest part.value part.length (drop part.length b)
after_code (Err error) b rest = Err error
