-- Laws of the bytes that occur in a text: a number has neither spaces nor line feeds. Assumes nothing.
use mathlib.Core.Bool.{Bool, cond}
use mathlib.Core.List.{List, [], ◌∷◌, ◌++◌}
use mathlib.Core.Path.{◌≡◌, refl, ap, ◌∙◌}
use Prim.Native.Nat.{ℕ, zero, suc, ◌+◌, ◌*◌, ◌/◌, ◌%◌, ◌<◌}
use native.Mathlib.Omega.{arith}
use borrow.Author.Tests.{ne_eqb}
use lib.Dec.{ltb}
use lib.IntN.{ℤ, pos, negsuc}
use lib.ListN.{length}
use Rattle.io.specs.Digits.{hex_digit_ascii, last_digits}
use Rattle.math.specs.Joined.{joined}
use Rattle.math.proofs.Test.{by-test}
use Rattle.text_writer.specs.Number.{minus, digit_count, signed_decimal, signed_field}
use Rattle.text_writer.specs.Occurrences.{occurrences}

module _ (byte : ℕ) where
  pub occurs-append : (one two : List ℕ) → occurrences byte (one ++ two) ≡ occurrences byte one + occurrences byte two
  unfolding occurrences
  occurs-append [] two = omega arith
  occurs-append (first ∷ one) two = omega (arith, occurs-append one two)

  -- in a joined text, if the byte occurs n times in each part
  pub occurs-joined : {A : Type 0} (text : A → List ℕ) (n : ℕ) → ((a : A) → occurrences byte (text a) ≡ n) → (l : List A) → occurrences byte (joined text l) ≡ length l * n
  unfolding joined occurrences
  occurs-joined text n e [] = omega arith
  occurs-joined text n e (first ∷ l) = occurs-append (text first) (joined text l) ∙ omega (arith, e first, occurs-joined text n e l)

  -- the code of a digit is at least 48
  digit-none : byte < 48 → (d : ℕ) → occurrences byte (hex_digit_ascii d ∷ []) ≡ 0
  unfolding occurrences
  digit-none h d = rw (ne_eqb (hex_digit_ascii d) byte (by-test (λ (code : ℕ). code ≡ byte → ⊥) (ltb d 10) (48 + d) (87 + d) (λ t e. omega arith) (λ t e. omega arith)))

  pub digits-none : byte < 48 → (k number : ℕ) → occurrences byte (last_digits 10 k number) ≡ 0
  unfolding occurrences
  digits-none h zero number = refl
  digits-none h (suc k) number =
      occurs-append (last_digits 10 k (number / 10)) (hex_digit_ascii (number % 10) ∷ []) ∙ omega (arith, digits-none h k (number / 10), digit-none h (number % 10))

  pub signed-none : byte < 48 → (minus ≡ byte → ⊥) → (number : ℤ) → occurrences byte (signed_decimal number) ≡ 0
  unfolding occurrences
  signed-none h other (pos number) = digits-none h (digit_count number) number
  signed-none h other (negsuc number) =
      omega (arith, digits-none h (digit_count (suc number)) (suc number), ap (λ (t : Bool). cond {A = ℕ} t 1 0) (ne_eqb minus byte other))

  -- in a field: once, if the byte is the one after the number
  pub field-occurs : byte < 48 → (minus ≡ byte → ⊥) → (number : ℤ) (after : ℕ) → occurrences byte (signed_field number after) ≡ occurrences byte (after ∷ [])
  field-occurs h other number after = occurs-append (signed_decimal number) (after ∷ []) ∙ omega (arith, signed-none h other number)
