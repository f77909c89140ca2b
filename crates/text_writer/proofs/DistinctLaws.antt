-- Texts of different numbers are different: a number can be read back from its digits, and a field ends at the first separator. Assumes nothing.
use mathlib.Core.Bool.{Bool, cond}
use mathlib.Core.List.{List, [], ◌∷◌, ◌++◌, append_assoc}
use mathlib.Core.Path.{◌≡◌, refl, ap, ap₂, sym, ◌∙◌}
use Prim.Native.Nat.{ℕ, zero, suc, ◌+◌, ◌-◌, ◌*◌, ◌/◌, ◌%◌, ◌^◌, ◌≤◌, ◌<◌}
use native.Mathlib.Nat.{pow-suc}
use native.Mathlib.Omega.{arith}
use borrow.Author.Tests.{ltb-true, ltb-false, lt-ltb, eq-eqb}
use lib.Dec.{ltb}
use lib.IntN.{ℤ, pos, negsuc}
use Rattle.io.specs.Digits.{hex_digit_ascii, last_digits}
use Rattle.math.proofs.Test.{by-test}
use Rattle.text_writer.specs.Number.{minus, digit_count_within, digit_count, decimal, signed_decimal, signed_field}
use Rattle.text_writer.specs.Occurrences.{occurrences}
use Rattle.text_writer.proofs.OccurrenceLaws.{digits-none, signed-none}

-- ---- a number is read back from its digits
read_digits : List ℕ → ℕ → ℕ
read_digits [] number = number
read_digits (digit ∷ text) number = read_digits text (10 * number + (digit - 48))

read-last : (text : List ℕ) (digit number : ℕ) → read_digits (text ++ (digit ∷ [])) number ≡ 10 * read_digits text number + (digit - 48)
unfolding read_digits
read-last [] digit number = refl
read-last (first ∷ text) digit number = read-last text digit (10 * number + (first - 48))

digit-back : (d : ℕ) → d < 10 → hex_digit_ascii d - 48 ≡ d
digit-back d h = rw (lt-ltb d 10 h) (omega arith)

read_back : (k number : ℕ) → number < 10 ^ k → read_digits (last_digits 10 k number) 0 ≡ number
unfolding read_digits
read_back zero number h = omega arith
read_back (suc k) number h =
    let below = rw (pow-suc 10 k) at h in
    read-last (last_digits 10 k (number / 10)) (hex_digit_ascii (number % 10)) 0
    ∙ omega (arith, read_back k (number / 10) (omega arith), digit-back (number % 10) (omega arith))

enough : (n number : ℕ) → number ≤ n → number < 10 ^ digit_count_within n number
unfolding digit_count_within
enough zero number h = omega arith
enough (suc n) number h =
    by-test (λ (count : ℕ). number < 10 ^ count) (ltb number 10) 1 (suc (digit_count_within n (number / 10))) (λ small. omega (arith, ltb-true number 10 small))
    (λ large. rw (pow-suc 10 (digit_count_within n (number / 10))) (omega (arith, enough n (number / 10) (omega (arith, ltb-false number 10 large)))))

decimal-only : (a b : ℕ) → decimal a ≡ decimal b → a ≡ b
decimal-only a b e =
    sym (read_back (digit_count a) a (enough a a (omega arith))) ∙ ap (λ (text : List ℕ). read_digits text 0) e ∙ read_back (digit_count b) b (enough b b (omega arith))

-- ---- and an integer from its sign and digits
signed-only : (a b : ℤ) → signed_decimal a ≡ signed_decimal b → a ≡ b
unfolding occurrences
signed-only (pos a) (pos b) e = ap pos (decimal-only a b e)
signed-only (pos a) (negsuc b) e = absurd (omega (arith, digits-none minus (omega arith) (digit_count a) a, ap (occurrences minus) e))
signed-only (negsuc a) (pos b) e = absurd (omega (arith, digits-none minus (omega arith) (digit_count b) b, ap (occurrences minus) e))
signed-only (negsuc a) (negsuc b) e =
    let same : decimal (suc a) ≡ decimal (suc b) = cc in
    let number = decimal-only (suc a) (suc b) same in
    ap negsuc (omega arith)

-- ---- a text ends at the first separator
split : (separator : ℕ) (x y r q : List ℕ) → occurrences separator x ≡ 0 → occurrences separator y ≡ 0 → x ++ (separator ∷ r) ≡ y ++ (separator ∷ q) → (x ≡ y) × (r ≡ q)
unfolding occurrences
split separator [] [] r q e f same = (refl, cc)
split separator [] (b ∷ y) r q e f same = let first : b ≡ separator = cc in absurd (omega (arith, ap (λ (t : Bool). cond {A = ℕ} t 1 0) (eq-eqb b separator first)))
split separator (a ∷ x) [] r q e f same = let first : a ≡ separator = cc in absurd (omega (arith, ap (λ (t : Bool). cond {A = ℕ} t 1 0) (eq-eqb a separator first)))
split separator (a ∷ x) (b ∷ y) r q e f same =
    let first : a ≡ b = cc in
    let rest : x ++ (separator ∷ r) ≡ y ++ (separator ∷ q) = cc in
    let both = split separator x y r q (omega arith) (omega arith) rest in
    (ap₂ ◌∷◌ first both.0, both.1)

pub fields-apart : (a b : ℤ) (after : ℕ) (r q : List ℕ) → after < 48 → (minus ≡ after → ⊥) → signed_field a after ++ r ≡ signed_field b after ++ q → (a ≡ b) × (r ≡ q)
fields-apart a b after r q h other e =
    let same = sym (append_assoc (signed_decimal a) (after ∷ []) r) ∙ e ∙ append_assoc (signed_decimal b) (after ∷ []) q in
    let both = split after (signed_decimal a) (signed_decimal b) r q (signed-none after h other a) (signed-none after h other b) same in
    (signed-only a b both.0, both.1)
