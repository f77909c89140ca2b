-- The fewest digits that can hold a number are the digits that it has, and how many that is at most. Assumes nothing.
use mathlib.Core.Bool.{Bool, true, false}
use mathlib.Core.List.{[], ◌∷◌, ◌++◌}
use mathlib.Core.Path.{◌≡◌, refl, ap}
use Prim.Native.Nat.{ℕ, zero, suc, ◌+◌, ◌-◌, ◌/◌, ◌^◌, ◌≤◌, ◌<◌}
use native.Mathlib.Nat.{pow-suc}
use native.Mathlib.Omega.{arith}
use lib.Dec.{ltb}
use lib.IntN.{ℤ, pos, negsuc, nat_abs}
use lib.ListN.{length, length-append}
use lib.Signed.{lt_z}
use borrow.Author.Tests.{ltb-true, ltb-false}
use Rattle.io.specs.Digits.{last_digits, IsDigitCount}
use Rattle.math.proofs.Compare.{tests}
use Rattle.math.proofs.Test.{by-test}
use Rattle.text_writer.specs.Number.{minus, digit_count_within, digit_count, decimal, signed_decimal, field, signed_field, field_bytes}

power-positive : (k : ℕ) → 1 ≤ 10 ^ k
power-positive zero = omega arith
power-positive (suc k) = rw (pow-suc 10 k) (omega (arith, power-positive k))

-- one digit fewer cannot hold the number
least-of : (number k : ℕ) → IsDigitCount 10 1 number (suc (suc k)) → 10 ^ suc k ≤ number
least-of number k f = let less : suc (suc k) - 1 ≡ suc k = omega arith in rw less at (f.2 (omega arith))

-- a number below 10 has one digit
single : (number k : ℕ) → number < 10 → IsDigitCount 10 1 number k → k ≡ 1
single number zero small f = absurd (omega (arith, f.0))
single number (suc zero) small f = refl
single number (suc (suc k)) small f =
    let least = rw (pow-suc 10 k) at (least-of number k f) in
    absurd (omega (arith, power-positive k))

-- without its last digit, a number has one digit fewer
rest : (number k : ℕ) → IsDigitCount 10 1 number (suc (suc k)) → IsDigitCount 10 1 (number / 10) (suc k)
rest number k f =
    let most = rw (pow-suc 10 (suc k)) at f.1 in
    let least = rw (pow-suc 10 k) at (least-of number k f) in
    let less : suc k - 1 ≡ k = omega arith in
    (omega arith, omega arith, λ more. rw less (omega arith))

within : (n number k : ℕ) → number ≤ n → IsDigitCount 10 1 number k → k ≡ digit_count_within n number
unfolding digit_count_within
within zero number k h f = single number k (omega arith) f
within (suc n) number k h f = go (λ large k f. within n (number / 10) (suc k) (omega arith) f) (ltb number 10) refl k f
  where
    go : (10 ≤ number → (k : ℕ) → IsDigitCount 10 1 (number / 10) (suc k) → suc k ≡ digit_count_within n (number / 10)) → (b : Bool) → ltb number 10 ≡ b → (k : ℕ) → IsDigitCount 10 1 number k → k ≡ digit_count_within (suc n) number
    go shorter true e k f = rw e (single number k (ltb-true number 10 e) f)
    go shorter false e zero f = absurd (omega (arith, f.0))
    go shorter false e (suc zero) f = absurd (omega (arith, f.1, ltb-false number 10 e))
    go shorter false e (suc (suc k)) f = rw e (ap suc (shorter (ltb-false number 10 e) k (rest number k f)))

pub fewest : (number k : ℕ) → IsDigitCount 10 1 number k → k ≡ digit_count number
fewest number k f = within number number k (omega arith) f

-- ---- a number below 10 ^ (k + 1) has at most k + 1 digits
count-within : (n number k : ℕ) → number < 10 ^ suc k → digit_count_within n number ≤ suc k
unfolding digit_count_within
count-within zero number k h = omega arith
count-within (suc n) number k h = by-test (λ (count : ℕ). count ≤ suc k) (ltb number 10) 1 _ (λ small. omega arith) (λ large. longer k (ltb-false number 10 large) h (count-within n (number / 10)))
  where
    longer : (k : ℕ) → 10 ≤ number → number < 10 ^ suc k → ((j : ℕ) → number / 10 < 10 ^ suc j → digit_count_within n (number / 10) ≤ suc j)
        → suc (digit_count_within n (number / 10)) ≤ suc k
    longer zero large h shorter = absurd (omega arith)
    longer (suc k) large h shorter = let below = rw (pow-suc 10 (suc k)) at h in omega (arith, shorter k (omega arith))

digits-length : (k number : ℕ) → length (last_digits 10 k number) ≡ k
digits-length zero number = refl
digits-length (suc k) number = simp length-append (omega (arith, digits-length k (number / 10)))

pub decimal-most : (k number : ℕ) → number < 10 ^ suc k → length (decimal number) ≤ suc k
decimal-most k number h = omega (arith, digits-length (digit_count number) number, count-within number number k h)

pub signed-most : (k : ℕ) (number : ℤ) → nat_abs number < 10 ^ suc k → length (signed_decimal number) ≤ suc (suc k)
signed-most k (pos number) h = omega (arith, decimal-most k number h)
signed-most k (negsuc number) h = omega (arith, decimal-most k (suc number) h)

-- a field has one byte more. A field of a natural number is that of the same integer
pub field-length : (number : ℤ) (after : ℕ) → length (signed_field number after) ≡ length (signed_decimal number) + 1
field-length number after = length-append (signed_decimal number) (after ∷ [])

-- a signed field by the number's sign
pub field_below : (number : ℤ) (after : ℕ) → lt_z number (pos 0) ≡ true → signed_field number after ≡ (minus ∷ []) ++ field (nat_abs number) after
field_below (pos number) after e = absurd (omega (arith, tests))
field_below (negsuc number) after e = refl

pub field-above : (number : ℤ) (after : ℕ) → lt_z number (pos 0) ≡ false → signed_field number after ≡ field (nat_abs number) after
field-above (pos number) after e = refl
field-above (negsuc number) after e = absurd (omega (arith, tests))

-- a 64-bit number has at most 20 digits
pub field-most : (number after : ℕ) → number < 2 ^ 64 → length (field number after) ≤ field_bytes
field-most number after h = omega (arith, field-length (pos number) after, decimal-most 19 number (omega arith))
