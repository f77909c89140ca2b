-- Laws that relate lists of bits to the numbers they write. Assumes nothing.
use mathlib.Core.Path.{◌≡◌, refl, ap, ap₂, ◌∙◌, sym}
use mathlib.Core.List.{List, [], ◌∷◌, ◌++◌}
use Prim.Native.Nat.{ℕ, zero, suc, ◌+◌, ◌*◌, ◌-◌, ◌/◌, ◌%◌, ◌^◌, ◌<◌, ◌≤◌, zero-le, suc-le-suc}
use native.Mathlib.Nat.{div-add-mod', zero-add, add-zero, suc-add, add-suc, pow-suc, pow-succ', mul-le-mul_right, mod-one, mod-lt, mod-eq_of_lt, div-div-eq-div-mul, mul_comm, mul-add-div_right, mul-add-mod_self_right, div-one}
use native.Mathlib.Omega.{arith}
use lib.Pow.{pow-add, pow_pos}
use lib.Arith.{digits_div, digits_mod, mod-mul}
use lib.ListN.{length, take, drop, get_or}
use Rattle.mpeg1_bits.specs.Bits.{bits_of, leading_number}

-- a list of bits, each 0 or 1
pub data Binary : List ℕ → Type 0 where
  none : Binary []
  more : {x : ℕ} {b : List ℕ} → x < 2 → Binary b → Binary (x ∷ b)

pub binary-append : {a b : List ℕ} → Binary a → Binary b → Binary (a ++ b)
binary-append none q = q
binary-append (more h p) q = more h (binary-append p q)

pub binary-drop : (n : ℕ) {b : List ℕ} → Binary b → Binary (drop n b)
binary-drop zero p = p
binary-drop (suc n) none = none
binary-drop (suc n) (more h p) = binary-drop n p

pub binary-take : (n : ℕ) {b : List ℕ} → Binary b → Binary (take n b)
binary-take zero p = none
binary-take (suc n) none = none
binary-take (suc n) (more h p) = more h (binary-take n p)

pub bits-binary : (n v : ℕ) → Binary (bits_of n v)
unfolding bits_of
bits-binary zero v = none
bits-binary (suc n) v = more (mod-lt (v / 2 ^ n) (suc-le-suc zero-le)) (bits-binary n v)

pub bits-length : (n v : ℕ) → length (bits_of n v) ≡ n
unfolding bits_of
bits-length zero v = refl
bits-length (suc n) v = ap suc (bits-length n v)

pub number-nil : (n : ℕ) → leading_number n [] ≡ 0
unfolding leading_number
number-nil zero = refl
number-nil (suc n) = refl

-- bits after the first k don't matter
pub number-take : (k c : ℕ) (b : List ℕ) → k ≤ c → leading_number k (take c b) ≡ leading_number k b
unfolding leading_number
number-take zero c b h = refl
number-take (suc k) zero b h = absurd (omega arith)
number-take (suc k) (suc c) [] h = refl
number-take (suc k) (suc c) (x ∷ b) h = ap (λ (n : ℕ). x * 2 ^ k + n) (number-take k c b (omega arith))

-- the first i bits are the high part of the number, the next m the low part
pub number-split : (i m : ℕ) (b : List ℕ) → leading_number (i + m) b ≡ leading_number i b * 2 ^ m + leading_number m (drop i b)
unfolding leading_number
number-split zero m b = rw zero-add (omega arith)
number-split (suc i) m [] = rw suc-add (omega (arith, number-nil m))
number-split (suc i) m (x ∷ b) = rw (suc-add, number-split i m b, pow-add) (omega arith)

pub number-below : (n : ℕ) {b : List ℕ} → Binary b → leading_number n b < 2 ^ n
unfolding leading_number
number-below zero p = suc-le-suc zero-le
number-below (suc n) none = pow_pos (suc n)
number-below (suc n) (more {x = x} {b = b} h p) = rw pow-suc (omega (arith, number-below n p, mul-le-mul_right (2 ^ n) h))

-- the low bits of a number don't depend on its high part
pub bits-low : (n m q r : ℕ) → bits_of n (q * 2 ^ (n + m) + r) ≡ bits_of n r
unfolding bits_of
bits-low zero m q r = refl
bits-low (suc n) m q r = ap₂ ◌∷◌ (ap (λ (x : ℕ). x % 2) front ∙ mul-add-mod_self_right (q * 2 ^ m) 2 (r / 2 ^ n)) (ap (λ (e : ℕ). bits_of n (q * 2 ^ e + r)) (suc-add n m ∙ sym (add-suc n m)) ∙ bits-low n (suc m) q r)
  where
    high : q * 2 ^ (suc n + m) ≡ q * 2 ^ m * 2 * 2 ^ n
    high = rw (suc-add, pow-suc, pow-add) (omega arith)

    front : (q * 2 ^ (suc n + m) + r) / 2 ^ n ≡ q * 2 ^ m * 2 + r / 2 ^ n
    front = rw high (mul-add-div_right (pow_pos n) (q * 2 ^ m * 2) r)

-- a number formed from bits gives these bits back
pub bits-number : (n m : ℕ) {b : List ℕ} → Binary b → n ≤ m → n ≤ length b → take n (bits_of m (leading_number m b)) ≡ take n b
unfolding bits_of leading_number
bits-number zero m p g h = refl
bits-number (suc n) zero p g h = absurd (omega arith)
bits-number (suc n) (suc m) none g h = absurd (omega arith)
bits-number (suc n) (suc m) (more {x = x} {b = b} s p) g h = ap₂ ◌∷◌ (ap (λ (y : ℕ). y % 2) (digits_div x (number-below m p)) ∙ mod-eq_of_lt s) (rest ∙ bits-number n m p (omega arith) (omega arith))
  where
    rest : take n (bits_of m (x * 2 ^ m + leading_number m b)) ≡ take n (bits_of m (leading_number m b))
    rest = ap (take n) (ap (λ (e : ℕ). bits_of m (x * 2 ^ e + leading_number m b)) (sym (add-zero m)) ∙ bits-low m 0 x (leading_number m b))

-- the first k bits of a number are its high part
pub number-bits : (k m v : ℕ) → leading_number k (bits_of (k + m) v) ≡ v / 2 ^ m % 2 ^ k
unfolding bits_of leading_number
number-bits zero m v = sym (mod-one (v / 2 ^ m))
number-bits (suc k) m v = rw (suc-add, number-bits k m v) (sym whole)
  where
    power : 2 ^ m * 2 ^ k ≡ 2 ^ (k + m)
    power = mul_comm (2 ^ m) (2 ^ k) ∙ sym (pow-add 2 k m)

    whole : v / 2 ^ m % 2 ^ suc k ≡ v / 2 ^ (k + m) % 2 * 2 ^ k + v / 2 ^ m % 2 ^ k
    whole = rw pow-succ' (mod-mul (v / 2 ^ m) (suc-le-suc zero-le) (pow_pos k) ∙ ap (λ (x : ℕ). x % 2 * 2 ^ k + v / 2 ^ m % 2 ^ k) (div-div-eq-div-mul v (2 ^ m) (2 ^ k) ∙ ap (λ (x : ℕ). v / x) power))

-- the first k bits of a number are the bits of its high part
pub bits-take : (k m v : ℕ) → take k (bits_of (k + m) v) ≡ bits_of k (v / 2 ^ m)
unfolding bits_of
bits-take zero m v = refl
bits-take (suc k) m v = rw suc-add (ap₂ ◌∷◌ (ap (λ (x : ℕ). x % 2) (sym (div-div-eq-div-mul v (2 ^ m) (2 ^ k) ∙ ap (λ (x : ℕ). v / x) power))) (bits-take k m v))
  where
    power : 2 ^ m * 2 ^ k ≡ 2 ^ (k + m)
    power = mul_comm (2 ^ m) (2 ^ k) ∙ sym (pow-add 2 k m)

-- n bits after the first ones, as the low part of the longer number
pub number-drop : (from n : ℕ) {b : List ℕ} → Binary b → leading_number n (drop from b) ≡ leading_number (from + n) b % 2 ^ n
number-drop from n {b} p = sym (ap (λ (x : ℕ). x % 2 ^ n) (number-split from n b) ∙ digits_mod (leading_number from b) (number-below n (binary-drop from p)))

low_of_low : (x a n : ℕ) → x % 2 ^ (a + n) % 2 ^ n ≡ x % 2 ^ n
low_of_low x a n =
    ap (λ (m : ℕ). x % m % 2 ^ n) (pow-add 2 a n)
    ∙ ap (λ (y : ℕ). y % 2 ^ n) (mod-mul x (pow_pos a) (pow_pos n))
    ∙ digits_mod (x / 2 ^ n % 2 ^ a) (mod-lt x (pow_pos n))

pub bits-part : (from n m v : ℕ) → leading_number n (drop from (bits_of (from + n + m) v)) ≡ v / 2 ^ m % 2 ^ n
bits-part from n m v =
    number-drop from n (bits-binary (from + n + m) v)
    ∙ ap (λ (x : ℕ). x % 2 ^ n) (number-bits (from + n) m v)
    ∙ low_of_low (v / 2 ^ m) from n

-- a number's bits without the first ones are those of its low part
pub bits-drop : (a m v : ℕ) → drop a (bits_of (a + m) v) ≡ bits_of m v
unfolding bits_of
bits-drop zero m v = rw zero-add refl
bits-drop (suc a) m v = rw suc-add (bits-drop a m v)

-- taking the remainder by 2^m keeps the low m bits
pub bits-mod : (m v : ℕ) → bits_of m (v % 2 ^ m) ≡ bits_of m v
bits-mod m v =
    sym (bits-low m 0 (v / 2 ^ m) (v % 2 ^ m))
    ∙ ap (λ (e : ℕ). bits_of m (v / 2 ^ m * 2 ^ e + v % 2 ^ m)) (add-zero m)
    ∙ ap (bits_of m) (div-add-mod' v (2 ^ m))

-- bit i of an n-bit number, most significant first
pub bit-of : (n i v : ℕ) → i < n → get_or (bits_of n v) i 0 ≡ v / 2 ^ (n - (i + 1)) % 2
unfolding bits_of
bit-of zero i v h = absurd (omega arith)
bit-of (suc n) zero v h = ap (λ (m : ℕ). v / 2 ^ m % 2) same
  where
    same : n ≡ suc n - (zero + 1)
    same = omega arith
bit-of (suc n) (suc i) v h = bit-of n i v (omega arith) ∙ ap (λ (m : ℕ). v / 2 ^ m % 2) same
  where
    same : n - (i + 1) ≡ suc n - (suc i + 1)
    same = omega arith

-- an n-bit number is the number that its bits form
pub number-of-bits : (n x : ℕ) → x < 2 ^ n → leading_number n (bits_of n x) ≡ x
number-of-bits n x h = ap (λ (k : ℕ). leading_number n (bits_of k x)) (sym (add-zero n)) ∙ number-bits n 0 x ∙ ap (λ (v : ℕ). v % 2 ^ n) (div-one x) ∙ mod-eq_of_lt h

-- two n-bit numbers with the same bits are equal
pub bits-same : (n x y : ℕ) → x < 2 ^ n → y < 2 ^ n → bits_of n x ≡ bits_of n y → x ≡ y
bits-same n x y h g e = sym (number-of-bits n x h) ∙ ap (leading_number n) e ∙ number-of-bits n y g
