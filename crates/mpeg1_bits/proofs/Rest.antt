-- Laws of positions in the bits of a slice, and of the window of bits that follows one. Assumes nothing.
use mathlib.Core.Path.{◌≡◌, refl, ap, ap₂, ◌∙◌, sym}
use mathlib.Core.List.{List, [], ◌∷◌}
use Prim.Native.Nat.{ℕ, zero, suc, ◌+◌, ◌*◌, ◌-◌, ◌/◌, ◌%◌, ◌^◌, ◌<◌, ◌≤◌, min}
use native.Mathlib.Nat.{zero-add, suc-add, mul-div_cancel, zero-min, min-zero, suc-min-suc, min-le_left, min-le_right, min-eq_left, min-eq_right}
use native.Mathlib.Omega.{arith}
use lib.Pow.{pow-add, pow_pos}
use lib.Arith.{digits_div, digits_mod}
use lib.ListN.{length, take, drop, get_or, length-drop, get_or-eq_default}
use lib.Seq.{drop-drop, take-take, take-nil, length-take-le}
use Rattle.mpeg1_bits.specs.declared.BitPosition.{BitPosition}
use Rattle.mpeg1_bits.specs.declared.Window.{Window}
use Rattle.mpeg1_bits.specs.Bits.{bits, bits_of, leading_number, bit_offset, bit_limit, bits_from, skip, window_of, bits_in}
use Rattle.mpeg1_bits.specs.Requires.{InBytes}
use Rattle.mpeg1_bits.proofs.Number.{Binary, binary-drop, number-split, number-below, number-take, bits-number, bits-take, bits-drop, bits-part, bits-mod, bits-length}
use Rattle.mpeg1_bits.proofs.Bytes.{binary-bits, length-bits, drop_bits, number-forty, four}

pub rest-binary : (l : List ℕ) (p : BitPosition) → Binary (bits_from l p)
unfolding bits_from
rest-binary l p = binary-drop (bit_offset p) (binary-bits l)

pub rest-length : (l : List ℕ) (p : BitPosition) → length (bits_from l p) ≡ 8 * length l - bit_offset p
unfolding bits_from
rest-length l p = length-drop (bit_offset p) (bits l) ∙ rw length-bits refl

-- skipping n bits leaves n bits fewer
pub rest-advanced : (l : List ℕ) (p : BitPosition) (n : ℕ) → bits_from l (skip p n) ≡ drop n (bits_from l p)
unfolding bits_from
rest-advanced l p n = ap (λ (k : ℕ). drop k (bits l)) same ∙ sym (drop-drop n (bit_offset p) (bits l))
  where
    same : bit_offset (skip p n) ≡ bit_offset p + n
    same = omega arith

pub in-bytes-advanced : {l : List ℕ} {p : BitPosition} (n : ℕ) → InBytes l p → n ≤ length (bits_from l p) → InBytes l (skip p n)
in-bytes-advanced {l} {p} n w h = record { bit_small = omega arith; not_past = omega (arith, rest-length l p, w.not_past) }

-- what `skip` requires holds when the n bits are still there
pub skip-fits : {l : List ℕ} {p : BitPosition} (n : ℕ) → InBytes l p → n ≤ length (bits_from l p) → length l < 18446744073709551616 → bit_offset p + n < bit_limit
skip-fits {l} {p} n w h f = omega (arith, rest-length l p, w.not_past)

-- the first position
abbrev pub start : BitPosition
start = record { byte = 0; bit = 0 }

pub start-in : (l : List ℕ) → InBytes l start
start-in l = record { bit_small = omega arith; not_past = omega arith }

pub rest-start : (l : List ℕ) → bits_from l start ≡ bits l
unfolding bits_from
rest-start l = refl

-- of 40 bits, the 32 that follow the first few
pub number-within : (b : List ℕ) (bit : ℕ) → Binary b → bit < 8 → leading_number 40 b / 2 ^ (8 - bit) % 4294967296 ≡ leading_number 32 (drop bit b)
number-within b bit p h = rw (whole, digits_div (leading_number bit b * 2 ^ 32 + leading_number 32 d) (number-below (8 - bit) (binary-drop 32 (binary-drop bit p)))) (digits_mod (leading_number bit b) (number-below 32 (binary-drop bit p)))
  where
    d : List ℕ
    d = drop bit b

    parts : leading_number (bit + (32 + (8 - bit))) b ≡ leading_number bit b * 2 ^ (32 + (8 - bit)) + (leading_number 32 d * 2 ^ (8 - bit) + leading_number (8 - bit) (drop 32 d))
    parts = number-split bit (32 + (8 - bit)) b ∙ ap (λ (n : ℕ). leading_number bit b * 2 ^ (32 + (8 - bit)) + n) (number-split 32 (8 - bit) d)

    forty : bit + (32 + (8 - bit)) ≡ 40
    forty = omega arith

    whole : leading_number 40 b ≡ (leading_number bit b * 2 ^ 32 + leading_number 32 d) * 2 ^ (8 - bit) + leading_number (8 - bit) (drop 32 d)
    whole = rw forty at parts ∙ rw pow-add (omega arith)

-- five bytes determine the next 32 bits
pub bits-of-five : (l : List ℕ) (p : BitPosition) → ((i : ℕ) → get_or l i 0 < 256) → p.bit < 8 → (256 * four l p.byte + get_or l (p.byte + 4) 0) / 2 ^ (8 - p.bit) % 4294967296 ≡ leading_number 32 (bits_from l p)
unfolding bits_from
bits-of-five l p small h =
    ap (λ (n : ℕ). n / 2 ^ (8 - p.bit) % 4294967296) (sym (number-forty l small p.byte))
    ∙ number-within (bits (drop p.byte l)) p.bit (binary-bits (drop p.byte l)) h
    ∙ ap (λ (b : List ℕ). leading_number 32 (drop p.bit b)) (sym (drop_bits p.byte l))
    ∙ ap (leading_number 32) (drop-drop p.bit (8 * p.byte) (bits l))

take_min : (n : ℕ) (b : List ℕ) → take (min n (length b)) b ≡ take n b
take_min zero b = rw zero-min refl
take_min (suc n) [] = rw min-zero refl
take_min (suc n) (x ∷ b) = rw suc-min-suc (ap (λ (l : List ℕ). x ∷ l) (take_min n b))

-- a window's bits are the first 32 of those left
pub window-bits : {b : List ℕ} → Binary b → bits_in (window_of b) ≡ take 32 b
unfolding bits_in
window-bits {b} p = bits-number (min 32 (length b)) 32 p (min-le_left 32 (length b)) (min-le_right 32 (length b)) ∙ take_min 32 b

-- the first k bits of a window
pub window-take : (w : Window) (k : ℕ) → k ≤ w.count → w.count ≤ 32 → take k (bits_in w) ≡ bits_of k (w.bits / 2 ^ (32 - k))
unfolding bits_in
window-take w k h m =
    take-take k w.count (bits_of 32 w.bits) h
    ∙ ap (λ (n : ℕ). take k (bits_of n w.bits)) whole
    ∙ bits-take k (32 - k) w.bits
  where
    whole : 32 ≡ k + (32 - k)
    whole = omega arith

pub window-length : (w : Window) → w.count ≤ 32 → length (bits_in w) ≡ w.count
unfolding bits_in
window-length w m = length-take-le w.count (bits_of 32 w.bits) (rw bits-length m)

pub drop-take : (a c : ℕ) (l : List ℕ) → drop a (take (a + c) l) ≡ take c (drop a l)
drop-take zero c l = rw zero-add refl
drop-take (suc a) c [] = rw suc-add (sym (take-nil c))
drop-take (suc a) c (x ∷ l) = rw suc-add (drop-take a c l)

-- n bits inside a window, as part of its number
pub window-part : (w : Window) (from n : ℕ) → from + n ≤ w.count → w.count ≤ 32 → leading_number n (drop from (bits_in w)) ≡ w.bits / 2 ^ (32 - (from + n)) % 2 ^ n
unfolding bits_in
window-part w from n h m =
    ap (λ (c : ℕ). leading_number n (drop from (take c (bits_of 32 w.bits)))) counted
    ∙ ap (leading_number n) (drop-take from (w.count - from) (bits_of 32 w.bits))
    ∙ number-take n (w.count - from) (drop from (bits_of 32 w.bits)) (omega (arith, h))
    ∙ ap (λ (c : ℕ). leading_number n (drop from (bits_of c w.bits))) whole
    ∙ bits-part from n (32 - (from + n)) w.bits
  where
    counted : w.count ≡ from + (w.count - from)
    counted = omega (arith, h)

    whole : 32 ≡ from + n + (32 - (from + n))
    whole = omega (arith, h, m)

-- a window without its first bits
pub window-drop : (w : Window) (a m : ℕ) → a + m ≡ 32 → a ≤ w.count → w.count ≤ 32 → bits_in (record { bits = w.bits % 2 ^ m * 2 ^ a; count = w.count - a }) ≡ drop a (bits_in w)
unfolding bits_in
window-drop w a m e h g =
    ap (λ (n : ℕ). take (w.count - a) (bits_of n (w.bits % 2 ^ m * 2 ^ a))) back
    ∙ sym (take-take (w.count - a) m (bits_of (m + a) (w.bits % 2 ^ m * 2 ^ a)) (omega (arith, e, g)))
    ∙ ap (take (w.count - a)) (bits-take m a (w.bits % 2 ^ m * 2 ^ a) ∙ ap (bits_of m) (mul-div_cancel (w.bits % 2 ^ m) (pow_pos a)) ∙ bits-mod m w.bits ∙ sym (bits-drop a m w.bits))
    ∙ sym (drop-take a (w.count - a) (bits_of (a + m) w.bits))
    ∙ ap₂ (λ (c n : ℕ). drop a (take c (bits_of n w.bits))) counted e
  where
    back : 32 ≡ m + a
    back = omega (arith, e)

    counted : a + (w.count - a) ≡ w.count
    counted = omega (arith, h)

-- the window at a position, computed from five bytes
module _ (l : List ℕ) (p : BitPosition) (small : (i : ℕ) → get_or l i 0 < 256) (w : InBytes l p) where
  window-of-five : {x n : ℕ} → x ≡ (256 * four l p.byte + get_or l (p.byte + 4) 0) / 2 ^ (8 - p.bit) % 4294967296 → n ≡ min 32 (length (bits_from l p)) → ◌≡◌ {A = Window} (record { bits = x; count = n }) (window_of (bits_from l p))
  window-of-five e f = λ i. record { bits = (e ∙ bits-of-five l p small w.bit_small) i; count = f i }

  pub full-window : {x : ℕ} → x ≡ (256 * four l p.byte + get_or l (p.byte + 4) 0) / 2 ^ (8 - p.bit) % 4294967296 → p.byte + 5 ≤ length l → ◌≡◌ {A = Window} (record { bits = x; count = 32 }) (window_of (bits_from l p))
  full-window e h = window-of-five e (sym (min-eq_left (omega (arith, rest-length l p, w.bit_small))))

  pub last-window : {x : ℕ} → x ≡ (256 * four l p.byte + 0) / 2 ^ (8 - p.bit) % 4294967296 → length l ≤ p.byte + 4 → ◌≡◌ {A = Window} (record { bits = x; count = 8 * (length l - p.byte) - p.bit }) (window_of (bits_from l p))
  last-window {x} e h =
      window-of-five (e ∙ ap (λ (z : ℕ). (256 * four l p.byte + z) / 2 ^ (8 - p.bit) % 4294967296) (sym (get_or-eq_default l 0 h)))
      (left ∙ sym (min-eq_right (omega (arith, rest-length l p, w.bit_small, w.not_past))))
    where
      left : 8 * (length l - p.byte) - p.bit ≡ length (bits_from l p)
      left = omega (arith, rest-length l p, w.not_past)
