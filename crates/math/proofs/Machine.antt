-- Signed machine arithmetic: one combinator for each operation tracks the exact value and a bound on it. Assumes nothing.
-- In `Held z`, `raw` is the number as a proof need shows it, with `to_z w (of_z w ..)` around each step; `is` proves that it equals z,
-- and `cap` bounds the absolute value of z. `fits` proves that an operation doesn't overflow.
use mathlib.Core.Path.{◌≡◌, refl, sym, ap, ◌∙◌, subst}
use mathlib.Core.Bool.{Bool}
use Prim.Native.Nat.{ℕ, zero, suc, ◌+◌, ◌*◌, ◌/◌, ◌^◌, ◌≤◌, ◌<◌}
use native.Mathlib.Omega.{arith}
use native.Mathlib.Nat.{le_trans, le_of_lt, lt_of_lt_of_le, lt_of_le_of_lt, div-le_self, div-mul-le_self, le-div_iff_mul-le, mod-le}
use lib.Dec.{T, leb, ltb, ltb→lt, leb→le}
use lib.IntN.{ℤ, pos, negsuc, neg_ℤ, nat_abs, ◌+ℤ◌, ◌-ℤ◌, ◌*ℤ◌}
use lib.Signed.{lt_z, mag, non_neg, quot_z, rem_z, shr_z}
use mir.Syntax.{Width}
use mir.Val.{Fits, SFits, bits, hbits, to_z, of_z}
use mir.ValLaws.{to_z-of_z, to_z_pos}
use Rattle.math.specs.Bound.{Within}
use Rattle.math.proofs.Bound as B
use Rattle.math.proofs.Bound.{within-add, within-mul, within-neg}

pub record Held (z : ℤ) : Type 0 where
  pub raw : ℤ
  pub cap : ℕ
  pub is : raw ≡ z
  pub size : Within cap z

-- any number with a bound; a literal
abbrev pub number : {b : ℕ} {z : ℤ} → Within b z → Held z
number {b} {z} p = record { raw = z; cap = b; is = refl; size = p }

abbrev pub literal : (z : ℤ) → Held z
literal z = record { raw = z; cap = nat_abs z; is = refl; size = B.within-self z }

-- an operation's proof need, and its result as the machine keeps it
pub fits : {w : Width} {z : ℤ} (p : Held z) → T (ltb p.cap (2 ^ hbits w)) → SFits w p.raw
fits {w} p t = subst (SFits w) (sym p.is) (B.within-fits p.size t)

abbrev pub kept : (w : Width) {z : ℤ} (p : Held z) → T (ltb p.cap (2 ^ hbits w)) → Held z
kept w {z} p t = record { raw = to_z w (of_z w p.raw); cap = p.cap; is = to_z-of_z w p.raw (fits p t) ∙ p.is; size = p.size }

-- a parameter, or an element read from an array, with a known bound
abbrev pub parameter : {w : Width} {b : ℕ} {z : ℤ} → SFits w z → Within b z → Held z
parameter {w} {b} {z} f p = record { raw = to_z w (of_z w z); cap = b; is = to_z-of_z w z f; size = p }

-- a loop's variable, whose bits the invariant states
abbrev pub variable : (w : Width) {b n : ℕ} {z : ℤ} → n ≡ of_z w z → Within b z → T (ltb b (2 ^ hbits w)) → Held z
variable w {b} {n} {z} e p t = record { raw = to_z w n; cap = b; is = ap (to_z w) e ∙ to_z-of_z w z (B.within-fits p t); size = p }

-- an unsigned number cast to signed: n below 2 ^ 8, say, for a `u8`
abbrev pub unsigned : (w : Width) (n : ℕ) {b : ℕ} → n < b → T (leb b (2 ^ hbits w)) → Held (pos n)
unsigned w n {b} h t = record { raw = to_z w n; cap = b; is = to_z_pos w n (lt_of_lt_of_le h (leb→le b (2 ^ hbits w) t)); size = record { within = le_of_lt h } }

-- the same, for n at most b
abbrev pub unsigned-most : (w : Width) (n : ℕ) {b : ℕ} → n ≤ b → T (ltb b (2 ^ hbits w)) → Held (pos n)
unsigned-most w n {b} h t = record { raw = to_z w n; cap = b; is = to_z_pos w n (lt_of_le_of_lt h (ltb→lt b (2 ^ hbits w) t)); size = record { within = h } }

-- a bound that a callee requires
pub bound : {b : ℕ} {z : ℤ} (p : Held z) → T (leb p.cap b) → Within b p.raw
bound {b} p t = subst (Within b) (sym p.is) (B.within_more p.size (leb→le p.cap b t))

-- a number that is not negative survives a cast to an unsigned type
pub cast-keeps : {w : Width} {z : ℤ} (p : Held z) → T (non_neg z) → T (ltb p.cap (2 ^ bits w)) → (T (non_neg p.raw)) × Fits w (nat_abs p.raw)
cast-keeps {w} p h t = (subst (λ (z : ℤ). T (non_neg z)) (sym p.is) h, record { fits = lt_of_le_of_lt (subst (Within p.cap) (sym p.is) p.size).within (ltb→lt p.cap (2 ^ bits w) t) })

-- a call's result r, which the contract says is z
abbrev pub result : (w : Width) {b : ℕ} {r z : ℤ} → r ≡ z → Within b z → T (ltb b (2 ^ hbits w)) → Held z
result w {b} {r} {z} e p t = record { raw = to_z w (of_z w r); cap = b; is = ap (λ (x : ℤ). to_z w (of_z w x)) e ∙ to_z-of_z w z (B.within-fits p t); size = p }

-- a call's result that is stored or passed on unchanged
pub returned : (w : Width) {r z : ℤ} → mag r < 2 ^ hbits w → r ≡ z → to_z w (of_z w r) ≡ z
returned w {r} h e = to_z-of_z w r (record { sfits = h }) ∙ e

infixl 6 ◌⊞◌ ◌⊟◌
infixl 7 ◌⊠◌
abbrev pub ◌⊞◌ : {x y : ℤ} → Held x → Held y → Held (x +ℤ y)
p ⊞ q = record { raw = p.raw +ℤ q.raw; cap = p.cap + q.cap; is = (λ i. p.is i +ℤ q.is i); size = within-add p.size q.size }

abbrev pub ◌⊟◌ : {x y : ℤ} → Held x → Held y → Held (x -ℤ y)
p ⊟ q = record { raw = p.raw -ℤ q.raw; cap = p.cap + q.cap; is = (λ i. p.is i -ℤ q.is i); size = within-add p.size (within-neg q.size) }

abbrev pub ◌⊠◌ : {x y : ℤ} → Held x → Held y → Held (x *ℤ y)
p ⊠ q = record { raw = p.raw *ℤ q.raw; cap = p.cap * q.cap; is = (λ i. p.is i *ℤ q.is i); size = within-mul p.size q.size }

-- ---- a quotient, a remainder or a shift is never larger than the number
pub neg-abs : (n : ℕ) → nat_abs (neg_ℤ (pos n)) ≡ n
neg-abs zero = refl
neg-abs (suc n) = refl

pub quot-abs : (x y : ℤ) → nat_abs (quot_z x y) ≡ nat_abs x / nat_abs y
quot-abs (pos a) (pos b) = refl
quot-abs (pos a) (negsuc b) = neg-abs (a / suc b)
quot-abs (negsuc a) (pos b) = neg-abs (suc a / b)
quot-abs (negsuc a) (negsuc b) = refl

pub quot_le : (x y : ℤ) → nat_abs (quot_z x y) ≤ nat_abs x
quot_le x y = subst (λ (n : ℕ). n ≤ nat_abs x) (sym (quot-abs x y)) (div-le_self (nat_abs x) (nat_abs y))

abbrev pub quotient : {x y : ℤ} → Held x → Held y → Held (quot_z x y)
quotient {x} {y} p q = record { raw = quot_z p.raw q.raw; cap = p.cap; is = (λ i. quot_z (p.is i) (q.is i)); size = record { within = le_trans (quot_le x y) p.size.within } }

pub div_mono : {a b : ℕ} (m : ℕ) → 0 < m → a ≤ b → a / m ≤ b / m
div_mono {a} m z h = (le-div_iff_mul-le z).1 (le_trans (div-mul-le_self a m) h)

-- division by a literal, which divides the bound as well
abbrev pub over : {x : ℤ} → Held x → (m : ℕ) → T (ltb 0 m) → Held (quot_z x (pos m))
over {x} p m t = record { raw = quot_z p.raw (pos m); cap = p.cap / m; is = (λ i. quot_z (p.is i) (pos m)); size = record { within = subst (λ (n : ℕ). n ≤ p.cap / m) (sym (quot-abs x (pos m))) (div_mono m (ltb→lt 0 m t) p.size.within) } }

pub rem-le : (x y : ℤ) → nat_abs (rem_z x y) ≤ nat_abs x
rem-le (pos a) y = mod-le a (nat_abs y)
rem-le (negsuc a) y = subst (λ (n : ℕ). n ≤ suc a) (sym (neg-abs _)) (mod-le (suc a) (nat_abs y))

abbrev pub remainder : {x y : ℤ} → Held x → Held y → Held (rem_z x y)
remainder {x} {y} p q = record { raw = rem_z p.raw q.raw; cap = p.cap; is = (λ i. rem_z (p.is i) (q.is i)); size = record { within = le_trans (rem-le x y) p.size.within } }

pub shr_le : (x : ℤ) (m : ℕ) → nat_abs (shr_z x m) ≤ nat_abs x
shr_le (pos a) m = div-le_self a m
shr_le (negsuc a) m = omega (arith, div-le_self a m)

abbrev pub shifted : (m : ℕ) {x : ℤ} → Held x → Held (shr_z x m)
shifted m {x} p = record { raw = shr_z p.raw m; cap = p.cap; is = (λ i. shr_z (p.is i) m); size = record { within = le_trans (shr_le x m) p.size.within } }

-- a branch's test on two held numbers is the same test on the exact ones
pub tested : {x y : ℤ} {t : Bool} (p : Held x) (q : Held y) → lt_z p.raw q.raw ≡ t → lt_z x y ≡ t
tested p q e = sym (λ i. lt_z (p.is i) (q.is i)) ∙ e
