-- Branch tests on signed numbers, as facts; `tests` is the rule set for `omega`. Assumes nothing.
use mathlib.Core.Path.{◌≡◌, refl, sym, ap, ◌∙◌, subst}
use mathlib.Core.Bool.{Bool, true, false, not}
use Prim.Native.Nat.{ℕ, ◌+◌, ◌≤◌, ◌<◌}
use native.Mathlib.Omega.{arith}
use lib.Dec.{T, eqb}
use lib.IntN.{ℤ, pos, negsuc, nat_abs, ◌-ℤ◌}
use lib.Signed.{lt_z, le_z, non_neg, lt_z_yes, lt_z_no, le_z_yes}
use mir.Syntax.{Width}
use mir.Val.{SFits, to_z, of_z}
use mir.ValLaws.{to_z-of_z}
use borrow.Author.Tests.{ltb-false, eqb-true, eqb-false, eq-eqb, ne_eqb}
use Rattle.math.specs.Limit.{eq_z}
use Rattle.math.proofs.Difference.{up, dn, of_le, of_lt}

pub lt-true : (x y : ℤ) → lt_z x y ≡ true → up x + dn y < up y + dn x
lt-true x y e = of_lt {x = x} {y = y} (lt_z_yes (subst T (sym e) tt))

pub lt-false : (x y : ℤ) → lt_z x y ≡ false → up y + dn x ≤ up x + dn y
lt-false x y e = of_le {x = y} {y = x} (lt_z_no (subst (λ (b : Bool). T (not b)) (sym e) tt))

pub le-true : (x y : ℤ) → le_z x y ≡ true → up x + dn y ≤ up y + dn x
le-true x y e = of_le {x = x} {y = y} (le_z_yes (subst T (sym e) tt))

pub ruleset tests = (lt-true, lt-false, le-true)

-- the absolute value, by the sign
pub abs-below : (z : ℤ) → lt_z z (pos 0) ≡ true → pos (nat_abs z) ≡ pos 0 -ℤ z
abs-below (pos n) e = absurd (omega (arith, tests))
abs-below (negsuc n) e = ap pos (omega arith)

pub abs-above : (z : ℤ) → lt_z z (pos 0) ≡ false → pos (nat_abs z) ≡ z
abs-above (pos n) e = refl
abs-above (negsuc n) e = absurd (subst T e tt)

-- a number that two tests confine to 0..b survives a cast to an unsigned type
pub kept_in : (z : ℤ) {b : ℕ} → lt_z z (pos 0) ≡ false → lt_z (pos b) z ≡ false → (T (non_neg z)) × (nat_abs z ≤ b) × (pos (nat_abs z) ≡ z)
kept_in (pos n) {b} h k = (tt, ltb-false b n k, refl)
kept_in (negsuc n) h k = absurd (subst T h tt)

pub eq_z-refl : (x : ℤ) → eq_z x x ≡ true
eq_z-refl (pos a) = eq-eqb a a refl
eq_z-refl (negsuc a) = eq-eqb a a refl

pub eq-eq_z : (x y : ℤ) → x ≡ y → eq_z x y ≡ true
eq-eq_z x y e = ap (eq_z x) (sym e) ∙ eq_z-refl x

pub ne-eq_z : (x y : ℤ) → (x ≡ y → ⊥) → eq_z x y ≡ false
ne-eq_z (pos a) (pos b) h = ne_eqb a b (λ e. h (ap pos e))
ne-eq_z (pos a) (negsuc b) h = refl
ne-eq_z (negsuc a) (pos b) h = refl
ne-eq_z (negsuc a) (negsuc b) h = ne_eqb a b (λ e. h (ap negsuc e))

pub eq_z-true : (x y : ℤ) → eq_z x y ≡ true → x ≡ y
eq_z-true (pos a) (pos b) e = ap pos (eqb-true a b e)
eq_z-true (pos a) (negsuc b) e = cc
eq_z-true (negsuc a) (pos b) e = cc
eq_z-true (negsuc a) (negsuc b) e = ap negsuc (eqb-true a b e)

-- `==` compares bits, and equal bits mean equal numbers
pub bits-eq : (w : Width) {x y : ℤ} → SFits w x → SFits w y → of_z w x ≡ of_z w y → x ≡ y
bits-eq w {x} {y} f g e = sym (to_z-of_z w x f) ∙ ap (to_z w) e ∙ to_z-of_z w y g

pub bits-zero : (w : Width) (z : ℤ) → SFits w z → eqb (of_z w z) 0 ≡ eq_z z (pos 0)
bits-zero w z f = go (eqb (of_z w z) 0) refl
  where
    go : (b : Bool) → eqb (of_z w z) 0 ≡ b → b ≡ eq_z z (pos 0)
    go true e = sym (eq-eq_z z (pos 0) (bits-eq w f (record { sfits = omega arith }) (eqb-true (of_z w z) 0 e)))
    go false e = sym (ne-eq_z z (pos 0) (λ p. eqb-false (of_z w z) 0 e (ap (of_z w) p)))
