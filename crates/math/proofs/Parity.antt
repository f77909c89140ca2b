-- Even and odd integers: by the absolute value's remainder, and the number next to one. Assumes nothing.
use mathlib.Core.Path.{◌≡◌, refl, sym}
use Prim.Native.Nat.{ℕ, zero, suc, ◌%◌}
use lib.Dec.{eqb, eqb-suc-zero}
use lib.IntN.{ℤ, pos, negsuc, neg_ℤ, nat_abs}
use Rattle.math.specs.Limit.{eq_z}
use Rattle.math.specs.Parity.{is_even}

neg-zero : (n : ℕ) → eq_z (neg_ℤ (pos n)) (pos 0) ≡ eqb n 0
neg-zero zero = refl
neg-zero (suc n) = sym (eqb-suc-zero n)

pub even-abs : (z : ℤ) → is_even z ≡ eqb (nat_abs z % 2) 0
even-abs (pos a) = refl
even-abs (negsuc a) = neg-zero (suc a % 2)
