-- Ring laws of ℤ: every variable becomes a difference of naturals, and `omega` proves the rest. Assumes nothing.
use mathlib.Core.Path.{◌≡◌}
use native.Mathlib.Omega.{arith}
use lib.IntN.{ℤ, neg_ℤ, ◌+ℤ◌, ◌*ℤ◌, +ℤ_assoc, +ℤ_comm, *ℤ_comm}
use Rattle.math.proofs.Difference.{subs, as-sub}

pub mul_assoc : (x y z : ℤ) → (x *ℤ y) *ℤ z ≡ x *ℤ (y *ℤ z)
mul_assoc x y z = rw (as-sub x, as-sub y, as-sub z) (simp subs (omega arith))

pub mul-add : (x y z : ℤ) → x *ℤ (y +ℤ z) ≡ x *ℤ y +ℤ x *ℤ z
mul-add x y z = rw (as-sub x, as-sub y, as-sub z) (simp subs (omega arith))

pub add-mul : (x y z : ℤ) → (x +ℤ y) *ℤ z ≡ x *ℤ z +ℤ y *ℤ z
add-mul x y z = rw (as-sub x, as-sub y, as-sub z) (simp subs (omega arith))

pub add_left_comm : (x y z : ℤ) → x +ℤ (y +ℤ z) ≡ y +ℤ (x +ℤ z)
add_left_comm x y z = rw (as-sub x, as-sub y, as-sub z) (simp subs (omega arith))

pub mul_left_comm : (x y z : ℤ) → x *ℤ (y *ℤ z) ≡ y *ℤ (x *ℤ z)
mul_left_comm x y z = rw (as-sub x, as-sub y, as-sub z) (simp subs (omega arith))

pub neg-mul : (x y : ℤ) → neg_ℤ x *ℤ y ≡ neg_ℤ (x *ℤ y)
neg-mul x y = rw (as-sub x, as-sub y) (simp subs (omega arith))

pub mul-neg : (x y : ℤ) → x *ℤ neg_ℤ y ≡ neg_ℤ (x *ℤ y)
mul-neg x y = rw (as-sub x, as-sub y) (simp subs (omega arith))

-- multiplies out and sorts
pub ruleset ring = (mul-add, add-mul, mul_assoc, mul_left_comm, *ℤ_comm, +ℤ_assoc, add_left_comm, +ℤ_comm, neg-mul, mul-neg)
