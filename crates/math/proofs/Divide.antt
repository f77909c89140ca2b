-- `>>` rounds down: the quotient bounds the number from both sides. `/` rounds towards zero: a negated number has the negated quotient.
-- Assumes nothing.
use mathlib.Core.Path.{◌≡◌, refl, sym}
use Prim.Native.Nat.{ℕ, zero, suc, ◌/◌, ◌<◌}
use native.Mathlib.Omega.{arith}
use native.Mathlib.Nat.{div-add-mod', mod-lt, zero-div}
use lib.IntN.{ℤ, pos, negsuc, neg_ℤ, neg_ℤ-neg_ℤ, ◌+ℤ◌, ◌*ℤ◌}
use lib.Signed.{◌≤ℤ◌, ◌<ℤ◌, shr_z, quot_z}
use Rattle.math.proofs.Difference.{le_of, lt_of, parts-mul, parts_add}

-- m × (z >> k) ≤ z < m × (z >> k) + m, where m is 2 ^ k
pub floor-le : (z : ℤ) (m : ℕ) → 0 < m → (shr_z z m *ℤ pos m) ≤ℤ z
floor-le (pos a) m h = le_of _ _ (omega (arith, div-add-mod' a m))
floor-le (negsuc a) m h = le_of _ _ (omega (arith, parts-mul (negsuc (a / m)) (pos m), div-add-mod' a m, mod-lt a h))

pub floor-lt : (z : ℤ) (m : ℕ) → 0 < m → z <ℤ (shr_z z m *ℤ pos m +ℤ pos m)
floor-lt (pos a) m h = lt_of _ _ (omega (arith, div-add-mod' a m, mod-lt a h))
floor-lt (negsuc a) m h = lt_of _ _ (omega (arith, parts-mul (negsuc (a / m)) (pos m), parts_add (negsuc (a / m) *ℤ pos m) (pos m), div-add-mod' a m, mod-lt a h))

pub quot-neg : (z : ℤ) (m : ℕ) → quot_z (neg_ℤ z) (pos m) ≡ neg_ℤ (quot_z z (pos m))
quot-neg (pos zero) m = rw (zero-div m)
quot-neg (pos (suc a)) m = refl
quot-neg (negsuc a) m = sym (neg_ℤ-neg_ℤ (pos (suc a / m)))
