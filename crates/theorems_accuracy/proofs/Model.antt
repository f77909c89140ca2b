-- The integers are a linearly ordered commutative ring: the laws of `OrderedRing` have a model. Assumes nothing.
use Prim.Native.Nat.{zero, suc, ◌*◌}
use mathlib.Core.Bool.{Bool, true, false}
use mathlib.Core.Logic.{◌⊎◌, inl, inr}
use mathlib.Core.Path.{◌≡◌, refl}
use native.Mathlib.Omega.{arith}
use lib.IntN.{ℤ, pos, negsuc, neg_ℤ, ◌+ℤ◌, ◌*ℤ◌, +ℤ_assoc, +ℤ_comm, +ℤ_idr, +ℤ_invr, *ℤ_comm, *ℤ-one}
use lib.Signed.{lt_z, ◌<ℤ◌, <ℤ_irrefl}
use Rattle.math.proofs.Compare.{tests}
use Rattle.math.proofs.Difference.{same_of, lt_of, of_lt, parts_add}
use Rattle.math.proofs.Ring.{mul_assoc, mul-add}
use Rattle.theorems_accuracy.specs.OrderedRing.{OrderedRing}

compare : (a b : ℤ) → (a <ℤ b) ⊎ ((a ≡ b) ⊎ (b <ℤ a))
compare a b = go (lt_z a b) refl (lt_z b a) refl
  where
    go : (s : Bool) → lt_z a b ≡ s → (t : Bool) → lt_z b a ≡ t → (a <ℤ b) ⊎ ((a ≡ b) ⊎ (b <ℤ a))
    go true p t q = inl (lt_of a b (omega (arith, tests)))
    go false p true q = inr (inr (lt_of b a (omega (arith, tests))))
    go false p false q = inr (inl (same_of a b (omega (arith, tests))))

product : (a b : ℤ) → pos 0 <ℤ a → pos 0 <ℤ b → pos 0 <ℤ (a *ℤ b)
product (pos zero) b h k = absurd (omega (arith, of_lt h))
product (pos (suc n)) (pos zero) h k = absurd (omega (arith, of_lt k))
product (pos (suc n)) (pos (suc m)) h k = lt_of (pos 0) (pos (suc n * suc m)) (omega arith)
product (pos (suc n)) (negsuc m) h k = absurd (omega (arith, of_lt k))
product (negsuc n) b h k = absurd (omega (arith, of_lt h))

pub integers : OrderedRing
unfolding lib.IntN.one
integers = record {
  Element = ℤ;
  zero = pos 0;
  one = pos 1;
  plus = ◌+ℤ◌;
  times = ◌*ℤ◌;
  negation = neg_ℤ;
  Less = ◌<ℤ◌;
  plus_assoc = +ℤ_assoc;
  plus_comm = +ℤ_comm;
  plus-zero = +ℤ_idr;
  plus-negation = +ℤ_invr;
  times-assoc = mul_assoc;
  times-comm = *ℤ_comm;
  times-one = *ℤ-one;
  times-plus = mul-add;
  less-irreflexive = λ a h. <ℤ_irrefl h;
  less-trans = λ a b c h k. lt_of a c (omega (arith, of_lt h, of_lt k));
  less-compare = compare;
  less-plus = λ a b c h. lt_of _ _ (omega (arith, of_lt h, parts_add a c, parts_add b c));
  less-times = product;
  zero-less-one = record { lt = tt };
}
