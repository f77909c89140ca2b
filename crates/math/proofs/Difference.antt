-- An integer as a difference of two naturals, p ⊖ n, so that `omega` can reason about it. Assumes nothing.
-- Sums, differences and products of such differences are again differences; comparing two of them is comparing naturals.
use mathlib.Core.Path.{◌≡◌, refl, ap, ◌∙◌}
use mathlib.Core.Logic.{◌↔◌}
use Prim.Native.Nat.{ℕ, zero, suc, ◌+◌, ◌-◌, ◌*◌, ◌≤◌, ◌<◌}
use native.Mathlib.Omega.{arith}
use borrow.Author.Tests.{ltb-true, ltb-false}
use lib.Dec.{ltb, ltb→lt, leb→le, le→leb, lt→ltb}
use lib.IntN.{ℤ, pos, negsuc, neg_ℤ, sub_ℕ, ◌+ℤ◌, ◌*ℤ◌}
use lib.Signed.{◌≤ℤ◌, ◌<ℤ◌}
use Rattle.math.proofs.Test.{by-test}

-- the positive and the negative part: z is up z − dn z, and one of the two is 0
abbrev pub up : ℤ → ℕ
up (pos n) = n
up (negsuc n) = zero

abbrev pub dn : ℤ → ℕ
dn (pos n) = zero
dn (negsuc n) = suc n

-- p − n; opaque, so that rewriting can match it
infixl 6 ◌⊖◌
unfoldable pub ◌⊖◌ : ℕ → ℕ → ℤ
p ⊖ n = sub_ℕ p n

pub up-sub : (p n : ℕ) → up (p ⊖ n) + n ≡ p + dn (p ⊖ n)
unfolding ◌⊖◌
up-sub p n = by-test (λ z. up z + n ≡ p + dn z) (ltb p n) (negsuc (n - suc p)) (pos (p - n))
    (λ t. lo p n (ltb-true p n t)) (λ t. hi p n (ltb-false p n t))
  where
    lo : (p n : ℕ) → p < n → zero + n ≡ p + suc (n - suc p)
    lo p n h = omega arith

    hi : (p n : ℕ) → n ≤ p → (p - n) + n ≡ p + zero
    hi p n h = omega arith

pub same_of : (x y : ℤ) → up x + dn y ≡ up y + dn x → x ≡ y
same_of (pos a) (pos b) h = ap pos (omega arith)
same_of (pos a) (negsuc b) h = absurd (omega arith)
same_of (negsuc a) (pos b) h = absurd (omega arith)
same_of (negsuc a) (negsuc b) h = ap negsuc (omega arith)

pub le_of : (x y : ℤ) → up x + dn y ≤ up y + dn x → x ≤ℤ y
le_of (pos a) (pos b) h = record { le = le→leb a b (omega arith) }
le_of (pos a) (negsuc b) h = absurd (omega arith)
le_of (negsuc a) (pos b) h = record { le = tt }
le_of (negsuc a) (negsuc b) h = record { le = le→leb b a (omega arith) }

pub of_le : {x y : ℤ} → x ≤ℤ y → up x + dn y ≤ up y + dn x
of_le {x = pos a} {y = pos b} h = let k = leb→le a b h.le in omega arith
of_le {x = pos a} {y = negsuc b} h = absurd h.le
of_le {x = negsuc a} {y = pos b} h = omega arith
of_le {x = negsuc a} {y = negsuc b} h = let k = leb→le b a h.le in omega arith

pub lt_of : (x y : ℤ) → up x + dn y < up y + dn x → x <ℤ y
lt_of (pos a) (pos b) h = record { lt = lt→ltb a b (omega arith) }
lt_of (pos a) (negsuc b) h = absurd (omega arith)
lt_of (negsuc a) (pos b) h = record { lt = tt }
lt_of (negsuc a) (negsuc b) h = record { lt = lt→ltb b a (omega arith) }

pub of_lt : {x y : ℤ} → x <ℤ y → up x + dn y < up y + dn x
of_lt {x = pos a} {y = pos b} h = let k = ltb→lt a b h.lt in omega arith
of_lt {x = pos a} {y = negsuc b} h = absurd h.lt
of_lt {x = negsuc a} {y = pos b} h = omega arith
of_lt {x = negsuc a} {y = negsuc b} h = let k = ltb→lt b a h.lt in omega arith

-- ---- the parts of a sum, a negation and a product
pub parts-neg : (x : ℤ) → (up (neg_ℤ x) ≡ dn x) × (dn (neg_ℤ x) ≡ up x)
parts-neg (pos zero) = (refl, refl)
parts-neg (pos (suc n)) = (refl, refl)
parts-neg (negsuc n) = (refl, refl)

pub parts_add : (x y : ℤ) → up (x +ℤ y) + (dn x + dn y) ≡ up x + up y + dn (x +ℤ y)
unfolding ◌⊖◌
parts_add (pos a) (pos b) = omega arith
parts_add (pos a) (negsuc b) = omega (arith, up-sub a (suc b))
parts_add (negsuc a) (pos b) = omega (arith, up-sub b (suc a))
parts_add (negsuc a) (negsuc b) = omega arith

neg-up : (n : ℕ) → (up (neg_ℤ (pos n)) ≡ zero) × (dn (neg_ℤ (pos n)) ≡ n)
neg-up zero = (refl, refl)
neg-up (suc n) = (refl, refl)

pub parts-mul : (x y : ℤ) → (up (x *ℤ y) ≡ up x * up y + dn x * dn y) × (dn (x *ℤ y) ≡ up x * dn y + dn x * up y)
parts-mul (pos a) (pos b) = omega arith
parts-mul (pos a) (negsuc b) = omega (arith, neg-up (a * suc b))
parts-mul (negsuc a) (pos b) = omega (arith, neg-up (suc a * b))
parts-mul (negsuc a) (negsuc b) = omega arith

-- ---- the rules: every integer is a difference, and each operation acts on differences
pub as-sub : (x : ℤ) → x ≡ up x ⊖ dn x
as-sub x = same_of x (up x ⊖ dn x) (omega (arith, up-sub (up x) (dn x)))

pub pos-sub : (n : ℕ) → pos n ≡ n ⊖ 0
pos-sub n = same_of (pos n) (n ⊖ 0) (omega (arith, up-sub n 0))

pub negsuc-sub : (n : ℕ) → negsuc n ≡ 0 ⊖ suc n
negsuc-sub n = same_of (negsuc n) (0 ⊖ suc n) (omega (arith, up-sub 0 (suc n)))

pub add-sub : (p n q m : ℕ) → (p ⊖ n) +ℤ (q ⊖ m) ≡ (p + q) ⊖ (n + m)
add-sub p n q m = same_of ((p ⊖ n) +ℤ (q ⊖ m)) ((p + q) ⊖ (n + m))
    (omega (arith, up-sub p n, up-sub q m, up-sub (p + q) (n + m), parts_add (p ⊖ n) (q ⊖ m)))

pub neg-sub : (p n : ℕ) → neg_ℤ (p ⊖ n) ≡ n ⊖ p
neg-sub p n = same_of (neg_ℤ (p ⊖ n)) (n ⊖ p) (omega (arith, up-sub p n, up-sub n p, parts-neg (p ⊖ n)))

-- (u − d)(v − e), from u + n = p + d and v + m = q + e
cross : (u d p n v e q m : ℕ) → u + n ≡ p + d → v + m ≡ q + e
    → (u * v + d * e) + (p * m + n * q) ≡ (p * q + n * m) + (u * e + d * v)
cross u d p n v e q m h k = omega (arith, ap (λ (t : ℕ). t * v) h, ap (λ (t : ℕ). t * e) h, ap (λ (t : ℕ). t * p) k, ap (λ (t : ℕ). t * n) k)

pub mul-sub : (p n q m : ℕ) → (p ⊖ n) *ℤ (q ⊖ m) ≡ (p * q + n * m) ⊖ (p * m + n * q)
mul-sub p n q m = same_of ((p ⊖ n) *ℤ (q ⊖ m)) ((p * q + n * m) ⊖ (p * m + n * q))
    (omega (
      arith,
      cross (up (p ⊖ n)) (dn (p ⊖ n)) p n (up (q ⊖ m)) (dn (q ⊖ m)) q m (up-sub p n) (up-sub q m),
      up-sub (p * q + n * m) (p * m + n * q),
      parts-mul (p ⊖ n) (q ⊖ m),
    ))

pub le-sub : (p n q m : ℕ) → ((p ⊖ n) ≤ℤ (q ⊖ m)) ↔ (p + m ≤ q + n)
le-sub p n q m = (
  λ h. let k = of_le h in omega (arith, up-sub p n, up-sub q m),
  λ h. le_of (p ⊖ n) (q ⊖ m) (omega (arith, up-sub p n, up-sub q m)),
)

pub lt-sub : (p n q m : ℕ) → ((p ⊖ n) <ℤ (q ⊖ m)) ↔ (p + m < q + n)
lt-sub p n q m = (
  λ h. let k = of_lt h in omega (arith, up-sub p n, up-sub q m),
  λ h. lt_of (p ⊖ n) (q ⊖ m) (omega (arith, up-sub p n, up-sub q m)),
)

pub eq-sub : (p n q m : ℕ) → ((p ⊖ n) ≡ (q ⊖ m)) ↔ (p + m ≡ q + n)
eq-sub p n q m = (
  λ h. omega (arith, up-sub p n, up-sub q m, ap up h, ap dn h),
  λ h. same_of (p ⊖ n) (q ⊖ m) (omega (arith, up-sub p n, up-sub q m)),
)

pub neg-pos : (n : ℕ) → neg_ℤ (pos n) ≡ 0 ⊖ n
neg-pos n = ap neg_ℤ (pos-sub n) ∙ neg-sub n 0

pub ruleset subs = (neg-pos, add-sub, neg-sub, mul-sub, le-sub, lt-sub, eq-sub, pos-sub, negsuc-sub)
