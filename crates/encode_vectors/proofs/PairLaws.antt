-- Pairs of code and residual, and differences: each legal pair has one difference, at most 16 f in absolute value, and each such difference one
-- legal pair. Assumes nothing.
use mathlib.Core.Path.{◌≡◌, refl, sym, ap, ◌∙◌, subst}
use mathlib.Core.Bool.{true, false}
use Prim.Native.Nat.{ℕ, zero, suc, ◌+◌, ◌-◌, ◌*◌, ◌/◌, ◌%◌, ◌≤◌, ◌<◌}
use native.Mathlib.Nat.{div-add-mod', div-lt_iff_lt-mul, mod-lt, zero-mod}
use native.Mathlib.Numerals.{add-one}
use native.Mathlib.Omega.{arith}
use borrow.Author.Tests.{eqb-true, ne_eqb, lt-ltb}
use lib.Arith.{digits_div, digits_mod}
use lib.IntN.{ℤ, pos, negsuc, neg_ℤ, nat_abs, ◌*ℤ◌}
use Rattle.math.specs.Bound.{Within, Between}
use Rattle.math.specs.Limit.{eq_z, sign_of}
use Rattle.math.proofs.Difference.{le_of}
use Rattle.math.proofs.Limit.{between-range, signed-none, signed-positive, signed-negative}
use Rattle.decode_vectors.specs.Vector.{vector_difference_of, code_in_range, residual_in_range}
use Rattle.decode_vectors.proofs.VectorLaws.{difference-positive, difference-negative, difference-zero, residual-known}
use Rattle.encode_vectors.specs.Encoding.{motion_code_of, residual_of}

-- ---- code and residual by the difference's sign
less : (n : ℕ) → suc n - 1 ≡ n
less n = omega arith

size : (f n : ℕ) → pos ((suc n - 1) / f + 1) ≡ pos (suc (n / f))
size f n = ap pos (ap (λ (k : ℕ). k / f + 1) (less n) ∙ add-one (n / f))

code-positive : (f n : ℕ) → motion_code_of f (pos (suc n)) ≡ pos (suc (n / f))
unfolding motion_code_of
code-positive f n = signed-positive n (pos ((suc n - 1) / f + 1)) ∙ size f n

code-negative : (f n : ℕ) → motion_code_of f (negsuc n) ≡ negsuc (n / f)
unfolding motion_code_of
code-negative f n = ap (λ (z : ℤ). sign_of (negsuc n) *ℤ z) (size f n) ∙ signed-negative n (n / f)

code-zero : (f : ℕ) → motion_code_of f (pos 0) ≡ pos 0
unfolding motion_code_of
code-zero f = sym (signed-none (pos 0) (pos ((0 - 1) / f + 1)) refl refl)

residual-positive : (f n : ℕ) → residual_of f (pos (suc n)) ≡ n % f
unfolding residual_of
residual-positive f n = ap (λ (k : ℕ). k % f) (less n)

residual-negative : (f n : ℕ) → residual_of f (negsuc n) ≡ n % f
unfolding residual_of
residual-negative f n = ap (λ (k : ℕ). k % f) (less n)

residual-zero : (f : ℕ) → residual_of f (pos 0) ≡ 0
unfolding residual_of
residual-zero f = zero-mod f

-- ---- the pair of a difference has that difference
pub difference-of-pair : (f : ℕ) (difference : ℤ) → vector_difference_of (pos f) (motion_code_of f difference) (pos (residual_of f difference)) ≡ difference
difference-of-pair f (pos zero) = rw (code-zero f) (difference-zero f (residual_of f (pos 0)))
difference-of-pair f (pos (suc n)) = rw (code-positive f n, residual-positive f n) (difference-positive f (n / f) (n % f) ∙ ap (λ (k : ℕ). pos (suc k)) (div-add-mod' n f))
difference-of-pair f (negsuc n) = rw (code-negative f n, residual-negative f n) (difference-negative f (n / f) (n % f) ∙ ap negsuc (div-add-mod' n f))

-- ---- the difference of a legal pair has that pair
pub record PairIs (f : ℕ) (difference code : ℤ) (residual : ℕ) : Type 0 where
  pub code_is : motion_code_of f difference ≡ code
  pub residual-is : residual_of f difference ≡ residual

pub pair-of-difference : (f : ℕ) (code : ℤ) (residual : ℕ) → 1 ≤ f → residual_in_range f code residual ≡ true
    → PairIs f (vector_difference_of (pos f) code (pos residual)) code residual
unfolding residual_in_range
pair-of-difference f (pos zero) residual h e = rw (difference-zero f residual) (record { code_is = code-zero f; residual-is = residual-zero f ∙ sym (eqb-true residual 0 e) })
pair-of-difference f (pos (suc n)) residual h e = let below = residual-known f (pos (suc n)) residual h e in rw (difference-positive f n residual) (record {
  code_is = code-positive f (n * f + residual) ∙ ap (λ (k : ℕ). pos (suc k)) (digits_div n below);
  residual-is = residual-positive f (n * f + residual) ∙ digits_mod n below;
})
pair-of-difference f (negsuc n) residual h e = let below = residual-known f (negsuc n) residual h e in rw (difference-negative f n residual) (record {
  code_is = code-negative f (n * f + residual) ∙ ap negsuc (digits_div n below);
  residual-is = residual-negative f (n * f + residual) ∙ digits_mod n below;
})

-- ---- a difference of at most 16 f has a legal pair
few : (f n : ℕ) → 1 ≤ f → n < 16 * f → n / f < 16
few f n h k = (div-lt_iff_lt-mul h).1 k

pub code-legal : (f : ℕ) (difference : ℤ) → 1 ≤ f → Within (16 * f) difference → code_in_range (motion_code_of f difference) ≡ true
unfolding code_in_range
code-legal f difference h p = between-range (go difference p.within)
  where
    go : (difference : ℤ) → nat_abs difference ≤ 16 * f → Between (neg_ℤ (pos 16)) (pos 16) (motion_code_of f difference)
    go (pos zero) k = rw (code-zero f) (record { lower = le_of _ _ (omega arith); upper = le_of _ _ (omega arith) })
    go (pos (suc n)) k = rw (code-positive f n) (record { lower = le_of _ _ (omega arith); upper = le_of (pos (suc (n / f))) (pos 16) (omega (arith, few f n h k)) })
    go (negsuc n) k = rw (code-negative f n) (record { lower = le_of (negsuc 15) (negsuc (n / f)) (omega (arith, few f n h k)); upper = le_of (negsuc (n / f)) (pos 16) (omega arith) })

residual-below : (f : ℕ) (difference : ℤ) → 1 ≤ f → residual_of f difference < f
unfolding residual_of
residual-below f difference h = mod-lt (nat_abs difference - 1) h

pub residual-legal : (f : ℕ) (difference : ℤ) → 1 ≤ f → residual_in_range f (motion_code_of f difference) (residual_of f difference) ≡ true
unfolding residual_in_range
residual-legal f (pos zero) h = rw (code-zero f, residual-zero f) refl
residual-legal f (pos (suc n)) h = rw (code-positive f n, ne_eqb (suc (n / f)) 0 (λ e. omega arith)) (lt-ltb (residual_of f (pos (suc n))) f (residual-below f (pos (suc n)) h))
residual-legal f (negsuc n) h = rw (code-negative f n) (lt-ltb (residual_of f (negsuc n)) f (residual-below f (negsuc n) h))

-- ---- the pairs of 16f and -16f
fifteen : (f : ℕ) → 1 ≤ f → suc (15 * f + (f - 1)) ≡ 16 * f
fifteen f h = omega arith

last-legal : (f : ℕ) (code : ℤ) → 1 ≤ f → eq_z code (pos 0) ≡ false → residual_in_range f code (f - 1) ≡ true
unfolding residual_in_range
last-legal f code h e = rw e (lt-ltb (f - 1) f (omega arith))

pub pair-16f : (f : ℕ) → 1 ≤ f → PairIs f (pos (16 * f)) (pos 16) (f - 1)
pair-16f f h = subst (λ (z : ℤ). PairIs f z (pos 16) (f - 1)) (difference-positive f 15 (f - 1) ∙ ap pos (fifteen f h))
    (pair-of-difference f (pos 16) (f - 1) h (last-legal f (pos 16) h refl))

pub pair-minus-16f : (f : ℕ) → 1 ≤ f → PairIs f (neg_ℤ (pos (16 * f))) (negsuc 15) (f - 1)
pair-minus-16f f h = subst (λ (z : ℤ). PairIs f z (negsuc 15) (f - 1)) (difference-negative f 15 (f - 1) ∙ ap (λ (n : ℕ). neg_ℤ (pos n)) (fifteen f h))
    (pair-of-difference f (negsuc 15) (f - 1) h (last-legal f (negsuc 15) h refl))
