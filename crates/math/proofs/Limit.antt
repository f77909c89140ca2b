-- Laws of limiting (clamping), of ranges and of signs. Assumes nothing.
use Prim.Native.Nat.{ℕ, zero, suc, zero-le, suc-le-suc}
use mathlib.Core.Bool.{Bool, true, false, not, cond, ◌&&◌}
use mathlib.Core.List.{List, [], ◌∷◌}
use mathlib.Core.Path.{◌≡◌, refl, sym, ap, ◌∙◌, subst}
use native.Mathlib.Omega.{arith}
use borrow.Author.Tests.{lt-ltb, le-ltb}
use lib.Dec.{T}
use lib.IntN.{ℤ, pos, negsuc, neg_ℤ, ◌-ℤ◌, ◌*ℤ◌, +ℤ_idl, zero-*ℤ}
use lib.ListN.{set}
use lib.Signed.{lt_z, ◌≤ℤ◌, ≤ℤ_refl}
use Rattle.std.proofs.Common.{Less, Equal, Greater}
use Rattle.std.specs.Ordering.{is_le, int_cmp}
use Rattle.std.specs.Int.{int_min, int_max, int_signum}
use Rattle.math.proofs.Bound.{abs-parts, abs-le, within-literal, within-cond}
use Rattle.math.proofs.Compare.{tests}
use Rattle.math.proofs.Difference.{le_of, of_le}
use Rattle.math.proofs.Test.{refuted}
use Rattle.math.proofs.Solve.{solve-by, constant, ◌:*◌, ◌:-◌, X0}
use Rattle.math.specs.Bound.{Within, AllWithin, Between, AllBetween, at}
use Rattle.math.specs.Limit.{limited, in_range, sign_of}

pub range-between : (low high z : ℤ) → in_range low high z ≡ true → Between low high z
range-between low high z e = go (lt_z z low) refl (lt_z high z) refl e
  where
    go : (a : Bool) → lt_z z low ≡ a → (b : Bool) → lt_z high z ≡ b → cond a false (cond b false true) ≡ true → Between low high z
    go true p b q t = absurd (subst T (sym t) tt)
    go false p true q t = absurd (subst T (sym t) tt)
    go false p false q t = record { lower = le_of low z (omega (arith, tests)); upper = le_of z high (omega (arith, tests)) }

pub between-range : {low high z : ℤ} → Between low high z → in_range low high z ≡ true
between-range {low} {high} {z} b = go (lt_z z low) refl (lt_z high z) refl
  where
    go : (s : Bool) → lt_z z low ≡ s → (t : Bool) → lt_z high z ≡ t → cond s false (cond t false true) ≡ true
    go true p t q = absurd (omega (arith, tests, of_le b.lower))
    go false p true q = absurd (omega (arith, tests, of_le b.upper))
    go false p false q = refl

pub sign-within : (z : ℤ) → Within 1 (sign_of z)
sign-within z = within-cond (lt_z z (pos 0)) (within-literal tt) (within-cond (lt_z (pos 0) z) (within-literal tt) (within-literal tt))

pub sign-negated : (z : ℤ) → sign_of (neg_ℤ z) ≡ neg_ℤ (sign_of z)
sign-negated (pos zero) = refl
sign-negated (pos (suc n)) = rw (le-ltb (suc n) 0 zero-le, lt-ltb 0 (suc n) (suc-le-suc zero-le))
sign-negated (negsuc n) = rw (le-ltb (suc n) 0 zero-le, lt-ltb 0 (suc n) (suc-le-suc zero-le))

-- a number that is given the sign of another: minus the number, itself, or 0
pub signed_below : (z x : ℤ) → lt_z z (pos 0) ≡ true → pos 0 -ℤ x ≡ sign_of z *ℤ x
signed_below z x e = rw e (solve-by (x ∷ []) (constant (pos 0) :- X0) (constant (negsuc 0) :* X0) refl)

pub signed_above : (z x : ℤ) → lt_z z (pos 0) ≡ false → lt_z (pos 0) z ≡ true → x ≡ sign_of z *ℤ x
signed_above z x e g = rw (e, g) (solve-by (x ∷ []) X0 (constant (pos 1) :* X0) refl)

pub signed-none : (z x : ℤ) → lt_z z (pos 0) ≡ false → lt_z (pos 0) z ≡ false → pos 0 ≡ sign_of z *ℤ x
signed-none z x e g = rw (e, g) (sym (zero-*ℤ x))

pub signed-positive : (n : ℕ) (x : ℤ) → sign_of (pos (suc n)) *ℤ x ≡ x
signed-positive n x = sym (signed_above (pos (suc n)) x (le-ltb (suc n) 0 zero-le) (lt-ltb 0 (suc n) (suc-le-suc zero-le)))

pub signed-negative : (n x : ℕ) → sign_of (negsuc n) *ℤ pos (suc x) ≡ negsuc x
signed-negative n x = sym (signed_below (negsuc n) (pos (suc x)) refl) ∙ +ℤ_idl (negsuc x)

-- a limited number is in the limits' range
pub limited-between : (low high z : ℤ) → low ≤ℤ high → Between low high (limited low high z)
limited-between low high z o = go (lt_z z low) (lt_z high z) refl refl
  where
    go : (s t : Bool) → lt_z z low ≡ s → lt_z high z ≡ t → Between low high (cond s low (cond t high z))
    go true t p q = record { lower = ≤ℤ_refl low; upper = o }
    go false true p q = record { lower = o; upper = ≤ℤ_refl high }
    go false false p q = record { lower = le_of _ _ (omega (arith, tests)); upper = le_of _ _ (omega (arith, tests)) }

-- a number in a range obeys any bound that both ends of the range obey
pub between-within : {b : ℕ} {low high z : ℤ} → Between low high z → Within b low → Within b high → Within b z
between-within {b} {low} {high} {z} r l h = record {
  within = abs-le z (omega (arith, of_le r.lower, of_le r.upper, l.within, h.within, abs-parts low, abs-parts high)) (omega (arith, of_le r.lower, of_le r.upper, l.within, h.within, abs-parts low, abs-parts high));
}

pub all-between-within : {b : ℕ} {low high : ℤ} {l : List ℤ} → AllBetween low high l → Within b low → Within b high → AllWithin b l
all-between-within r l h = record { all = λ k. between-within (r.all k) l h }

-- storing a number in range keeps a list in range
pub set-between : {low high : ℤ} {l : List ℤ} {z : ℤ} (i : ℕ) → AllBetween low high l → Between low high z → AllBetween low high (set l i z)
set-between {low} {high} {l} {z} i r b = record { all = go l i r.all }
  where
    go : (l : List ℤ) (i : ℕ) → ((k : ℕ) → Between low high (at l k)) → (k : ℕ) → Between low high (at (set l i z) k)
    go [] i r k = r k
    go (x ∷ l) zero r zero = b
    go (x ∷ l) zero r (suc k) = r (suc k)
    go (x ∷ l) (suc i) r zero = r zero
    go (x ∷ l) (suc i) r (suc k) = go l i (λ j. r (suc j)) k

-- the library's `clamp` is limiting
pub clamp-limited : (low high z : ℤ) → low ≤ℤ high → int_max low (int_min z high) ≡ limited low high z
clamp-limited low high z o = go (lt_z high z) refl
  where
    go : (t : Bool) → lt_z high z ≡ t → cond (lt_z (cond t high z) low) low (cond t high z) ≡ cond (lt_z z low) low (cond t high z)
    go true e = rw (refuted {b = lt_z high low} (λ p. omega (arith, tests, of_le o)), refuted {b = lt_z z low} (λ p. omega (arith, tests, of_le o)))
    go false e = refl

-- and its `signum` is the sign
pub signum-is : (z : ℤ) → int_signum z ≡ sign_of z
signum-is (pos zero) = refl
signum-is (pos (suc n)) = rw (le-ltb (suc n) 0 zero-le, lt-ltb 0 (suc n) (suc-le-suc zero-le)) (ap pos (omega arith))
signum-is (negsuc n) = refl

-- the library's `contains` of a range low..=high is the range's test
pub contains-is : (low high z : ℤ) → is_le (int_cmp low z) && is_le (int_cmp z high) ≡ in_range low high z
contains-is low high z = rw (is_le-compared low z, is_le-compared z high) (both (lt_z z low) (lt_z high z))
  where
    compared : (x y : ℤ) (s : Bool) → lt_z x y ≡ s → (t : Bool) → lt_z y x ≡ t → is_le (cond s Less (cond t Greater Equal)) ≡ not t
    compared x y true p true q = absurd (omega (arith, tests))
    compared x y true p false q = refl
    compared x y false p true q = refl
    compared x y false p false q = refl

    is_le-compared : (x y : ℤ) → is_le (int_cmp x y) ≡ not (lt_z y x)
    is_le-compared x y = compared x y _ refl _ refl

    both : (s t : Bool) → not s && not t ≡ cond s false (cond t false true)
    both true t = refl
    both false true = refl
    both false false = refl
