-- Laws of sums over the indices below a bound. Assumes nothing.
use mathlib.Core.Path.{◌≡◌, refl, sym, ap, ◌∙◌}
use Prim.Native.Nat.{ℕ, zero, suc, ◌+◌, ◌*◌, ◌<◌, zero-le}
use native.Mathlib.Nat.{le-suc, le_refl, le_trans}
use native.Mathlib.Omega.{arith}
use native.Mathlib.Numerals.{add-one}
use lib.IntN.{ℤ, pos, ◌+ℤ◌, ◌*ℤ◌, zero-*ℤ, *ℤ-zero, +ℤ_idl, +ℤ_idr}
use Rattle.math.specs.Bound.{Within}
use Rattle.math.specs.Sum.{sum_to}
use Rattle.math.proofs.Difference.{subs, as-sub}
use Rattle.math.proofs.Ring.{mul-add, add-mul, ring}
use Rattle.math.proofs.Bound.{within-add, within_more}

pub sum-none : (f : ℕ → ℤ) → sum_to f 0 ≡ pos 0
unfolding sum_to
sum-none f = refl

-- one more summand, as in a loop's step
pub sum_more : (f : ℕ → ℤ) (n : ℕ) → sum_to f (n + 1) ≡ sum_to f n +ℤ f n
unfolding sum_to
sum_more f n = ap (sum_to f) (add-one n)

pub sum-ext : (f g : ℕ → ℤ) (n : ℕ) → ((k : ℕ) → k < n → f k ≡ g k) → sum_to f n ≡ sum_to g n
unfolding sum_to
sum-ext f g zero h = refl
sum-ext f g (suc n) h = λ i. sum-ext f g n (λ k p. h k (le_trans p (le-suc n))) i +ℤ h n (le_refl (suc n)) i

pub sum-mul : (c : ℤ) (f : ℕ → ℤ) (n : ℕ) → c *ℤ sum_to f n ≡ sum_to (λ k. c *ℤ f k) n
unfolding sum_to
sum-mul c f zero = *ℤ-zero c
sum-mul c f (suc n) = mul-add c (sum_to f n) (f n) ∙ ap (λ (s : ℤ). s +ℤ c *ℤ f n) (sum-mul c f n)

pub mul-sum : (f : ℕ → ℤ) (c : ℤ) (n : ℕ) → sum_to f n *ℤ c ≡ sum_to (λ k. f k *ℤ c) n
unfolding sum_to
mul-sum f c zero = zero-*ℤ c
mul-sum f c (suc n) = add-mul (sum_to f n) (f n) c ∙ ap (λ (s : ℤ). s +ℤ f n *ℤ c) (mul-sum f c n)

pub sum-add : (f g : ℕ → ℤ) (n : ℕ) → sum_to (λ k. f k +ℤ g k) n ≡ sum_to f n +ℤ sum_to g n
unfolding sum_to
sum-add f g zero = refl
sum-add f g (suc n) = ap (λ (s : ℤ). s +ℤ (f n +ℤ g n)) (sum-add f g n) ∙ swap (sum_to f n) (sum_to g n) (f n) (g n)
  where
    swap : (a b c d : ℤ) → (a +ℤ b) +ℤ (c +ℤ d) ≡ (a +ℤ c) +ℤ (b +ℤ d)
    swap a b c d = simp ring

pub sum-zero : (n : ℕ) → sum_to (λ k. pos 0) n ≡ pos 0
unfolding sum_to
sum-zero zero = refl
sum-zero (suc n) = ap (λ (s : ℤ). s +ℤ pos 0) (sum-zero n)

-- a sum of which only the first number may be other than 0
pub sum_first : (f : ℕ → ℤ) (n : ℕ) → ((k : ℕ) → k < n → f (suc k) ≡ pos 0) → sum_to f (suc n) ≡ f 0
unfolding sum_to
sum_first f zero h = +ℤ_idl (f 0)
sum_first f (suc n) h = (λ i. sum_first f n (λ k p. h k (le_trans p (le-suc n))) i +ℤ h n (le_refl (suc n)) i) ∙ +ℤ_idr (f 0)

pub sum-swap : (f : ℕ → ℕ → ℤ) (n m : ℕ) → sum_to (λ j. sum_to (λ k. f j k) m) n ≡ sum_to (λ k. sum_to (λ j. f j k) n) m
unfolding sum_to
sum-swap f zero m = sym (sum-zero m)
sum-swap f (suc n) m = ap (λ (s : ℤ). s +ℤ sum_to (λ k. f n k) m) (sum-swap f n m) ∙ sym (sum-add (λ k. sum_to (λ j. f j k) n) (λ k. f n k) m)

pub within-sum : (f : ℕ → ℤ) (b n : ℕ) → ((k : ℕ) → k < n → Within b (f k)) → Within (n * b) (sum_to f n)
unfolding sum_to
within-sum f b zero h = record { within = zero-le }
within-sum f b (suc n) h = within_more (within-add (within-sum f b n (λ k p. h k (le_trans p (le-suc n)))) (h n (le_refl (suc n)))) (omega arith)

-- a double sum with two factors, as a pass over the rows and one over the columns compute it
pub separable : (h w : ℕ → ℤ) (c : ℕ → ℕ → ℤ) (n m : ℕ)
    → sum_to (λ v. w v *ℤ sum_to (λ u. h u *ℤ c v u) m) n ≡ sum_to (λ v. sum_to (λ u. (h u *ℤ w v) *ℤ c v u) m) n
separable h w c n m = sum-ext _ _ n (λ v p. sum-mul (w v) (λ u. h u *ℤ c v u) m ∙ sum-ext _ _ m (λ u q. order (w v) (h u) (c v u)))
  where
    order : (a b c : ℤ) → a *ℤ (b *ℤ c) ≡ (b *ℤ a) *ℤ c
    order a b c = rw (as-sub a, as-sub b, as-sub c) (simp subs (omega arith))
