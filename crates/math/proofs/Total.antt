-- The sum of a list's first elements, as a loop adds them up, and bounds on a sum. Assumes nothing.
use mathlib.Core.Path.{◌≡◌, refl, sym, ap, ◌∙◌}
use mathlib.Core.List.{List, [], ◌∷◌, ◌++◌}
use Prim.Native.Nat.{ℕ, zero, suc, ◌+◌, ◌*◌, ◌<◌, ◌≤◌}
use native.Mathlib.Numerals.{add-one}
use native.Mathlib.Omega.{arith}
use lib.ListN.{length, get_or, take}
use Rattle.std.specs.Prelude.{fold, sum}
use Rattle.math.specs.Tab.{tab}
use Rattle.math.proofs.Tab.{tab-more}
use Rattle.math.specs.Total.{total}

pub total-none : (l : List ℕ) → total (take 0 l) ≡ 0
unfolding total
total-none l = refl

pub total-more : (l : List ℕ) (k : ℕ) → k < length l → total (take (suc k) l) ≡ total (take k l) + get_or l k 0
unfolding total
total-more [] k h = absurd (omega arith)
total-more (first ∷ rest) zero h = omega arith
total-more (first ∷ rest) (suc k) h = omega (arith, total-more rest k (omega arith))

pub total-append : (first rest : List ℕ) → total (first ++ rest) ≡ total first + total rest
unfolding total
total-append [] rest = omega arith
total-append (n ∷ first) rest = omega (arith, total-append first rest)

-- ---- the sum of f 0, f 1, .., f (n - 1)
pub total-tab-none : (f : ℕ → ℕ) → total (tab 0 f) ≡ 0
unfolding total tab
total-tab-none f = refl

pub total-tab-more : (n : ℕ) (f : ℕ → ℕ) → total (tab (n + 1) f) ≡ total (tab n f) + f n
unfolding total
total-tab-more n f = ap total (tab-more n f) ∙ total-append (tab n f) (f n ∷ []) ∙ last
  where
    last : total (tab n f) + (f n + 0) ≡ total (tab n f) + f n
    last = omega arith

pub total-tab-most : (n b : ℕ) (f : ℕ → ℕ) → ((k : ℕ) → k < n → f k ≤ b) → total (tab n f) ≤ b * n
total-tab-most zero b f h = omega (arith, total-tab-none f)
total-tab-most (suc n) b f h = rw (← add-one) (omega (arith, total-tab-more n f, total-tab-most n b f (λ k low. h k (omega arith)), h n (omega arith)))

-- the library's sum, which adds from the front, is the total
sum-on : (l : List ℕ) (a : ℕ) → fold (λ (sum x : ℕ). sum + x) a l ≡ a + total l
unfolding total
sum-on [] a = omega arith
sum-on (first ∷ rest) a = sum-on rest (a + first) ∙ omega arith

pub total-is-sum : (l : List ℕ) → total l ≡ sum l
total-is-sum l = sym (sum-on l 0 ∙ omega arith)
