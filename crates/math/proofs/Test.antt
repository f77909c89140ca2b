-- Laws of tests: none both passes and fails, two may both pass, each has two branches; of `all_below`, from one computed test to each number and
-- back; and of `count_below`. Assumes nothing.
use mathlib.Core.Path.{◌≡◌, refl, ap₂, subst, sym, ◌∙◌}
use mathlib.Core.Bool.{Bool, true, false, cond, ◌&&◌}
use Prim.Native.Nat.{ℕ, zero, suc, ◌+◌, ◌<◌, ◌≤◌}
use native.Mathlib.Decide.{ℕ_discrete}
use native.Mathlib.Numerals.{add-one}
use native.Mathlib.Omega.{arith}
use lib.Dec.{T}
use Rattle.math.specs.Test.{all_below, count_below}

pub clash : {A : Type 0} {b : Bool} → b ≡ true → b ≡ false → A
clash {A} {b} p q = absurd (subst T (sym p ∙ q) tt)

pub refuted : {b : Bool} → (b ≡ true → ⊥) → b ≡ false
refuted {b = true} f = absurd (f refl)
refuted {b = false} f = refl

pub both_true : (a b : Bool) → a && b ≡ true → (a ≡ true) × (b ≡ true)
both_true true b e = (refl, e)
both_true false b e = absurd (subst T (sym e) tt)

-- what holds of both branches of a test, each with the test's answer
pub by-test : {A : Type 0} (P : A → Type 0) (t : Bool) (x y : A) → (t ≡ true → P x) → (t ≡ false → P y) → P (cond t x y)
by-test P true x y yes-case no-case = yes-case refl
by-test P false x y yes-case no-case = no-case refl

pub and_left : (a b : Bool) → T (a && b) → T a
and_left true b t = tt
and_left false b t = t

pub and_right : (a b : Bool) → T (a && b) → T b
and_right true b t = t
and_right false b t = absurd t

pub at-below : (n : ℕ) (test : ℕ → Bool) → T (all_below n test) → (k : ℕ) → k < n → T (test k)
unfolding all_below
at-below zero test t k h = absurd (omega arith)
at-below (suc n) test t k h = go (ℕ_discrete k n) (at-below n test (and_right (test n) (all_below n test) t) k)
  where
    go : Dec (k ≡ n) → (k < n → T (test k)) → T (test k)
    go (yes e) r = subst (λ (j : ℕ). T (test j)) (sym e) (and_left (test n) (all_below n test) t)
    go (no e) r = r (omega arith)

pub at-below₂ : (n m : ℕ) (test : ℕ → ℕ → Bool) → T (all_below n (λ j. all_below m (test j))) → (j k : ℕ) → j < n → k < m → T (test j k)
at-below₂ n m test t j k h l = at-below m (test j) (at-below n (λ j. all_below m (test j)) t j h) k l

-- a loop that tests each number: all pass, or one fails
pub all_pass : (n : ℕ) (test : ℕ → Bool) → ((k : ℕ) → k < n → test k ≡ true) → all_below n test ≡ true
unfolding all_below
all_pass zero test h = refl
all_pass (suc n) test h = ap₂ ◌&&◌ (h n (omega arith)) (all_pass n test (λ k b. h k (omega arith)))

-- a loop that accumulates the tests' answers: one more test
pub test-more : (n : ℕ) (test : ℕ → Bool) → test n && all_below n test ≡ all_below (n + 1) test
unfolding all_below
test-more n test = rw add-one

-- what such a loop implies for one number
pub all-passed : (n : ℕ) (test : ℕ → Bool) → all_below n test ≡ true → (k : ℕ) → k < n → test k ≡ true
all-passed n test e k h = truth (test k) (at-below n test (subst T (sym e) tt) k h)
  where
    truth : (b : Bool) → T b → b ≡ true
    truth true t = refl
    truth false t = absurd t

pub one-fails : (n : ℕ) (test : ℕ → Bool) (k : ℕ) → k < n → test k ≡ false → all_below n test ≡ false
one-fails n test k h e = refuted (λ passed. clash (all-passed n test passed k h) e)

-- ---- counting
pub count_none : (test : ℕ → Bool) → count_below 0 test ≡ 0
unfolding count_below
count_none test = refl

pub count-more : (n : ℕ) (test : ℕ → Bool) → count_below (n + 1) test ≡ count_below n test + cond (test n) 1 0
unfolding count_below
count-more n test = let e : n + 1 ≡ suc n = omega arith in rw e (let swapped : cond (test n) 1 0 + count_below n test ≡ count_below n test + cond (test n) 1 0 = omega arith in swapped)

pub count_most : (n : ℕ) (test : ℕ → Bool) → count_below n test ≤ n
unfolding count_below
count_most zero test = omega arith
count_most (suc n) test = go (test n) (count_most n test)
  where
    go : (b : Bool) → count_below n test ≤ n → cond b 1 0 + count_below n test ≤ suc n
    go true h = omega arith
    go false h = omega arith

pub count-ext : (n : ℕ) (test other : ℕ → Bool) → ((k : ℕ) → k < n → test k ≡ other k) → count_below n test ≡ count_below n other
unfolding count_below
count-ext zero test other h = refl
count-ext (suc n) test other h = ap₂ (λ (b : Bool) (m : ℕ). cond b 1 0 + m) (h n (omega arith)) (count-ext n test other (λ k b. h k (omega arith)))
