-- Laws of `tab`, and of a loop that stores its elements one by one. Assumes nothing.
use mathlib.Core.Path.{◌≡◌, refl, ap, ◌∙◌, sym, subst}
use mathlib.Core.List.{List, [], ◌∷◌, ◌++◌}
use Prim.Native.Nat.{ℕ, zero, suc, ◌+◌, ◌≤◌, ◌<◌, zero-le, suc-le-suc}
use native.Mathlib.Decide.{ℕ_discrete}
use native.Mathlib.Numerals.{add-one}
use native.Mathlib.Omega.{arith}
use lib.ListN.{length, get_or, set, length-set}
use lib.Seq.{ext_get_or, get_or-set_same, get_or-set_other}
use Rattle.math.specs.Tab.{tab}

module _ {A : Type 0} where
  pub tab-length : (n : ℕ) (f : ℕ → A) → length (tab n f) ≡ n
  unfolding tab
  tab-length zero f = refl
  tab-length (suc n) f = ap suc (tab-length n (λ k. f (suc k)))

  pub tab-at : (n : ℕ) (f : ℕ → A) (k : ℕ) (d : A) → k < n → get_or (tab n f) k d ≡ f k
  unfolding tab
  tab-at zero f k d h = absurd (omega arith)
  tab-at (suc n) f zero d h = refl
  tab-at (suc n) f (suc k) d h = tab-at n (λ j. f (suc j)) k d (omega arith)

  pub tab-ext : (n : ℕ) (f g : ℕ → A) → ((k : ℕ) → k < n → f k ≡ g k) → tab n f ≡ tab n g
  unfolding tab
  tab-ext zero f g h = refl
  tab-ext (suc n) f g h = λ i. h zero (suc-le-suc zero-le) i ∷ tab-ext n (λ k. f (suc k)) (λ k. g (suc k)) (λ k b. h (suc k) (suc-le-suc b)) i

  -- one more element, at the end
  tab-last : (n : ℕ) (f : ℕ → A) → tab (suc n) f ≡ tab n f ++ (f n ∷ [])
  unfolding tab
  tab-last zero f = refl
  tab-last (suc n) f = ap (λ (l : List A). f zero ∷ l) (tab-last n (λ k. f (suc k)))

  pub tab-more : (n : ℕ) (f : ℕ → A) → tab (n + 1) f ≡ tab n f ++ (f n ∷ [])
  tab-more n f = rw add-one (tab-last n f)

  -- a list is the table of its own elements
  pub tab-self : (n : ℕ) (l : List A) (d : A) → length l ≡ n → tab n (λ k. get_or l k d) ≡ l
  tab-self n l d e = ext_get_or d (tab n (λ k. get_or l k d)) l (tab-length n _ ∙ sym e)
      (λ k b. tab-at n (λ j. get_or l j d) k d (subst (λ (m : ℕ). k < m) (tab-length n _) b))

  -- what a loop that fills a list of n elements has done so far: the first k elements are f's
  pub record Filled (n : ℕ) (f : ℕ → A) (d : A) (k : ℕ) (l : List A) : Type 0 where
    pub long : length l ≡ n
    pub stored : (j : ℕ) → j < k → get_or l j d ≡ f j

  pub filled_none : {n : ℕ} {f : ℕ → A} {d : A} {l : List A} → length l ≡ n → Filled n f d 0 l
  filled_none e = record { long = e; stored = λ j b. absurd (omega arith) }

  -- the same count, written differently
  pub filled-to : {n : ℕ} {f : ℕ → A} {d : A} {l : List A} {k m : ℕ} → Filled n f d k l → k ≡ m → Filled n f d m l
  filled-to {n} {f} {d} {l} p e = subst (λ (k : ℕ). Filled n f d k l) e p

  pub filled_more : {n : ℕ} {f : ℕ → A} {d : A} {k : ℕ} {l : List A} {v : A} → Filled n f d k l → k < n → v ≡ f k → Filled n f d (k + 1) (set l k v)
  filled_more {n} {f} {d} {k} {l} {v} p h e = record {
    long = length-set l k v ∙ p.long;
    stored = λ j b. elim (ℕ_discrete j k) [
      | yes q ↦ rw q (get_or-set_same l k v d (omega (arith, p.long)) ∙ e)
      | no q ↦ get_or-set_other l k j v d q ∙ p.stored j (omega arith)
    ];
  }

  pub filled-all : {n : ℕ} {f : ℕ → A} {d : A} {k : ℕ} {l : List A} → Filled n f d k l → n ≤ k → l ≡ tab n f
  filled-all {n} {f} {d} {k} {l} p h = ext_get_or d l (tab n f) (p.long ∙ sym (tab-length n f))
      (λ j b. p.stored j (omega (arith, p.long)) ∙ sym (tab-at n f j d (omega (arith, p.long))))

  -- one more element stored: what holds of each element stored so far holds of it too
  pub stored_more : (P : ℕ → A → Type 0) (d : A) {v : A} (l : List A) {n : ℕ} → n < length l → ((k : ℕ) → k < n → P k (get_or l k d)) → P n v → (k : ℕ) → k < n + 1 → P k (get_or (set l n v) k d)
  stored_more P d {v} l {n} fit before here k b = elim (ℕ_discrete k n) [
    | yes e ↦ subst (λ (j : ℕ). P j (get_or (set l n v) j d)) (sym e) (subst (P n) (sym (get_or-set_same l n v d fit)) here)
    | no ne ↦ subst (P k) (sym (get_or-set_other l n k v d ne)) (before k (omega arith))
  ]
