-- Laws of a linearly ordered commutative ring: of its natural numbers, of its order, and of squares. Assumes nothing.
use Prim.Native.Nat.{ℕ, zero, suc, ◌+◌, ◌*◌, ◌≤◌, ◌<◌}
use mathlib.Core.Logic.{◌⊎◌, inl, inr}
use mathlib.Core.Path.{◌≡◌, sym, ap, ◌∙◌, subst}
use native.Mathlib.Decide.{ℕ_discrete}
use native.Mathlib.Nat.{mul-zero, mul-suc, add-zero, add-suc}
use native.Mathlib.Omega.{arith}
use Rattle.theorems_accuracy.specs.OrderedRing.{OrderedRing, AtMost, whole}

module _ (S : OrderedRing) where
  infixl 6 ◌⊕◌
  infixl 7 ◌⊗◌
  infix 4 ◌≺◌
  open S use {Element, plus as ◌⊕◌, times as ◌⊗◌, Less as ◌≺◌}

  -- ---- the ring
  pub zero-plus : (a : Element) → S.zero ⊕ a ≡ a
  zero-plus a = S.plus_comm S.zero a ∙ S.plus-zero a

  plus-cancel : (a b : Element) → (a ⊕ b) ⊕ S.negation b ≡ a
  plus-cancel a b = S.plus_assoc a b (S.negation b) ∙ ap (λ (z : Element). a ⊕ z) (S.plus-negation b) ∙ S.plus-zero a

  negation-plus : (a b : Element) → (a ⊕ S.negation b) ⊕ b ≡ a
  negation-plus a b = S.plus_assoc a (S.negation b) b ∙ ap (λ (z : Element). a ⊕ z) (S.plus_comm (S.negation b) b ∙ S.plus-negation b) ∙ S.plus-zero a

  -- a ⊗ 0 is added to itself with no change
  pub times_zero : (a : Element) → a ⊗ S.zero ≡ S.zero
  times_zero a = sym (plus-cancel z z) ∙ ap (λ (y : Element). y ⊕ S.negation z) (sym (S.times-plus a S.zero S.zero) ∙ ap (λ (y : Element). a ⊗ y) (S.plus-zero S.zero)) ∙ S.plus-negation z
    where
      z : Element
      z = a ⊗ S.zero

  pub square-times : (a b : Element) → (a ⊗ b) ⊗ (a ⊗ b) ≡ (a ⊗ a) ⊗ (b ⊗ b)
  square-times a b =
      S.times-assoc a b (a ⊗ b) ∙ ap (λ (z : Element). a ⊗ z) (sym (S.times-assoc b a b) ∙ ap (λ (z : Element). z ⊗ b) (S.times-comm b a) ∙ S.times-assoc a b b)
      ∙ sym (S.times-assoc a a (b ⊗ b))

  -- ---- the order
  pub less-at-most : (a b c : Element) → a ≺ b → AtMost S b c → a ≺ c
  less-at-most a b c h (inl k) = S.less-trans a b c h k
  less-at-most a b c h (inr e) = subst (λ (z : Element). a ≺ z) e h

  pub at-most-trans : (a b c : Element) → AtMost S a b → AtMost S b c → AtMost S a c
  at-most-trans a b c (inl h) k = inl (less-at-most a b c h k)
  at-most-trans a b c (inr e) k = subst (λ (z : Element). AtMost S z c) (sym e) k

  -- not less is at most the other way round
  pub not-less : (a b : Element) → (a ≺ b → ⊥) → AtMost S b a
  not-less a b n = go (S.less-compare a b)
    where
      go : (a ≺ b) ⊎ ((a ≡ b) ⊎ (b ≺ a)) → AtMost S b a
      go (inl h) = absurd (n h)
      go (inr (inl e)) = inr (sym e)
      go (inr (inr h)) = inl h

  plus-at-most : (a b c : Element) → AtMost S a b → AtMost S (a ⊕ c) (b ⊕ c)
  plus-at-most a b c (inl h) = inl (S.less-plus a b c h)
  plus-at-most a b c (inr e) = inr (ap (λ (z : Element). z ⊕ c) e)

  pub at-most-plus : (a b c : Element) → AtMost S a b → AtMost S (c ⊕ a) (c ⊕ b)
  at-most-plus a b c h = subst (λ (z : Element). AtMost S z (c ⊕ b)) (S.plus_comm a c) (subst (λ (z : Element). AtMost S (a ⊕ c) z) (S.plus_comm b c) (plus-at-most a b c h))

  -- a positive factor keeps the order: the difference, times the factor, is positive
  times-less : (a b c : Element) → S.zero ≺ a → b ≺ c → (a ⊗ b) ≺ (a ⊗ c)
  times-less a b c h k =
      subst (λ (z : Element). z ≺ (a ⊗ c)) (zero-plus (a ⊗ b))
      (subst (λ (z : Element). (S.zero ⊕ (a ⊗ b)) ≺ z) (sym (S.times-plus a (c ⊕ S.negation b) b) ∙ ap (λ (z : Element). a ⊗ z) (negation-plus c b))
      (S.less-plus S.zero (a ⊗ (c ⊕ S.negation b)) (a ⊗ b) (S.less-times a (c ⊕ S.negation b) h
      (subst (λ (z : Element). z ≺ (c ⊕ S.negation b)) (S.plus-negation b) (S.less-plus b c (S.negation b) k)))))

  pub times-at-most : (a b c : Element) → S.zero ≺ a → AtMost S b c → AtMost S (a ⊗ b) (a ⊗ c)
  times-at-most a b c h (inl k) = inl (times-less a b c h k)
  times-at-most a b c h (inr e) = inr (ap (λ (z : Element). a ⊗ z) e)

  -- a positive factor cancels
  pub times-cancel : (a b c : Element) → S.zero ≺ a → AtMost S (a ⊗ b) (a ⊗ c) → AtMost S b c
  times-cancel a b c h k = not-less c b (λ l. S.less-irreflexive (a ⊗ c) (less-at-most (a ⊗ c) (a ⊗ b) (a ⊗ c) (times-less a c b h l) k))

  pub square-less : (a b : Element) → S.zero ≺ a → a ≺ b → (a ⊗ a) ≺ (b ⊗ b)
  square-less a b h k =
      S.less-trans (a ⊗ a) (a ⊗ b) (b ⊗ b) (times-less a a b h k)
      (subst (λ (z : Element). z ≺ (b ⊗ b)) (S.times-comm b a) (times-less b a b (S.less-trans S.zero a b h k) k))

  -- ---- natural numbers
  pub whole-plus : (m n : ℕ) → whole S (m + n) ≡ whole S m ⊕ whole S n
  unfolding whole
  whole-plus m zero = ap (whole S) (add-zero m) ∙ sym (S.plus-zero (whole S m))
  whole-plus m (suc n) = ap (whole S) (add-suc m n) ∙ ap (λ (z : Element). z ⊕ S.one) (whole-plus m n) ∙ S.plus_assoc (whole S m) (whole S n) S.one

  pub whole-times : (m n : ℕ) → whole S (m * n) ≡ whole S m ⊗ whole S n
  unfolding whole
  whole-times m zero = ap (whole S) (mul-zero m) ∙ sym (times_zero (whole S m))
  whole-times m (suc n) =
      ap (whole S) (mul-suc m n) ∙ whole-plus (m * n) m ∙ (λ i. whole-times m n i ⊕ sym (S.times-one (whole S m)) i) ∙ sym (S.times-plus (whole S m) (whole S n) S.one)

  whole-next : (n : ℕ) → whole S n ≺ whole S (suc n)
  unfolding whole
  whole-next n =
      subst (λ (z : Element). z ≺ (whole S n ⊕ S.one)) (zero-plus (whole S n))
      (subst (λ (z : Element). (S.zero ⊕ whole S n) ≺ z) (S.plus_comm S.one (whole S n)) (S.less-plus S.zero S.one (whole S n) S.zero-less-one))

  pub whole-less : (m n : ℕ) → m < n → whole S m ≺ whole S n
  whole-less m zero h = absurd (omega arith)
  whole-less m (suc n) h = elim (ℕ_discrete m n) [
    | yes e ↦ subst (λ (k : ℕ). whole S k ≺ whole S (suc n)) (sym e) (whole-next n)
    | no ne ↦ S.less-trans (whole S m) (whole S n) (whole S (suc n)) (whole-less m n (omega arith)) (whole-next n)
  ]

  pub whole-at-most : (m n : ℕ) → m ≤ n → AtMost S (whole S m) (whole S n)
  whole-at-most m n h = elim (ℕ_discrete m n) [
    | yes e ↦ inr (ap (whole S) e)
    | no ne ↦ inl (whole-less m n (omega arith))
  ]
