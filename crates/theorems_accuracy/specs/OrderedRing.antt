-- A linearly ordered commutative ring, by its laws.
use Rattle.std.specs.Prelude.{◌⊎◌, ◌≡◌, ℕ}
use Prim.Native.Nat as nat

-- The order is decided: `less-compare` gives one of its three cases. The reals of classical mathematics are such a ring, and so, where nothing is
-- assumed, are the real algebraic numbers; both have the cosines of document 01. The integers (proofs/Model.antt) show that the laws don't contradict
-- one another
pub record OrderedRing : Type 1 where
  pub Element : Type 0
  pub zero : Element
  pub one : Element
  pub plus : Element → Element → Element
  pub times : Element → Element → Element
  pub negation : Element → Element
  pub Less : Element → Element → Type 0
  -- a commutative ring
  pub plus_assoc : (a b c : Element) → plus (plus a b) c ≡ plus a (plus b c)
  pub plus_comm : (a b : Element) → plus a b ≡ plus b a
  pub plus-zero : (a : Element) → plus a zero ≡ a
  pub plus-negation : (a : Element) → plus a (negation a) ≡ zero
  pub times-assoc : (a b c : Element) → times (times a b) c ≡ times a (times b c)
  pub times-comm : (a b : Element) → times a b ≡ times b a
  pub times-one : (a : Element) → times a one ≡ a
  pub times-plus : (a b c : Element) → times a (plus b c) ≡ plus (times a b) (times a c)
  -- a linear order
  pub less-irreflexive : (a : Element) → Less a a → ⊥
  pub less-trans : (a b c : Element) → Less a b → Less b c → Less a c
  pub less-compare : (a b : Element) → Less a b ⊎ (a ≡ b ⊎ Less b a)
  -- that agrees with sums and products
  pub less-plus : (a b c : Element) → Less a b → Less (plus a c) (plus b c)
  pub less-times : (a b : Element) → Less zero a → Less zero b → Less zero (times a b)
  pub zero-less-one : Less zero one

-- at most: less or equal
abbrev pub AtMost : (S : OrderedRing) → S.Element → S.Element → Type 0
AtMost S a b = S.Less a b ⊎ (a ≡ b)

-- a natural number as an element
unfoldable pub whole : (S : OrderedRing) → ℕ → S.Element
whole S nat.zero = S.zero
whole S (nat.suc n) = S.plus (whole S n) S.one
