-- The ends hold the cosines: 2^30 times each of seven elements with document 01's properties lies between its ends, in every linearly ordered
-- commutative ring. It rests on squares of whole numbers, computed. Assumes nothing.
use Prim.Native.Nat.{ℕ, zero, suc, ◌+◌, ◌*◌, ◌^◌, ◌≤◌, ◌<◌}
use mathlib.Core.Path.{◌≡◌, sym, ap, ◌∙◌, subst}
use native.Mathlib.Omega.{arith}
use lib.Dec.{lit<, lit≤}
use Rattle.theorems_accuracy.proofs.OrderedRing.{zero-plus, times_zero, square-times, less-at-most, at-most-trans, not-less, at-most-plus, times-at-most, times-cancel, square-less, whole-plus, whole-times, whole-less, whole-at-most}
use Rattle.theorems_accuracy.specs.Cosines.{two, double, square_of_double, Cosines, HeldBetween}
use Rattle.theorems_accuracy.specs.Ends.{low_ends, high_ends, low_end, high_end}
use Rattle.theorems_accuracy.specs.OrderedRing.{OrderedRing, AtMost, whole}

module _ (S : OrderedRing) where
  infixl 6 ◌⊕◌
  infixl 7 ◌⊗◌
  infix 4 ◌≺◌
  open S use {Element, plus as ◌⊕◌, times as ◌⊗◌, Less as ◌≺◌}

  -- 2^30 times twice an element
  abbrev scaled : Element → Element
  scaled a = whole S (2 ^ 30) ⊗ double S a

  -- x lies between two whole numbers
  record Bounds (low high : ℕ) (x : Element) : Type 0 where
    lower : AtMost S (whole S low) x
    upper : AtMost S x (whole S high)

  -- x² + p = q, and the squares of low and high, with p, are around q: so x is between low and high
  squeeze : (low high : ℕ) (x p q : Element) → 0 < high → S.zero ≺ x → x ⊗ x ⊕ p ≡ q
      → AtMost S (whole S (low * low) ⊕ p) q → AtMost S q (whole S (high * high) ⊕ p) → Bounds low high x
  unfolding whole
  squeeze low high x p q hh hx e l h = record {
    lower = not-less S x (whole S low) (λ k. S.less-irreflexive q (less-at-most S q (whole S (low * low) ⊕ p) q (under k) l));
    upper = not-less S (whole S high) x (λ k. S.less-irreflexive (whole S (high * high) ⊕ p) (less-at-most S (whole S (high * high) ⊕ p) q (whole S (high * high) ⊕ p) (over k) h));
  }
    where
      under : x ≺ whole S low → q ≺ whole S (low * low) ⊕ p
      under k =
          subst (λ (z : Element). z ≺ whole S (low * low) ⊕ p) e
          (S.less-plus (x ⊗ x) (whole S (low * low)) p (subst (λ (z : Element). x ⊗ x ≺ z) (sym (whole-times S low low)) (square-less S x (whole S low) hx k)))

      over : whole S high ≺ x → whole S (high * high) ⊕ p ≺ q
      over k =
          subst (λ (z : Element). whole S (high * high) ⊕ p ≺ z) e
          (S.less-plus (whole S (high * high)) (x ⊗ x) p (subst (λ (z : Element). z ≺ x ⊗ x) (sym (whole-times S high high)) (square-less S (whole S high) x (whole-less S 0 high hh) k)))

  -- ---- the square of 2^30 times twice an element
  positive-two : S.zero ≺ two S
  positive-two =
      S.less-trans S.zero S.one (two S) S.zero-less-one
      (subst (λ (z : Element). z ≺ two S) (zero-plus S S.one) (S.less-plus S.zero S.one S.one S.zero-less-one))

  two_is : whole S 2 ≡ two S
  unfolding whole
  two_is = ap (λ (z : Element). z ⊕ S.one) (zero-plus S S.one)

  factor-positive : S.zero ≺ whole S (2 ^ 30)
  unfolding whole
  factor-positive = whole-less S 0 (2 ^ 30) (lit< tt)

  scaled-positive : (a : Element) → S.zero ≺ a → S.zero ≺ scaled a
  scaled-positive a h = S.less-times (whole S (2 ^ 30)) (double S a) factor-positive (S.less-times (two S) a positive-two h)

  -- 2^60 × (2 + y)
  spread : (a y : Element) → square_of_double S a ≡ two S ⊕ y → scaled a ⊗ scaled a ≡ whole S (2 ^ 61) ⊕ whole S (2 ^ 60) ⊗ y
  spread a y e =
      square-times S (whole S (2 ^ 30)) (double S a) ∙ (λ i. sym (whole-times S (2 ^ 30) (2 ^ 30)) i ⊗ e i) ∙ S.times-plus (whole S (2 ^ 60)) (two S) y
      ∙ ap (λ (z : Element). z ⊕ whole S (2 ^ 60) ⊗ y) (ap (λ (z : Element). whole S (2 ^ 60) ⊗ z) (sym two_is) ∙ sym (whole-times S (2 ^ 60) 2))

  -- 2^60 times twice an element is 2^30 times its scaled one
  regroup : (b : Element) → whole S (2 ^ 60) ⊗ double S b ≡ whole S (2 ^ 30) ⊗ scaled b
  regroup b = ap (λ (z : Element). z ⊗ double S b) (whole-times S (2 ^ 30) (2 ^ 30)) ∙ S.times-assoc (whole S (2 ^ 30)) (whole S (2 ^ 30)) (double S b)

  -- s + 2^30 × n, for whole numbers
  grown : (s n : ℕ) → whole S (s + 2 ^ 30 * n) ≡ whole S s ⊕ whole S (2 ^ 30) ⊗ whole S n
  grown s n = whole-plus S s (2 ^ 30 * n) ∙ ap (λ (z : Element). whole S s ⊕ z) (whole-times S (2 ^ 30) n)

  -- and how it compares with s + 2^30 × y, where y is at least, or at most, n
  grown-least : (m s n : ℕ) (y : Element) → m ≤ s + 2 ^ 30 * n → AtMost S (whole S n) y → AtMost S (whole S m) (whole S s ⊕ whole S (2 ^ 30) ⊗ y)
  grown-least m s n y h l =
      at-most-trans S (whole S m) (whole S s ⊕ whole S (2 ^ 30) ⊗ whole S n) (whole S s ⊕ whole S (2 ^ 30) ⊗ y) (subst (λ (z : Element). AtMost S (whole S m) z) (grown s n) (whole-at-most S m (s + 2 ^ 30 * n) h))
      (at-most-plus S (whole S (2 ^ 30) ⊗ whole S n) (whole S (2 ^ 30) ⊗ y) (whole S s) (times-at-most S (whole S (2 ^ 30)) (whole S n) y factor-positive l))

  grown-most : (m s n : ℕ) (y : Element) → s + 2 ^ 30 * n ≤ m → AtMost S y (whole S n) → AtMost S (whole S s ⊕ whole S (2 ^ 30) ⊗ y) (whole S m)
  grown-most m s n y h l =
      at-most-trans S (whole S s ⊕ whole S (2 ^ 30) ⊗ y) (whole S s ⊕ whole S (2 ^ 30) ⊗ whole S n) (whole S m)
      (at-most-plus S (whole S (2 ^ 30) ⊗ y) (whole S (2 ^ 30) ⊗ whole S n) (whole S s) (times-at-most S (whole S (2 ^ 30)) y (whole S n) factor-positive l))
      (subst (λ (z : Element). AtMost S z (whole S m)) (grown s n) (whole-at-most S (s + 2 ^ 30 * n) m h))

  -- ---- one cosine from the one that gives its square: two comparisons of squares of whole numbers
  abbrev Doubled : ℕ → ℕ → Element → Type 0
  Doubled low high a = Bounds (2 * low) (2 * high) (scaled a)

  from-two : (low high : ℕ) (a : Element) → S.zero ≺ a → square_of_double S a ≡ two S → 0 < high
      → 2 * low * (2 * low) ≤ 2 ^ 61 → 2 ^ 61 ≤ 2 * high * (2 * high) → Doubled low high a
  from-two low high a h e g l m =
      squeeze (2 * low) (2 * high) (scaled a) S.zero (whole S (2 ^ 61)) (omega arith) (scaled-positive a h)
      (S.plus-zero (scaled a ⊗ scaled a) ∙ spread a S.zero (e ∙ sym (S.plus-zero (two S))) ∙ ap (λ (z : Element). whole S (2 ^ 61) ⊕ z) (times_zero S (whole S (2 ^ 60))) ∙ S.plus-zero (whole S (2 ^ 61)))
      (subst (λ (z : Element). AtMost S z (whole S (2 ^ 61))) (sym (S.plus-zero _)) (whole-at-most S (2 * low * (2 * low)) (2 ^ 61) l))
      (subst (λ (z : Element). AtMost S (whole S (2 ^ 61)) z) (sym (S.plus-zero _)) (whole-at-most S (2 ^ 61) (2 * high * (2 * high)) m))

  from-plus : (low high low' high' : ℕ) (a b : Element) → S.zero ≺ a → square_of_double S a ≡ two S ⊕ double S b → 0 < high
      → 2 * low * (2 * low) ≤ 2 ^ 61 + 2 ^ 30 * (2 * low') → 2 ^ 61 + 2 ^ 30 * (2 * high') ≤ 2 * high * (2 * high) → Doubled low' high' b → Doubled low high a
  from-plus low high low' high' a b h e g l m d =
      squeeze (2 * low) (2 * high) (scaled a) S.zero (whole S (2 ^ 61) ⊕ whole S (2 ^ 30) ⊗ scaled b) (omega arith) (scaled-positive a h)
      (S.plus-zero (scaled a ⊗ scaled a) ∙ spread a (double S b) e ∙ ap (λ (z : Element). whole S (2 ^ 61) ⊕ z) (regroup b))
      (subst (λ (z : Element). AtMost S z (whole S (2 ^ 61) ⊕ whole S (2 ^ 30) ⊗ scaled b)) (sym (S.plus-zero _)) (grown-least (2 * low * (2 * low)) (2 ^ 61) (2 * low') (scaled b) l d.lower))
      (subst (λ (z : Element). AtMost S (whole S (2 ^ 61) ⊕ whole S (2 ^ 30) ⊗ scaled b) z) (sym (S.plus-zero _)) (grown-most (2 * high * (2 * high)) (2 ^ 61) (2 * high') (scaled b) m d.upper))

  from-minus : (low high low' high' : ℕ) (a b : Element) → S.zero ≺ a → square_of_double S a ≡ two S ⊕ S.negation (double S b) → 0 < high
      → 2 * low * (2 * low) + 2 ^ 30 * (2 * high') ≤ 2 ^ 61 → 2 ^ 61 ≤ 2 * high * (2 * high) + 2 ^ 30 * (2 * low') → Doubled low' high' b → Doubled low high a
  from-minus low high low' high' a b h e g l m d =
      squeeze (2 * low) (2 * high) (scaled a) (whole S (2 ^ 30) ⊗ scaled b) (whole S (2 ^ 61)) (omega arith) (scaled-positive a h)
      balanced
      (grown-most (2 ^ 61) (2 * low * (2 * low)) (2 * high') (scaled b) l d.upper)
      (grown-least (2 ^ 61) (2 * high * (2 * high)) (2 * low') (scaled b) m d.lower)
    where
      cancelled : whole S (2 ^ 60) ⊗ S.negation (double S b) ⊕ whole S (2 ^ 30) ⊗ scaled b ≡ S.zero
      cancelled =
          ap (λ (z : Element). whole S (2 ^ 60) ⊗ S.negation (double S b) ⊕ z) (sym (regroup b)) ∙ sym (S.times-plus (whole S (2 ^ 60)) (S.negation (double S b)) (double S b))
          ∙ ap (λ (z : Element). whole S (2 ^ 60) ⊗ z) (S.plus_comm (S.negation (double S b)) (double S b) ∙ S.plus-negation (double S b)) ∙ times_zero S (whole S (2 ^ 60))

      balanced : scaled a ⊗ scaled a ⊕ whole S (2 ^ 30) ⊗ scaled b ≡ whole S (2 ^ 61)
      balanced =
          ap (λ (z : Element). z ⊕ whole S (2 ^ 30) ⊗ scaled b) (spread a (S.negation (double S b)) e)
          ∙ S.plus_assoc (whole S (2 ^ 61)) (whole S (2 ^ 60) ⊗ S.negation (double S b)) (whole S (2 ^ 30) ⊗ scaled b)
          ∙ ap (λ (z : Element). whole S (2 ^ 61) ⊕ z) cancelled ∙ S.plus-zero (whole S (2 ^ 61))

  wider : (low high low' high' : ℕ) (a : Element) → low' ≤ low → high ≤ high' → Doubled low high a → Doubled low' high' a
  wider low high low' high' a l h d = record {
    lower = at-most-trans S (whole S (2 * low')) (whole S (2 * low)) (scaled a) (whole-at-most S (2 * low') (2 * low) (omega arith)) d.lower;
    upper = at-most-trans S (scaled a) (whole S (2 * high)) (whole S (2 * high')) d.upper (whole-at-most S (2 * high) (2 * high') (omega arith));
  }

  -- ---- from twice the cosine to the cosine
  halved : (low high : ℕ) (a : Element) → Doubled low high a → HeldBetween S low high a
  halved low high a d = record {
    at_least = times-cancel S (two S) (whole S (low)) (whole S (2 ^ 30) ⊗ a) positive-two
        (subst (λ (z : Element). AtMost S z (two S ⊗ (whole S (2 ^ 30) ⊗ a))) (twice (low)) (subst (λ (z : Element). AtMost S (whole S (2 * low)) z) outside d.lower));
    at_most = times-cancel S (two S) (whole S (2 ^ 30) ⊗ a) (whole S (high)) positive-two
        (subst (λ (z : Element). AtMost S (two S ⊗ (whole S (2 ^ 30) ⊗ a)) z) (twice (high)) (subst (λ (z : Element). AtMost S z (whole S (2 * high))) outside d.upper));
  }
    where
      twice : (n : ℕ) → whole S (2 * n) ≡ two S ⊗ whole S n
      twice n = whole-times S 2 n ∙ ap (λ (z : Element). z ⊗ whole S n) two_is

      outside : scaled a ≡ two S ⊗ (whole S (2 ^ 30) ⊗ a)
      outside = sym (S.times-assoc (whole S (2 ^ 30)) (two S) a) ∙ ap (λ (z : Element). z ⊗ a) (S.times-comm (whole S (2 ^ 30)) (two S)) ∙ S.times-assoc (two S) (whole S (2 ^ 30)) a

  -- ---- the seven, each from the one that gives its square, by two comparisons of whole numbers. The 2nd is first held between closer
  -- numbers, from which the 7th's ends follow
  module _ (c : ℕ → Element) (k : Cosines S c) where
    fourth : Doubled (low_end 3) (high_end 3) (c 3)
    unfolding low_ends high_ends
    fourth = from-two (low_end 3) (high_end 3) (c 3) (k.above 3 (lit< tt)) k.fourth (lit< tt) (lit≤ tt) (lit≤ tt)

    second : Doubled (low_end 3) (high_end 3) (c 3) → Doubled (low_end 1 + 4) (low_end 1 + 12) (c 1)
    unfolding low_ends high_ends
    second = from-plus (low_end 1 + 4) (low_end 1 + 12) (low_end 3) (high_end 3) (c 1) (c 3) (k.above 1 (lit< tt)) k.second (lit< tt) (lit≤ tt) (lit≤ tt)

    sixth : Doubled (low_end 3) (high_end 3) (c 3) → Doubled (low_end 5) (high_end 5) (c 5)
    unfolding low_ends high_ends
    sixth = from-minus (low_end 5) (high_end 5) (low_end 3) (high_end 3) (c 5) (c 3) (k.above 5 (lit< tt)) k.sixth (lit< tt) (lit≤ tt) (lit≤ tt)

    first : Doubled (low_end 1 + 4) (low_end 1 + 12) (c 1) → Doubled (low_end 0) (high_end 0) (c 0)
    unfolding low_ends high_ends
    first = from-plus (low_end 0) (high_end 0) (low_end 1 + 4) (low_end 1 + 12) (c 0) (c 1) (k.above 0 (lit< tt)) k.first (lit< tt) (lit≤ tt) (lit≤ tt)

    seventh : Doubled (low_end 1 + 4) (low_end 1 + 12) (c 1) → Doubled (low_end 6) (high_end 6) (c 6)
    unfolding low_ends high_ends
    seventh = from-minus (low_end 6) (high_end 6) (low_end 1 + 4) (low_end 1 + 12) (c 6) (c 1) (k.above 6 (lit< tt)) k.seventh (lit< tt) (lit≤ tt) (lit≤ tt)

    third : Doubled (low_end 5) (high_end 5) (c 5) → Doubled (low_end 2) (high_end 2) (c 2)
    unfolding low_ends high_ends
    third = from-plus (low_end 2) (high_end 2) (low_end 5) (high_end 5) (c 2) (c 5) (k.above 2 (lit< tt)) k.third (lit< tt) (lit≤ tt) (lit≤ tt)

    fifth : Doubled (low_end 5) (high_end 5) (c 5) → Doubled (low_end 4) (high_end 4) (c 4)
    unfolding low_ends high_ends
    fifth = from-minus (low_end 4) (high_end 4) (low_end 5) (high_end 5) (c 4) (c 5) (k.above 4 (lit< tt)) k.fifth (lit< tt) (lit≤ tt) (lit≤ tt)

    closer : Doubled (low_end 1 + 4) (low_end 1 + 12) (c 1) → Doubled (low_end 1) (high_end 1) (c 1)
    unfolding low_ends high_ends
    closer = wider (low_end 1 + 4) (low_end 1 + 12) (low_end 1) (high_end 1) (c 1) (lit≤ tt) (lit≤ tt)

    held : (i : ℕ) → i < 7 → HeldBetween S (low_end i) (high_end i) (c i)
    held zero h = halved (low_end 0) (high_end 0) (c 0) (first (second fourth))
    held (suc zero) h = halved (low_end 1) (high_end 1) (c 1) (closer (second fourth))
    held (suc (suc zero)) h = halved (low_end 2) (high_end 2) (c 2) (third (sixth fourth))
    held (suc (suc (suc zero))) h = halved (low_end 3) (high_end 3) (c 3) fourth
    held (suc (suc (suc (suc zero)))) h = halved (low_end 4) (high_end 4) (c 4) (fifth (sixth fourth))
    held (suc (suc (suc (suc (suc zero))))) h = halved (low_end 5) (high_end 5) (c 5) (sixth fourth)
    held (suc (suc (suc (suc (suc (suc zero)))))) h = halved (low_end 6) (high_end 6) (c 6) (seventh (second fourth))
    held (suc (suc (suc (suc (suc (suc (suc i))))))) h = absurd (omega arith)

pub ends-hold : (S : OrderedRing) (c : ℕ → S.Element) → Cosines S c → (i : ℕ) → i < 7 → HeldBetween S (low_end i) (high_end i) (c i)
ends-hold = held
