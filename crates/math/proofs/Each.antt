-- Laws of `Each`: a property that follows from another or from two, and lists joined and taken apart. Assumes nothing.
use mathlib.Core.List.{List, [], ◌∷◌, ◌++◌}
use Rattle.math.specs.Each.{Each}

module _ {A : Type 0} where
  pub each_map : {P Q : A → Type 0} → ((a : A) → P a → Q a) → (l : List A) → Each P l → Each Q l
  each_map f [] p = tt
  each_map f (a ∷ l) p = (f a p.0, each_map f l p.1)

  pub each-with : {P Q R : A → Type 0} → ((a : A) → P a → Q a → R a) → (l : List A) → Each P l → Each Q l → Each R l
  each-with f [] p q = tt
  each-with f (a ∷ l) p q = (f a p.0 q.0, each-with f l p.1 q.1)

  pub each_append : (P : A → Type 0) (l m : List A) → Each P l → Each P m → Each P (l ++ m)
  each_append P [] m p q = q
  each_append P (a ∷ l) m p q = (p.0, each_append P l m p.1 q)

  pub each_first : (P : A → Type 0) (l m : List A) → Each P (l ++ m) → Each P l
  each_first P [] m p = tt
  each_first P (a ∷ l) m p = (p.0, each_first P l m p.1)

  pub each-rest : (P : A → Type 0) (l m : List A) → Each P (l ++ m) → Each P m
  each-rest P [] m p = p
  each-rest P (a ∷ l) m p = each-rest P l m p.1
