-- Ring identities of any size by computation: `solve-by vars l r refl` proves l equal to r. Assumes nothing.
-- Both must have the same normal form: a list of terms, each a coefficient and a sorted list of variables.
use mathlib.Core.Path.{◌≡◌, refl, sym, ap, ◌∙◌}
use mathlib.Core.Bool.{Bool, true, false}
use mathlib.Core.List.{List, [], ◌∷◌}
use Prim.Native.Nat.{ℕ, zero, suc}
use native.Mathlib.Omega.{arith}
use native.Mathlib.Nat.{one-mul}
use lib.Dec.{T, ltb, eqb, eqb→eq}
use lib.IntN.{ℤ, pos, negsuc, neg_ℤ, ◌+ℤ◌, ◌-ℤ◌, ◌*ℤ◌, +ℤ_assoc, +ℤ_idl, zero-*ℤ}
use lib.ListN.{get_or}
use Rattle.math.proofs.Difference.{subs, as-sub}
use Rattle.math.proofs.Ring.{mul_assoc, mul_left_comm, mul-add, add-mul, add_left_comm}

infixl 6 ◌:+◌ ◌:-◌
infixl 7 ◌:*◌
pub data Expression : Type 0 where
  unknown : ℕ → Expression
  constant : ℤ → Expression
  ◌:+◌ ◌:-◌ ◌:*◌ : Expression → Expression → Expression

pub record Term : Type 0 where
  pub times : ℤ
  pub of : List ℕ

module _ (vars : List ℤ) where
  abbrev pub value : Expression → ℤ
  value (unknown i) = get_or vars i (pos 0)
  value (constant z) = z
  value (a :+ b) = value a +ℤ value b
  value (a :- b) = value a -ℤ value b
  value (a :* b) = value a *ℤ value b

  product : List ℕ → ℤ
  product [] = pos 1
  product (i ∷ m) = get_or vars i (pos 0) *ℤ product m

  value-of-terms : List Term → ℤ
  value-of-terms [] = pos 0
  value-of-terms (t ∷ p) = t.times *ℤ product t.of +ℤ value-of-terms p

-- ---- the normal form
-- inserts a variable into a sorted list
abbrev insert : ℕ → List ℕ → List ℕ
insert i [] = i ∷ []
insert i (j ∷ m) = elim (ltb j i) [ true ↦ j ∷ insert i m | false ↦ i ∷ j ∷ m ]

abbrev merge : List ℕ → List ℕ → List ℕ
merge [] n = n
merge (i ∷ m) n = insert i (merge m n)

abbrev same : List ℕ → List ℕ → Bool
same [] [] = true
same [] (j ∷ n) = false
same (i ∷ m) [] = false
same (i ∷ m) (j ∷ n) = elim (eqb i j) [ true ↦ same m n | false ↦ false ]

abbrev before : List ℕ → List ℕ → Bool
before [] n = true
before (i ∷ m) [] = false
before (i ∷ m) (j ∷ n) = elim (eqb i j) [ true ↦ before m n | false ↦ ltb i j ]

abbrev is_zero : ℤ → Bool
is_zero (pos zero) = true
is_zero (pos (suc n)) = false
is_zero (negsuc n) = false

-- inserts a term into a sorted list of terms, and drops a term that is 0
abbrev keep_term : Term → List Term → List Term
keep_term t p = elim (is_zero t.times) [ true ↦ p | false ↦ t ∷ p ]

abbrev insert_term : Term → List Term → List Term
insert_term t [] = keep_term t []
insert_term t (s ∷ p) = elim (same t.of s.of) [
  | true ↦ keep_term (record { times = t.times +ℤ s.times; of = s.of }) p
  | false ↦ elim (before t.of s.of) [ true ↦ keep_term t (s ∷ p) | false ↦ s ∷ insert_term t p ]
]

abbrev add_terms : List Term → List Term → List Term
add_terms [] q = q
add_terms (t ∷ p) q = insert_term t (add_terms p q)

abbrev scale_terms : Term → List Term → List Term
scale_terms t [] = []
scale_terms t (s ∷ q) = insert_term (record { times = t.times *ℤ s.times; of = merge t.of s.of }) (scale_terms t q)

abbrev mul_terms : List Term → List Term → List Term
mul_terms [] q = []
mul_terms (t ∷ p) q = add_terms (scale_terms t q) (mul_terms p q)

abbrev pub normal : Expression → List Term
normal (unknown i) = record { times = pos 1; of = i ∷ [] } ∷ []
normal (constant z) = keep_term (record { times = z; of = [] }) []
normal (a :+ b) = add_terms (normal a) (normal b)
normal (a :- b) = add_terms (normal a) (scale_terms (record { times = negsuc 0; of = [] }) (normal b))
normal (a :* b) = mul_terms (normal a) (normal b)

-- ---- the normal form has the expression's value
either : {A : Type 0} (P : A → Type 0) (b : Bool) (x y : A) → (T b → P x) → P y → P (elim b [ true ↦ x | false ↦ y ])
either P true x y f g = f tt
either P false x y f g = g

same-is : (m n : List ℕ) → T (same m n) → m ≡ n
same-is [] [] t = refl
same-is [] (j ∷ n) t = absurd t
same-is (i ∷ m) [] t = absurd t
same-is (i ∷ m) (j ∷ n) t = go (eqb i j) (eqb→eq i j) (same-is m n) t
  where
    go : (b : Bool) → (T b → i ≡ j) → (T (same m n) → m ≡ n) → T (elim b [ true ↦ same m n | false ↦ false ]) → ◌≡◌ {A = List ℕ} (i ∷ m) (j ∷ n)
    go true e f s = λ k. e tt k ∷ f s k
    go false e f s = absurd s

zero_is : (z : ℤ) → T (is_zero z) → z ≡ pos 0
zero_is (pos zero) t = refl
zero_is (pos (suc n)) t = absurd t
zero_is (negsuc n) t = absurd t

less_one : (y : ℤ) → negsuc 0 *ℤ y ≡ neg_ℤ y
less_one (pos b) = ap (λ (n : ℕ). neg_ℤ (pos n)) (one-mul b)
less_one (negsuc b) = ap pos (one-mul (suc b))

module _ (vars : List ℤ) where
  abbrev value-of-term : Term → ℤ
  value-of-term t = t.times *ℤ product vars t.of

  insert-is : (i : ℕ) (m : List ℕ) → product vars (insert i m) ≡ get_or vars i (pos 0) *ℤ product vars m
  unfolding product
  insert-is i [] = refl
  insert-is i (j ∷ m) = either (λ l. product vars l ≡ get_or vars i (pos 0) *ℤ (get_or vars j (pos 0) *ℤ product vars m)) (ltb j i) (j ∷ insert i m) (i ∷ j ∷ m)
      (λ t. ap (λ (z : ℤ). get_or vars j (pos 0) *ℤ z) (insert-is i m) ∙ mul_left_comm (get_or vars j (pos 0)) (get_or vars i (pos 0)) (product vars m)) refl

  merge-is : (m n : List ℕ) → product vars (merge m n) ≡ product vars m *ℤ product vars n
  unfolding product
  merge-is [] n = sym (one (product vars n))
    where
      one : (z : ℤ) → pos 1 *ℤ z ≡ z
      one z = rw (as-sub z) (simp subs (omega arith))
  merge-is (i ∷ m) n = insert-is i (merge m n) ∙ ap (λ (z : ℤ). get_or vars i (pos 0) *ℤ z) (merge-is m n) ∙ sym (mul_assoc (get_or vars i (pos 0)) (product vars m) (product vars n))

  keep_term-is : (t : Term) (p : List Term) → value-of-terms vars (keep_term t p) ≡ value-of-term t +ℤ value-of-terms vars p
  unfolding value-of-terms
  keep_term-is t p = either (λ l. value-of-terms vars l ≡ value-of-term t +ℤ value-of-terms vars p) (is_zero t.times) p (t ∷ p)
      (λ z. sym (ap (λ (c : ℤ). c *ℤ product vars t.of +ℤ value-of-terms vars p) (zero_is t.times z) ∙ ap (λ (c : ℤ). c +ℤ value-of-terms vars p) (zero-*ℤ (product vars t.of)) ∙ +ℤ_idl (value-of-terms vars p))) refl

  insert_term-is : (t : Term) (p : List Term) → value-of-terms vars (insert_term t p) ≡ value-of-term t +ℤ value-of-terms vars p
  unfolding value-of-terms
  insert_term-is t [] = keep_term-is t []
  insert_term-is t (s ∷ p) =
      either (λ l. value-of-terms vars l ≡ value-of-term t +ℤ (value-of-term s +ℤ value-of-terms vars p)) (same t.of s.of) _ _
      (λ e. keep_term-is (record { times = t.times +ℤ s.times; of = s.of }) p ∙ two t.times s.times (product vars s.of) (value-of-terms vars p) ∙ ap (λ (m : List ℕ). t.times *ℤ product vars m +ℤ (value-of-term s +ℤ value-of-terms vars p)) (sym (same-is t.of s.of e)))
      (either (λ l. value-of-terms vars l ≡ value-of-term t +ℤ (value-of-term s +ℤ value-of-terms vars p)) (before t.of s.of) (keep_term t (s ∷ p)) (s ∷ insert_term t p)
      (λ e. keep_term-is t (s ∷ p))
      (ap (λ (z : ℤ). value-of-term s +ℤ z) (insert_term-is t p) ∙ add_left_comm (value-of-term s) (value-of-term t) (value-of-terms vars p)))
    where
      two : (a b m r : ℤ) → (a +ℤ b) *ℤ m +ℤ r ≡ a *ℤ m +ℤ (b *ℤ m +ℤ r)
      two a b m r = rw (as-sub a, as-sub b, as-sub m, as-sub r) (simp subs (omega arith))

  add_terms-is : (p q : List Term) → value-of-terms vars (add_terms p q) ≡ value-of-terms vars p +ℤ value-of-terms vars q
  unfolding value-of-terms
  add_terms-is [] q = sym (+ℤ_idl (value-of-terms vars q))
  add_terms-is (t ∷ p) q = insert_term-is t (add_terms p q) ∙ ap (λ (z : ℤ). value-of-term t +ℤ z) (add_terms-is p q) ∙ sym (+ℤ_assoc (value-of-term t) (value-of-terms vars p) (value-of-terms vars q))

  scale_terms-is : (t : Term) (q : List Term) → value-of-terms vars (scale_terms t q) ≡ value-of-term t *ℤ value-of-terms vars q
  unfolding value-of-terms
  scale_terms-is t [] = sym (none (value-of-term t))
    where
      none : (z : ℤ) → z *ℤ pos 0 ≡ pos 0
      none z = rw (as-sub z) (simp subs (omega arith))
  scale_terms-is t (s ∷ q) = insert_term-is (record { times = t.times *ℤ s.times; of = merge t.of s.of }) (scale_terms t q) ∙ (λ i. (t.times *ℤ s.times) *ℤ merge-is t.of s.of i +ℤ scale_terms-is t q i) ∙ spread t.times s.times (product vars t.of) (product vars s.of) (value-of-terms vars q)
    where
      mix : (a b m n : ℤ) → (a *ℤ b) *ℤ (m *ℤ n) ≡ (a *ℤ m) *ℤ (b *ℤ n)
      mix a b m n = mul_assoc a b (m *ℤ n) ∙ ap (λ (z : ℤ). a *ℤ z) (mul_left_comm b m n) ∙ sym (mul_assoc a m (b *ℤ n))

      spread : (a b m n r : ℤ) → (a *ℤ b) *ℤ (m *ℤ n) +ℤ (a *ℤ m) *ℤ r ≡ (a *ℤ m) *ℤ (b *ℤ n +ℤ r)
      spread a b m n r = ap (λ (z : ℤ). z +ℤ (a *ℤ m) *ℤ r) (mix a b m n) ∙ sym (mul-add (a *ℤ m) (b *ℤ n) r)

  mul_terms-is : (p q : List Term) → value-of-terms vars (mul_terms p q) ≡ value-of-terms vars p *ℤ value-of-terms vars q
  unfolding value-of-terms
  mul_terms-is [] q = sym (zero-*ℤ (value-of-terms vars q))
  mul_terms-is (t ∷ p) q = add_terms-is (scale_terms t q) (mul_terms p q) ∙ (λ i. scale_terms-is t q i +ℤ mul_terms-is p q i) ∙ sym (add-mul (value-of-term t) (value-of-terms vars p) (value-of-terms vars q))

  normal-is : (e : Expression) → value-of-terms vars (normal e) ≡ value vars e
  unfolding value-of-terms product
  normal-is (unknown i) = one (get_or vars i (pos 0))
    where
      one : (z : ℤ) → pos 1 *ℤ (z *ℤ pos 1) +ℤ pos 0 ≡ z
      one z = rw (as-sub z) (simp subs (omega arith))
  normal-is (constant z) = keep_term-is (record { times = z; of = [] }) [] ∙ one z
    where
      one : (z : ℤ) → z *ℤ pos 1 +ℤ pos 0 ≡ z
      one z = rw (as-sub z) (simp subs (omega arith))
  normal-is (a :+ b) = add_terms-is (normal a) (normal b) ∙ (λ i. normal-is a i +ℤ normal-is b i)
  normal-is (a :- b) = add_terms-is (normal a) (scale_terms (record { times = negsuc 0; of = [] }) (normal b)) ∙ (λ i. normal-is a i +ℤ scale_terms-is (record { times = negsuc 0; of = [] }) (normal b) i) ∙ minus (value vars a) (value-of-terms vars (normal b)) ∙ ap (λ (z : ℤ). value vars a -ℤ z) (normal-is b)
    where
      minus : (x y : ℤ) → x +ℤ (negsuc 0 *ℤ pos 1) *ℤ y ≡ x -ℤ y
      minus x y = ap (λ (z : ℤ). x +ℤ z) (less_one y)
  normal-is (a :* b) = mul_terms-is (normal a) (normal b) ∙ (λ i. normal-is a i *ℤ normal-is b i)

  pub solve-by : (l r : Expression) → normal l ≡ normal r → value vars l ≡ value vars r
  solve-by l r e = sym (normal-is l) ∙ ap (value-of-terms vars) e ∙ normal-is r

-- the variables, by index
abbrev pub X0 : Expression
X0 = unknown 0

abbrev pub X1 : Expression
X1 = unknown 1

abbrev pub X2 : Expression
X2 = unknown 2

abbrev pub X3 : Expression
X3 = unknown 3

abbrev pub X4 : Expression
X4 = unknown 4

abbrev pub X5 : Expression
X5 = unknown 5

abbrev pub X6 : Expression
X6 = unknown 6

abbrev pub X7 : Expression
X7 = unknown 7
