-- Laws of prefixes, and of a code read from bits, for any word list. Assumes nothing.
use mathlib.Core.Path.{◌≡◌, refl, ap, ap₂, ◌∙◌, sym, subst}
use mathlib.Core.Bool.{Bool, true, false, ◌&&◌}
use mathlib.Core.List.{List, [], ◌∷◌, ◌++◌}
use Prim.Native.Nat.{ℕ, ◌≤◌}
use native.Mathlib.Decide.{dec_le}
use native.Mathlib.Omega.{arith}
use lib.Dec.{T, eqb, leb, leb→le}
use lib.ListN.{length, take, drop, take-append-drop}
use lib.Seq.{length-take-le, take_all}
use borrow.Author.Tests.{eqb-true, eq-eqb}
use Rattle.std.specs.Prelude.{Result, Ok, Err}
use Rattle.math.proofs.Test.{and_left, and_right, clash, refuted}
use Rattle.mpeg1_tables.specs.declared.code.Code.{Code}
use Rattle.mpeg1_tables.specs.declared.code.CodeError.{CodeError}
use Rattle.mpeg1_tables.specs.declared.code.CodeError.TheVariants.{NoCode, Truncated}
use Rattle.mpeg1_tables.specs.Code.{Word, is_prefix, code_of, found}

-- case split on a Bool
pub case : {A : Type 0} (b : Bool) → (b ≡ true → A) → (b ≡ false → A) → A
case true f g = f refl
case false f g = g refl

pub and-true : (a b : Bool) → a && b ≡ true → (a ≡ true) × (b ≡ true)
and-true true b e = (refl, e)
and-true false b e = clash e refl

eqb_swap : (x y : ℕ) → eqb x y ≡ true → eqb y x ≡ true
eqb_swap x y e = eq-eqb y x (sym (eqb-true x y e))

-- a prefix of a is a prefix of a ++ c
pub prefix-more : (w a c : List ℕ) → is_prefix w a ≡ true → is_prefix w (a ++ c) ≡ true
unfolding is_prefix
prefix-more [] a c e = refl
prefix-more (x ∷ w) [] c e = clash e refl
prefix-more (x ∷ w) (y ∷ a) c e = let p = and-true (eqb x y) (is_prefix w a) e in ap₂ ◌&&◌ p.0 (prefix-more w a c p.1)

-- a prefix of a ++ c is a prefix of a or extends a
pub prefix-split : {A : Type 0} (w a c : List ℕ) → is_prefix w (a ++ c) ≡ true → (is_prefix w a ≡ true → A) → (is_prefix a w ≡ true → A) → A
unfolding is_prefix
prefix-split [] a c e f g = f refl
prefix-split (x ∷ w) [] c e f g = g refl
prefix-split (x ∷ w) (y ∷ a) c e f g =
    let p = and-true (eqb x y) (is_prefix w (a ++ c)) e in
    prefix-split w a c p.1 (λ q. f (ap₂ ◌&&◌ p.0 q)) (λ q. g (ap₂ ◌&&◌ (eqb_swap x y p.0) q))

-- if a ++ c is a prefix of w, so is a
pub prefix-less : (a c w : List ℕ) → is_prefix (a ++ c) w ≡ true → is_prefix a w ≡ true
unfolding is_prefix
prefix-less [] c w e = refl
prefix-less (x ∷ a) c [] e = clash e refl
prefix-less (x ∷ a) c (y ∷ w) e = let p = and-true (eqb x y) (is_prefix (a ++ c) w) e in ap₂ ◌&&◌ p.0 (prefix-less a c w p.1)

-- a prefix of at least the same length is the whole
pub prefix-whole : (a w : List ℕ) → is_prefix a w ≡ true → length w ≤ length a → is_prefix w a ≡ true
unfolding is_prefix
prefix-whole [] [] e h = refl
prefix-whole [] (y ∷ w) e h = absurd (omega arith)
prefix-whole (x ∷ a) [] e h = refl
prefix-whole (x ∷ a) (y ∷ w) e h = let p = and-true (eqb x y) (is_prefix a w) e in ap₂ ◌&&◌ (eqb_swap x y p.0) (prefix-whole a w p.1 (omega arith))

-- a prefix is the start of the list
pub prefix-is : (a w : List ℕ) → is_prefix a w ≡ true → a ≡ take (length a) w
unfolding is_prefix
prefix-is [] w e = refl
prefix-is (x ∷ a) [] e = clash e refl
prefix-is (x ∷ a) (y ∷ w) e = let p = and-true (eqb x y) (is_prefix a w) e in ap₂ ◌∷◌ (eqb-true x y p.0) (prefix-is a w p.1)

-- a prefix is not longer than the list
pub prefix-length : (w b : List ℕ) → is_prefix w b ≡ true → length w ≤ length b
unfolding is_prefix
prefix-length [] b e = omega arith
prefix-length (x ∷ w) [] e = clash e refl
prefix-length (x ∷ w) (y ∷ b) e = omega (arith, prefix-length w b (and-true (eqb x y) (is_prefix w b) e).1)

pub and_both : (a b : Bool) → T a → T b → T (a && b)
and_both true b s t = t
and_both false b s t = s

-- the three cases of `code_of` for the first word of a list
module _ (w : Word) (words : List Word) (b : List ℕ) where
  pub code-found : is_prefix w.bits b ≡ true → code_of (w ∷ words) b ≡ found w.value (length w.bits)
  unfolding code_of
  code-found e = rw e

  pub code-truncated : is_prefix w.bits b ≡ false → is_prefix b w.bits ≡ true → code_of (w ∷ words) b ≡ Err Truncated
  unfolding code_of
  code-truncated e f = rw (e, f)

  pub code-later : is_prefix w.bits b ≡ false → is_prefix b w.bits ≡ false → code_of (w ∷ words) b ≡ code_of words b
  unfolding code_of
  code-later e f = rw (e, f)

-- more bits don't change a code that isn't truncated
pub code-stable : (words : List Word) (a c : List ℕ) → (code_of words a ≡ Err Truncated → ⊥) → code_of words (a ++ c) ≡ code_of words a
unfolding code_of
code-stable [] a c n = refl
code-stable (w ∷ words) a c n =
    case (is_prefix w.bits a)
    (λ e. code-found w words (a ++ c) (prefix-more w.bits a c e) ∙ sym (code-found w words a e))
    (λ e. case (is_prefix a w.bits)
    (λ f. absurd (n (code-truncated w words a e f)))
    (λ f.
    let g = refuted (λ h. prefix-split w.bits a c h (λ q. clash q e) (λ q. clash q f)) in
    let k = refuted (λ h. clash (prefix-less a c w.bits h) f) in
    code-later w words (a ++ c) g k
    ∙ code-stable words a c (λ s. n (code-later w words a e f ∙ s))
    ∙ sym (code-later w words a e f)))

-- whether every word's value and length pass a test
unfoldable pub every_word : (ℕ → ℕ → Bool) → List Word → Bool
every_word test [] = true
every_word test (w ∷ words) = test w.value (length w.bits) && every_word test words

pub every-other : (test other : ℕ → ℕ → Bool) → ((v n : ℕ) → T (test v n) → T (other v n)) → (words : List Word) → T (every_word test words) → T (every_word other words)
unfolding every_word
every-other test other f [] t = tt
every-other test other f (w ∷ words) t =
    and_both (other w.value (length w.bits)) (every_word other words)
    (f w.value (length w.bits) (and_left (test w.value (length w.bits)) (every_word test words) t))
    (every-other test other f words (and_right (test w.value (length w.bits)) (every_word test words) t))

-- whether no word has more than k bits
abbrev pub no_longer : ℕ → List Word → Bool
no_longer k = every_word (λ v n. leb n k)

value-not-truncated : {v n : ℕ} → found v n ≡ Err Truncated → ⊥
value-not-truncated e = let z : ◌≡◌ {A = ℕ} 0 1 = cc in omega arith

none-not-truncated : ◌≡◌ {A = Result Code CodeError} (Err NoCode) (Err Truncated) → ⊥
none-not-truncated e = let z : ◌≡◌ {A = ℕ} 0 1 = cc in omega arith

-- the same code has the same value and length
pub found-same : {v n x m : ℕ} → found v n ≡ found x m → (v ≡ x) × (n ≡ m)
found-same e = (ap value_of e, ap length_of e)
  where
    value_of : Result Code CodeError → ℕ
    value_of (Ok code) = code.value
    value_of (Err error) = 0

    length_of : Result Code CodeError → ℕ
    length_of (Ok code) = code.length
    length_of (Err error) = 0

-- as many bits as the longest word has are never truncated
pub long-enough : (words : List Word) (a : List ℕ) → T (no_longer (length a) words) → code_of words a ≡ Err Truncated → ⊥
unfolding every_word code_of
long-enough [] a t e = none-not-truncated e
long-enough (w ∷ words) a t e =
    let fits = leb→le (length w.bits) (length a) (and_left (leb (length w.bits) (length a)) (no_longer (length a) words) t) in
    case (is_prefix w.bits a)
    (λ f. value-not-truncated (sym (code-found w words a f) ∙ e))
    (λ f. case (is_prefix a w.bits)
    (λ g. clash (prefix-whole a w.bits g fits) f)
    (λ g. long-enough words a (and_right (leb (length w.bits) (length a)) (no_longer (length a) words) t) (sym (code-later w words a f g) ∙ e)))

-- bits after the longest word don't matter
pub code-take : (words : List Word) (k : ℕ) (b : List ℕ) → T (no_longer k words) → code_of words (take k b) ≡ code_of words b
code-take words k b t = elim (dec_le k (length b)) [
  | yes h ↦ sym (code-stable words (take k b) (drop k b) (long-enough words (take k b) (subst (λ (n : ℕ). T (no_longer n words)) (sym (length-take-le k b h)) t))) ∙ ap (code_of words) (take-append-drop k b)
  | no h ↦ ap (code_of words) (take_all k b (omega arith))
]

-- a code is not longer than the bits left
pub code_inside : (words : List Word) (b : List ℕ) (v n : ℕ) → code_of words b ≡ found v n → n ≤ length b
unfolding code_of
code_inside [] b v n e = absurd (let z : ◌≡◌ {A = ℕ} 0 1 = cc in omega arith)
code_inside (w ∷ words) b v n e =
    case (is_prefix w.bits b)
    (λ f. omega (arith, (found-same (sym (code-found w words b f) ∙ e)).1, prefix-length w.bits b f))
    (λ f. case (is_prefix b w.bits)
    (λ g. absurd (value-not-truncated (sym e ∙ code-truncated w words b f g)))
    (λ g. code_inside words b v n (sym (code-later w words b f g) ∙ e)))

-- a test that every word passes holds for each code read
pub code-tested : (test : ℕ → ℕ → Bool) (words : List Word) (b : List ℕ) (v n : ℕ) → T (every_word test words) → code_of words b ≡ found v n → T (test v n)
unfolding every_word code_of
code-tested test [] b v n t e = absurd (let z : ◌≡◌ {A = ℕ} 0 1 = cc in omega arith)
code-tested test (w ∷ words) b v n t e =
    case (is_prefix w.bits b)
    (λ f.
    let same = found-same (sym (code-found w words b f) ∙ e) in
    subst (λ (x : ℕ). T (test x n)) same.0 (subst (λ (x : ℕ). T (test w.value x)) same.1 (and_left (test w.value (length w.bits)) (every_word test words) t)))
    (λ f. case (is_prefix b w.bits)
    (λ g. absurd (value-not-truncated (sym e ∙ code-truncated w words b f g)))
    (λ g. code-tested test words b v n (and_right (test w.value (length w.bits)) (every_word test words) t) (sym (code-later w words b f g) ∙ e)))
