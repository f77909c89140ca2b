-- A code of several parts as one list of whole codes: reading part by part equals reading that list. Assumes nothing.
use mathlib.Core.Path.{◌≡◌, refl, ap, ap₂, ◌∙◌, sym}
use mathlib.Core.Bool.{Bool, true, false, cond, not, ◌&&◌}
use mathlib.Core.List.{List, [], ◌∷◌, ◌++◌}
use Prim.Native.Nat.{ℕ, zero, suc, ◌^◌, ◌<◌, ◌≤◌}
use native.Mathlib.Decide.{dec_le}
use native.Mathlib.Omega.{arith}
use lib.Dec.{T, eqb, not_T}
use lib.ListN.{length, take, drop}
use lib.Seq.{take_all}
use borrow.Author.Tests.{eqb-true, eq-eqb, lt-ltb, le-ltb}
use Rattle.std.specs.Prelude.{Result, Ok, Err}
use Rattle.math.specs.Tab.{tab}
use Rattle.math.proofs.Test.{and_left, and_right, clash, refuted}
use Rattle.mpeg1_bits.specs.Bits.{bits_of, leading_number}
use Rattle.mpeg1_bits.proofs.Number.{Binary, bits-length, bits-number, number-below, bits-same}
use Rattle.mpeg1_tables.specs.declared.code.Code.{Code}
use Rattle.mpeg1_tables.specs.declared.code.CodeError.{CodeError}
use Rattle.mpeg1_tables.specs.declared.code.CodeError.TheVariants.{NoCode, Truncated}
use Rattle.mpeg1_tables.specs.Code.{Word, is_prefix, code_of, field_of, after_code, found}
use Rattle.mpeg1_tables.specs.Rule.{apart_from, prefix_free}
use Rattle.mpeg1_tables.proofs.Laws.Prefix.{case, and-true, prefix-more, prefix-split, prefix-less, prefix-length, code-found, code-truncated, code-later, and_both, prefix-is}
use Rattle.mpeg1_tables.proofs.Laws.Rule.{In, here, there, prefix-either, prefix-chain, not-both, found-exactly, truncated-exactly}

-- a code's bits and its meaning
pub record Entry (A : Type 0) : Type 0 where
  pub bits : List ℕ
  pub found : A

module _ {A : Type 0} (short : A) where
  -- the first code of the list that is a prefix of b; truncated if b is a prefix of one; else the default
  unfoldable pub listed : A → List (Entry A) → List ℕ → A
  listed none [] b = none
  listed none (e ∷ es) b = cond (is_prefix e.bits b) e.found (cond (is_prefix b e.bits) short (listed none es b))

-- the codes of a list, each after the same bits
unfoldable pub prepended : {A : Type 0} → List ℕ → List (Entry A) → List (Entry A)
prepended w [] = []
prepended w (e ∷ es) = record { bits = w ++ e.bits; found = e.found } ∷ prepended w es

-- each word, followed by each code that may follow it
unfoldable pub product : {A : Type 0} → List Word → (ℕ → ℕ → List (Entry A)) → List (Entry A)
product [] f = []
product (w ∷ words) f = prepended w.bits (f w.value (length w.bits)) ++ product words f

prefix-parts : (w b : List ℕ) → is_prefix w b ≡ true → b ≡ w ++ drop (length w) b
unfolding is_prefix
prefix-parts [] b e = refl
prefix-parts (x ∷ w) [] e = clash e refl
prefix-parts (x ∷ w) (y ∷ b) e = let p = and-true (eqb x y) (is_prefix w b) e in ap₂ ◌∷◌ (sym (eqb-true x y p.0)) (prefix-parts w b p.1)

prefix-inner : (w x r : List ℕ) → is_prefix (w ++ x) (w ++ r) ≡ is_prefix x r
unfolding is_prefix
prefix-inner [] x r = refl
prefix-inner (y ∷ w) x r = ap₂ ◌&&◌ (eq-eqb y y refl) (prefix-inner w x r)

module _ {A : Type 0} (short : A) where
  listed-append : (none : A) (es fs : List (Entry A)) (b : List ℕ) → listed short none (es ++ fs) b ≡ listed short (listed short none fs b) es b
  unfolding listed
  listed-append none [] fs b = refl
  listed-append none (e ∷ es) fs b = ap (λ (x : A). cond (is_prefix e.bits b) e.found (cond (is_prefix b e.bits) short x)) (listed-append none es fs b)

  listed-inner : (none : A) (w r : List ℕ) (es : List (Entry A)) → listed short none (prepended w es) (w ++ r) ≡ listed short none es r
  unfolding listed prepended
  listed-inner none w r [] = refl
  listed-inner none w r (e ∷ es) = rw (prefix-inner w e.bits r, prefix-inner w r e.bits, listed-inner none w r es)

  listed-apart : (none : A) (w b : List ℕ) (es : List (Entry A)) → is_prefix w b ≡ false → is_prefix b w ≡ false → listed short none (prepended w es) b ≡ none
  unfolding listed prepended
  listed-apart none w b [] p q = refl
  listed-apart none w b (e ∷ es) p q =
      rw (
        refuted {b = is_prefix (w ++ e.bits) b} (λ g. clash (prefix-less w e.bits b g) p),
        refuted {b = is_prefix b (w ++ e.bits)} (λ g. prefix-split b w e.bits g (λ h. clash h q) (λ h. clash h p)),
      )
      (listed-apart none w b es p q)

  listed-begun : (none : A) (w b : List ℕ) (e : Entry A) (es : List (Entry A)) → is_prefix w b ≡ false → is_prefix b w ≡ true → listed short none (prepended w (e ∷ es)) b ≡ short
  unfolding listed prepended
  listed-begun none w b e es p q = rw (refuted {b = is_prefix (w ++ e.bits) b} (λ g. clash (prefix-less w e.bits b g) p), prefix-more b w e.bits q)

  -- if a word w is a prefix of b, words that are apart from w give nothing
  listed-other : (none : A) (w b : List ℕ) (words : List Word) (f : ℕ → ℕ → List (Entry A)) → T (apart_from w words) → is_prefix w b ≡ true → listed short none (product words f) b ≡ none
  unfolding product apart_from listed
  listed-other none w b [] f t p = refl
  listed-other none w b (x ∷ words) f t p =
      let s = and_left (not (is_prefix w x.bits) && not (is_prefix x.bits w)) (apart_from w words) t in
      let n = not-both (is_prefix w x.bits) (and_left (not (is_prefix w x.bits)) (not (is_prefix x.bits w)) s) in
      let m = not-both (is_prefix x.bits w) (and_right (not (is_prefix w x.bits)) (not (is_prefix x.bits w)) s) in
      listed-append none (prepended x.bits (f x.value (length x.bits))) (product words f) b
      ∙ listed-apart (listed short none (product words f) b) x.bits b (f x.value (length x.bits))
      (refuted (λ g. prefix-either w x.bits b p g n m))
      (refuted (λ g. n (prefix-chain w b x.bits p g)))
      ∙ listed-other none w b words f (and_right (not (is_prefix w x.bits) && not (is_prefix x.bits w)) (apart_from w words) t) p

-- a list that is not empty
pub data Some {A : Type 0} : List (Entry A) → Type 0 where
  some : {e : Entry A} {es : List (Entry A)} → Some (e ∷ es)

-- a code of several parts as after_code reads it, with any two answers: `none` where the first part is no code, and `short` where it is truncated
abbrev pub after_with : {A : Type 0} → A → A → Result Code CodeError → List ℕ → (ℕ → ℕ → List ℕ → A) → A
after_with none short (Ok part) b rest = rest part.value part.length (drop part.length b)
after_with none short (Err NoCode) b rest = none
after_with none short (Err Truncated) b rest = short

-- after_code has the part's own errors as these answers
pub with-errors : {A : Type 0} (c : Result Code CodeError) (b : List ℕ) (rest : ℕ → ℕ → List ℕ → Result A CodeError) → after_with (Err NoCode) (Err Truncated) c b rest ≡ after_code c b rest
with-errors (Ok part) b rest = refl
with-errors (Err NoCode) b rest = refl
with-errors (Err Truncated) b rest = refl

module _ {A : Type 0} (none short : A) where
  empty : (f : ℕ → ℕ → List (Entry A)) (b : List ℕ) → listed short none (product [] f) b ≡ after_with none short (code_of [] b) b (λ v n rest. listed short none (f v n) rest)
  unfolding listed product code_of
  empty f b = refl

  module _ (w : Word) (words : List Word) (f : ℕ → ℕ → List (Entry A)) (b : List ℕ) where
    firsts : List (Entry A)
    firsts = f w.value (length w.bits)

    joint : listed short none (product (w ∷ words) f) b ≡ listed short (listed short none (product words f) b) (prepended w.bits firsts) b
    unfolding product firsts
    joint = listed-append short none (prepended w.bits firsts) (product words f) b

    first_found : T (apart_from w.bits words) → is_prefix w.bits b ≡ true → listed short none (product (w ∷ words) f) b ≡ after_with none short (code_of (w ∷ words) b) b (λ v n rest. listed short none (f v n) rest)
    unfolding firsts
    first_found t p =
        joint
        ∙ ap (λ (d : A). listed short d (prepended w.bits firsts) b) (listed-other short none w.bits b words f t p)
        ∙ ap (listed short none (prepended w.bits firsts)) (prefix-parts w.bits b p)
        ∙ listed-inner short none w.bits (drop (length w.bits) b) firsts
        ∙ sym (ap (λ (c : Result Code CodeError). after_with none short c b (λ v n rest. listed short none (f v n) rest)) (code-found w words b p))

    first-begun : Some (f w.value (length w.bits)) → is_prefix w.bits b ≡ false → is_prefix b w.bits ≡ true → listed short none (product (w ∷ words) f) b ≡ after_with none short (code_of (w ∷ words) b) b (λ v n rest. listed short none (f v n) rest)
    unfolding firsts
    first-begun s p q =
        joint ∙ begun firsts s
        ∙ sym (ap (λ (c : Result Code CodeError). after_with none short c b (λ v n rest. listed short none (f v n) rest)) (code-truncated w words b p q))
      where
        begun : (es : List (Entry A)) → Some es → listed short (listed short none (product words f) b) (prepended w.bits es) b ≡ short
        begun [] x' = elim x' [ ]
        begun (e ∷ es) some = listed-begun short (listed short none (product words f) b) w.bits b e es p q

    first-apart : is_prefix w.bits b ≡ false → is_prefix b w.bits ≡ false → listed short none (product words f) b ≡ after_with none short (code_of words b) b (λ v n rest. listed short none (f v n) rest) → listed short none (product (w ∷ words) f) b ≡ after_with none short (code_of (w ∷ words) b) b (λ v n rest. listed short none (f v n) rest)
    first-apart p q e =
        joint
        ∙ listed-apart short (listed short none (product words f) b) w.bits b firsts p q
        ∙ e ∙ sym (ap (λ (c : Result Code CodeError). after_with none short c b (λ v n rest. listed short none (f v n) rest)) (code-later w words b p q))

  -- reading a word and then what follows equals reading the product list
  pub product-code : (words : List Word) (f : ℕ → ℕ → List (Entry A)) (b : List ℕ) → T (prefix_free words) → ((v n : ℕ) → Some (f v n)) → listed short none (product words f) b ≡ after_with none short (code_of words b) b (λ v n rest. listed short none (f v n) rest)
  unfolding prefix_free
  product-code [] f b t s = empty f b
  product-code (w ∷ words) f b t s =
      let apart = and_left (apart_from w.bits words) (prefix_free words) t in
      let next = product-code words f b (and_right (apart_from w.bits words) (prefix_free words) t) s in
      case (is_prefix w.bits b)
      (λ p. first_found w words f b apart p)
      (λ p. case (is_prefix b w.bits)
      (λ q. first-begun w words f b (s w.value (length w.bits)) p q)
      (λ q. first-apart w words f b p q next))

-- ---- the k-bit numbers as a list of words
unfoldable pub field_words : ℕ → List Word
field_words k = tab (2 ^ k) (λ v. record { bits = bits_of k v; value = v })

in-tab : (n : ℕ) (f : ℕ → Word) (v : ℕ) → v < n → In (f v) (tab n f)
unfolding tab
in-tab zero f v h = absurd (omega arith)
in-tab (suc n) f zero h = here
in-tab (suc n) f (suc v) h = there (in-tab n (λ k. f (suc k)) v (omega arith))

pub prefix-of-take : (n : ℕ) (w : List ℕ) → is_prefix (take n w) w ≡ true
unfolding is_prefix
prefix-of-take zero w = refl
prefix-of-take (suc n) [] = refl
prefix-of-take (suc n) (x ∷ w) = ap₂ ◌&&◌ (eq-eqb x x refl) (prefix-of-take n w)

-- different k-bit numbers have different words
module _ (k : ℕ) where
  numbered : (ℕ → ℕ) → ℕ → Word
  numbered g v = record { bits = bits_of k (g v); value = g v }

  different : (x y : ℕ) → x < 2 ^ k → y < 2 ^ k → (x ≡ y → ⊥) → T (not (is_prefix (bits_of k x) (bits_of k y)))
  different x y h g n = not_T (is_prefix (bits_of k x) (bits_of k y)) (λ t. n (bits-same k x y h g (prefix-is (bits_of k x) (bits_of k y) (holds t) ∙ ap (λ (m : ℕ). take m (bits_of k y)) (bits-length k x) ∙ take_all k (bits_of k y) (omega (arith, bits-length k y)))))
    where
      holds : {b : Bool} → T b → b ≡ true
      holds {b = true} t = refl
      holds {b = false} t = absurd t

  apart-numbers : (x n : ℕ) (g : ℕ → ℕ) → x < 2 ^ k → ((j : ℕ) → j < n → g j < 2 ^ k) → ((j : ℕ) → j < n → x ≡ g j → ⊥) → T (apart_from (bits_of k x) (tab n (numbered g)))
  unfolding apart_from tab numbered
  apart-numbers x zero g h s d = tt
  apart-numbers x (suc n) g h s d =
      let small = s 0 (omega arith) in
      let other = d 0 (omega arith) in
      and_both (not (is_prefix (bits_of k x) (bits_of k (g 0))) && not (is_prefix (bits_of k (g 0)) (bits_of k x))) (apart_from (bits_of k x) (tab n (numbered (λ j. g (suc j)))))
      (and_both (not (is_prefix (bits_of k x) (bits_of k (g 0)))) (not (is_prefix (bits_of k (g 0)) (bits_of k x))) (different x (g 0) h small other) (different (g 0) x small h (λ e. other (sym e))))
      (apart-numbers x n (λ j. g (suc j)) h (λ j b. s (suc j) (omega arith)) (λ j b. d (suc j) (omega arith)))

  free-numbers : (n : ℕ) (g : ℕ → ℕ) → ((j : ℕ) → j < n → g j < 2 ^ k) → ((i j : ℕ) → i < j → j < n → g i ≡ g j → ⊥) → T (prefix_free (tab n (numbered g)))
  unfolding prefix_free tab numbered
  free-numbers zero g s d = tt
  free-numbers (suc n) g s d =
      and_both (apart_from (bits_of k (g 0)) (tab n (numbered (λ j. g (suc j))))) (prefix_free (tab n (numbered (λ j. g (suc j)))))
      (apart-numbers (g 0) n (λ j. g (suc j)) (s 0 (omega arith)) (λ j b. s (suc j) (omega arith)) (λ j b. d 0 (suc j) (omega arith) (omega arith)))
      (free-numbers n (λ j. g (suc j)) (λ j b. s (suc j) (omega arith)) (λ i j h b. d (suc i) (suc j) (omega arith) (omega arith)))

  pub field-free : T (prefix_free (field_words k))
  unfolding field_words numbered
  field-free = free-numbers (2 ^ k) (λ v. v) (λ j b. b) (λ i j h b e. omega arith)

-- reading a k-bit number equals reading that list
pub field-code : (k : ℕ) {b : List ℕ} → Binary b → code_of (field_words k) b ≡ field_of k b
unfolding field_words field_of
field-code k {b} p = elim (dec_le k (length b)) [
  | yes h ↦ found-exactly b (field-free k) listed_here (whole h) ∙ ap (found v) (bits-length k v) ∙ rw (le-ltb _ _ h)
  | no h ↦ truncated-exactly b (field-free k) listed_here (part (omega arith)) (longer (omega arith)) ∙ rw (lt-ltb (length b) k (omega arith))
]
  where
    v : ℕ
    v = leading_number k b

    listed_here : In (record { bits = bits_of k v; value = v }) (tab (2 ^ k) (λ v. record { bits = bits_of k v; value = v }))
    listed_here = in-tab (2 ^ k) (λ v. record { bits = bits_of k v; value = v }) v (number-below k p)

    whole : k ≤ length b → is_prefix (bits_of k v) b ≡ true
    whole h = ap (λ (w : List ℕ). is_prefix w b) (sym (take_all k (bits_of k v) (omega (arith, bits-length k v))) ∙ bits-number k k p (omega arith) h) ∙ prefix-of-take k b

    part : length b < k → is_prefix b (bits_of k v) ≡ true
    part h = ap (λ (w : List ℕ). is_prefix w (bits_of k v)) (sym (bits-number (length b) k p (omega (arith, h)) (omega arith) ∙ take_all (length b) b (omega arith))) ∙ prefix-of-take (length b) (bits_of k v)

    longer : length b < k → is_prefix (bits_of k v) b ≡ false
    longer h = refuted (λ g. omega (arith, prefix-length (bits_of k v) b g, bits-length k v, h))
