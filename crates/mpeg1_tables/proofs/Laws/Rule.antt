-- The word lists obey their rules, by one computed test, and what reading a code then means. Assumes nothing.
use mathlib.Core.Path.{◌≡◌, refl, ap₂, ◌∙◌, sym, subst}
use mathlib.Core.Bool.{Bool, true, false, not, ◌&&◌}
use mathlib.Core.List.{List, [], ◌∷◌}
use Prim.Native.Nat.{ℕ, zero, suc, ◌<◌}
use native.Mathlib.Omega.{arith}
use lib.Dec.{T, eqb}
use lib.ListN.{length, get_or}
use borrow.Author.Tests.{eqb-true, eq-eqb}
use Rattle.std.specs.Prelude.{Result, Err}
use Rattle.math.specs.Tab.{tab}
use Rattle.math.proofs.Test.{and_left, and_right, clash, refuted}
use Rattle.mpeg1_bits.specs.Bits.{bits_of}
use Rattle.mpeg1_tables.specs.declared.code.Code.{Code}
use Rattle.mpeg1_tables.specs.declared.code.CodeError.{CodeError}
use Rattle.mpeg1_tables.specs.declared.code.CodeError.TheVariants.{NoCode, Truncated}
use Rattle.mpeg1_tables.specs.Code.{Word, word, digits_of, is_prefix, code_of, found}
use Rattle.mpeg1_tables.specs.AnnexB.{increment_words, increments, increments_after_escape, intra_types, predicted_types, bidirectional_types, patterns, motion_codes, luminance_sizes, chrominance_sizes, shared_words, first_coefficients, next_coefficients, byte_words, large_positive, large_negative}
use Rattle.mpeg1_tables.specs.Rule.{Rule, rule, rules, apart_from, prefix_free, begin_no_code, all_hold}
use Rattle.mpeg1_tables.proofs.Laws.Prefix.{case, and-true, code-found, code-truncated, code-later}

rules-hold : T (all_hold rules)
unfolding all_hold prefix_free apart_from begin_no_code code_of is_prefix word digits_of increment_words increments increments_after_escape intra_types predicted_types bidirectional_types patterns motion_codes luminance_sizes chrominance_sizes shared_words first_coefficients next_coefficients byte_words large_positive large_negative tab bits_of
rules-hold = tt

free-at : (rs : List Rule) (d : Rule) (k : ℕ) → T (all_hold rs) → k < length rs → T (prefix_free (get_or rs k d).words)
unfolding all_hold
free-at [] d k t h = absurd (omega arith)
free-at (r ∷ rs) d zero t h = and_left (prefix_free r.words) (begin_no_code r.words r.outs) (and_left (prefix_free r.words && begin_no_code r.words r.outs) (all_hold rs) t)
free-at (r ∷ rs) d (suc k) t h = free-at rs d k (and_right (prefix_free r.words && begin_no_code r.words r.outs) (all_hold rs) t) (omega arith)

-- each of the 13 lists is prefix-free
pub prefix-free : (k : ℕ) → k < 13 → T (prefix_free (get_or rules k (rule [] [])).words)
prefix-free k h = free-at rules (rule [] []) k rules-hold h

-- ---- what a code read from bits means
value-not-none : {v n : ℕ} → found v n ≡ Err NoCode → ⊥
value-not-none e = let z : ◌≡◌ {A = ℕ} 0 1 = cc in omega arith

truncated-not-none : ◌≡◌ {A = Result Code CodeError} (Err Truncated) (Err NoCode) → ⊥
truncated-not-none e = let z : ◌≡◌ {A = ℕ} 0 1 = cc in omega arith

pub data In (w : Word) : List Word → Type 0 where
  here : {words : List Word} → In w (w ∷ words)
  there : {x : Word} {words : List Word} → In w words → In w (x ∷ words)

eqb-both : (x y z : ℕ) → eqb x z ≡ true → eqb y z ≡ true → eqb x y ≡ true
eqb-both x y z p q = eq-eqb x y (eqb-true x z p ∙ sym (eqb-true y z q))

-- of two prefixes of the same bits, one is a prefix of the other
pub prefix-either : {A : Type 0} (a c b : List ℕ) → is_prefix a b ≡ true → is_prefix c b ≡ true → (is_prefix a c ≡ true → A) → (is_prefix c a ≡ true → A) → A
unfolding is_prefix
prefix-either [] c b p q f g = f refl
prefix-either (x ∷ a) [] b p q f g = g refl
prefix-either (x ∷ a) (y ∷ c) [] p q f g = clash p refl
prefix-either (x ∷ a) (y ∷ c) (z ∷ b) p q f g =
    let s = and-true (eqb x z) (is_prefix a b) p in
    let t = and-true (eqb y z) (is_prefix c b) q in
    prefix-either a c b s.1 t.1 (λ r. f (ap₂ ◌&&◌ (eqb-both x y z s.0 t.0) r)) (λ r. g (ap₂ ◌&&◌ (eqb-both y x z t.0 s.0) r))

pub prefix-chain : (a b c : List ℕ) → is_prefix a b ≡ true → is_prefix b c ≡ true → is_prefix a c ≡ true
unfolding is_prefix
prefix-chain [] b c p q = refl
prefix-chain (x ∷ a) [] c p q = clash p refl
prefix-chain (x ∷ a) (y ∷ b) [] p q = clash q refl
prefix-chain (x ∷ a) (y ∷ b) (z ∷ c) p q =
    let s = and-true (eqb x y) (is_prefix a b) p in
    let t = and-true (eqb y z) (is_prefix b c) q in
    ap₂ ◌&&◌ (eq-eqb x z (eqb-true x y s.0 ∙ eqb-true y z t.0)) (prefix-chain a b c s.1 t.1)

pub not-both : (b : Bool) → T (not b) → b ≡ true → ⊥
not-both b t e = subst (λ (x : Bool). T (not x)) e t

apart : (a : List ℕ) {w : Word} {words : List Word} → T (apart_from a words) → In w words → (is_prefix a w.bits ≡ true → ⊥) × (is_prefix w.bits a ≡ true → ⊥)
unfolding apart_from
apart a {w} t (here {words = words}) =
    let s = and_left (not (is_prefix a w.bits) && not (is_prefix w.bits a)) (apart_from a words) t in
    (not-both (is_prefix a w.bits) (and_left (not (is_prefix a w.bits)) (not (is_prefix w.bits a)) s), not-both (is_prefix w.bits a) (and_right (not (is_prefix a w.bits)) (not (is_prefix w.bits a)) s))
apart a t (there {x = x} {words = words} p) = apart a (and_right (not (is_prefix a x.bits) && not (is_prefix x.bits a)) (apart_from a words) t) p

-- a word that is a prefix of the bits is the code, wherever it is in the list
pub found-exactly : (b : List ℕ) {w : Word} {words : List Word} → T (prefix_free words) → In w words → is_prefix w.bits b ≡ true → code_of words b ≡ found w.value (length w.bits)
unfolding prefix_free
found-exactly b {w} t (here {words = words}) e = code-found w words b e
found-exactly b {w} t (there {x = x} {words = words} p) e =
    let s = apart x.bits (and_left (apart_from x.bits words) (prefix_free words) t) p in
    code-later x words b
    (refuted (λ f. prefix-either x.bits w.bits b f e s.0 s.1))
    (refuted (λ f. s.1 (prefix-chain w.bits b x.bits e f)))
    ∙ found-exactly b (and_right (apart_from x.bits words) (prefix_free words) t) p e

-- bits that are a proper prefix of a word are truncated
pub truncated-exactly : (b : List ℕ) {w : Word} {words : List Word} → T (prefix_free words) → In w words → is_prefix b w.bits ≡ true → is_prefix w.bits b ≡ false → code_of words b ≡ Err Truncated
unfolding prefix_free
truncated-exactly b {w} t (here {words = words}) e f = code-truncated w words b f e
truncated-exactly b {w} t (there {x = x} {words = words} p) e f =
    let s = apart x.bits (and_left (apart_from x.bits words) (prefix_free words) t) p in
    let none = refuted (λ g. s.0 (prefix-chain x.bits b w.bits g e)) in
    case (is_prefix b x.bits)
    (λ g. code-truncated x words b none g)
    (λ g. code-later x words b none g ∙ truncated-exactly b (and_right (apart_from x.bits words) (prefix_free words) t) p e f)

-- "no code of this place is a prefix of b and b is a prefix of none": exactly then there is no code
pub none-exactly : (b : List ℕ) (words : List Word) → ((w : Word) → In w words → (is_prefix w.bits b ≡ false) × (is_prefix b w.bits ≡ false)) → code_of words b ≡ Err NoCode
unfolding code_of
none-exactly b [] h = refl
none-exactly b (w ∷ words) h = let p = h w here in code-later w words b p.0 p.1 ∙ none-exactly b words (λ x i. h x (there i))

pub none-means : (b : List ℕ) {w : Word} {words : List Word} → code_of words b ≡ Err NoCode → In w words → (is_prefix w.bits b ≡ false) × (is_prefix b w.bits ≡ false)
none-means b {w} e (here {words = words}) =
    let f = refuted {b = is_prefix w.bits b} (λ g. value-not-none (sym (code-found w words b g) ∙ e)) in
    (f, refuted (λ g. truncated-not-none (sym (code-truncated w words b f g) ∙ e)))
none-means b e (there {x = x} {words = words} p) =
    let f = refuted {b = is_prefix x.bits b} (λ g. value-not-none (sym (code-found x words b g) ∙ e)) in
    let k = refuted {b = is_prefix b x.bits} (λ g. truncated-not-none (sym (code-truncated x words b f g) ∙ e)) in
    none-means b (sym (code-later x words b f k) ∙ e) p
