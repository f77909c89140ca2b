-- Reading a coefficient part by part equals reading it from one list of all codes, signs and escapes included. Assumes nothing.
-- In that list, a code that is a prefix of the bits is the one read; bits that are a prefix of a code are truncated; else there is no code.
use mathlib.Core.Path.{◌≡◌, refl, ap, ◌∙◌}
use mathlib.Core.Bool.{Bool, true, false, cond}
use mathlib.Core.List.{List, [], ◌∷◌, ◌++◌}
use Prim.Native.Nat.{ℕ, ◌+◌, ◌/◌, ◌%◌}
use native.Mathlib.Omega.{arith}
use lib.Dec.{T, eqb, ltb}
use lib.IntN.{pos, ◌-ℤ◌}
use lib.ListN.{length, drop}
use Rattle.std.specs.Prelude.{Result, Ok, Err}
use Rattle.math.specs.Tab.{tab}
use Rattle.mpeg1_bits.specs.Bits.{bits_of}
use Rattle.mpeg1_bits.proofs.Number.{Binary, binary-drop}
use Rattle.mpeg1_tables.specs.declared.code.Code.{Code}
use Rattle.mpeg1_tables.specs.declared.code.CodeError.{CodeError}
use Rattle.mpeg1_tables.specs.declared.code.CodeError.TheVariants.{NoCode, Truncated}
use Rattle.mpeg1_tables.specs.Code.{Word, is_prefix, code_of, field_of, after_code}
use Rattle.mpeg1_tables.specs.AnnexB.{end_of_block, coefficient_escape, first_coefficients, next_coefficients, byte_words, large_positive, large_negative}
use Rattle.mpeg1_tables.specs.Rule.{prefix_free}
use Rattle.mpeg1_tables.proofs.Laws.Rule.{prefix-free}
use Rattle.mpeg1_tables.proofs.Laws.Product.{Entry, listed, prepended, product, Some, some, product-code, with-errors, field_words, field-code, field-free}
use Rattle.mpeg1_vlc.specs.declared.coefficient.Coefficient.TheVariants.{Pair, EndOfBlock}
use Rattle.mpeg1_vlc.specs.Coefficient.{CoefficientRead, signed_of, large_of, level_of, escaped_of, finished_of, coefficient_code_of}

-- ---- the list of all codes
-- no bits follow
abbrev pub ended : CoefficientRead → List (Entry CoefficientRead)
ended c = record { bits = []; found = c } ∷ []

unfoldable pub signed_codes : ℕ → ℕ → List (Entry CoefficientRead)
signed_codes value n = product (field_words 1) λ sign m. ended (Ok (Pair (value / 64) (cond (eqb sign 0) (pos (value % 64)) (pos 0 -ℤ pos (value % 64))) (n + m)))

unfoldable pub large_codes : List Word → ℕ → ℕ → ℕ → List (Entry CoefficientRead)
large_codes words less run n = product words λ v m. ended (Ok (Pair run (pos v -ℤ pos less) (n + m)))

unfoldable pub level_codes : ℕ → ℕ → List (Entry CoefficientRead)
level_codes run n =
    product (field_words 8) λ x m.
    cond (eqb x 0) (large_codes large_positive 0 run (n + m))
    (cond (eqb x 128) (large_codes large_negative 256 run (n + m))
    (ended (Ok (Pair run (cond (ltb x 128) (pos x) (pos x -ℤ pos 256)) (n + m)))))

unfoldable pub escaped_codes : ℕ → List (Entry CoefficientRead)
escaped_codes n = product (field_words 6) λ run m. level_codes run (n + m)

unfoldable pub finished_codes : ℕ → ℕ → List (Entry CoefficientRead)
finished_codes value n = cond (eqb value end_of_block) (ended (Ok (EndOfBlock n))) (cond (eqb value coefficient_escape) (escaped_codes n) (signed_codes value n))

-- all codes of a coefficient, each with its meaning
unfoldable pub coefficient_codes : List Word → List (Entry CoefficientRead)
coefficient_codes words = product words finished_codes

-- ---- no list of what may follow is empty
some_more : (w : List ℕ) {es : List (Entry CoefficientRead)} (fs : List (Entry CoefficientRead)) → Some es → Some (prepended w es ++ fs)
unfolding prepended
some_more w fs some = some

some_of : (t : Bool) {x y : List (Entry CoefficientRead)} → Some x → Some y → Some (cond t x y)
some_of true p q = p
some_of false p q = q

some-signed : (value n : ℕ) → Some (signed_codes value n)
unfolding signed_codes product field_words tab
some-signed value n = some_more _ _ some

some-large : (t : Bool) (less run n : ℕ) → Some (large_codes (cond t large_positive large_negative) less run n)
unfolding large_codes product large_positive large_negative byte_words tab
some-large true less run n = some_more _ _ some
some-large false less run n = some_more _ _ some

some_level : (run n : ℕ) → Some (level_codes run n)
unfolding level_codes product field_words tab
some_level run n = some_more _ _ (some-large true 0 run (n + length (bits_of 8 0)))

some-escaped : (n : ℕ) → Some (escaped_codes n)
unfolding escaped_codes product field_words tab
some-escaped n = some_more _ _ (some_level 0 (n + length (bits_of 6 0)))

-- ---- reading part by part
after-other : (c : Result Code CodeError) (b : List ℕ) (f g : ℕ → ℕ → List ℕ → CoefficientRead) → ((v n : ℕ) → f v n (drop n b) ≡ g v n (drop n b)) → after_code c b f ≡ after_code c b g
after-other (Ok code) b f g h = h code.value code.length
after-other (Err error) b f g h = refl

ended-code : (c : CoefficientRead) (b : List ℕ) → listed (Err Truncated) (Err NoCode) (ended c) b ≡ c
unfolding listed is_prefix
ended-code c b = refl

by_parts : (words : List Word) (f : ℕ → ℕ → List (Entry CoefficientRead)) (g : ℕ → ℕ → List ℕ → CoefficientRead) (c : Result Code CodeError) (b : List ℕ) → T (prefix_free words) → ((v n : ℕ) → Some (f v n)) → code_of words b ≡ c → ((v n : ℕ) → listed (Err Truncated) (Err NoCode) (f v n) (drop n b) ≡ g v n (drop n b)) → listed (Err Truncated) (Err NoCode) (product words f) b ≡ after_code c b g
by_parts words f g c b t s e h =
    product-code (Err NoCode) (Err Truncated) words f b t s
    ∙ with-errors (code_of words b) b (λ v n rest. listed (Err Truncated) (Err NoCode) (f v n) rest)
    ∙ ap (λ (c : Result Code CodeError). after_code c b (λ v n rest. listed (Err Truncated) (Err NoCode) (f v n) rest)) e
    ∙ after-other c b (λ v n rest. listed (Err Truncated) (Err NoCode) (f v n) rest) g h

pick-listed : (t : Bool) (b : List ℕ) (es fs : List (Entry CoefficientRead)) {x y : CoefficientRead} → listed (Err Truncated) (Err NoCode) es b ≡ x → listed (Err Truncated) (Err NoCode) fs b ≡ y → listed (Err Truncated) (Err NoCode) (cond t es fs) b ≡ cond t x y
pick-listed true b es fs p q = p
pick-listed false b es fs p q = q

signed-listed : (value n : ℕ) {b : List ℕ} → Binary b → listed (Err Truncated) (Err NoCode) (signed_codes value n) b ≡ signed_of value n b
unfolding signed_codes signed_of
signed-listed value n {b} p = by_parts (field_words 1) _ _ (field_of 1 b) b (field-free 1) (λ v m. some) (field-code 1 p) (λ v m. ended-code _ (drop m b))

large-listed : (words : List Word) (less run n : ℕ) (b : List ℕ) → T (prefix_free words) → listed (Err Truncated) (Err NoCode) (large_codes words less run n) b ≡ large_of words less run n b
unfolding large_codes large_of
large-listed words less run n b t = by_parts words _ _ (code_of words b) b t (λ v m. some) refl (λ v m. ended-code _ (drop m b))

level-listed : (run n : ℕ) {b : List ℕ} → Binary b → listed (Err Truncated) (Err NoCode) (level_codes run n) b ≡ level_of run n b
unfolding level_codes level_of
level-listed run n {b} p =
    by_parts (field_words 8) _ _ (field_of 8 b) b (field-free 8)
    (λ x m. some_of (eqb x 0) (some-large true 0 run (n + m)) (some_of (eqb x 128) (some-large false 256 run (n + m)) some))
    (field-code 8 p)
    (λ x m. pick-listed (eqb x 0) (drop m b) (large_codes large_positive 0 run (n + m)) (cond (eqb x 128) (large_codes large_negative 256 run (n + m)) (small x m)) (large-listed large_positive 0 run (n + m) (drop m b) (prefix-free 11 (omega arith)))
    (pick-listed (eqb x 128) (drop m b) (large_codes large_negative 256 run (n + m)) (small x m) (large-listed large_negative 256 run (n + m) (drop m b) (prefix-free 12 (omega arith))) (ended-code _ (drop m b))))
  where
    small : ℕ → ℕ → List (Entry CoefficientRead)
    small x m = ended (Ok (Pair run (cond (ltb x 128) (pos x) (pos x -ℤ pos 256)) (n + m)))

escaped-listed : (n : ℕ) {b : List ℕ} → Binary b → listed (Err Truncated) (Err NoCode) (escaped_codes n) b ≡ escaped_of n b
unfolding escaped_codes escaped_of
escaped-listed n {b} p = by_parts (field_words 6) _ _ (field_of 6 b) b (field-free 6) (λ run m. some_level run (n + m)) (field-code 6 p) (λ run m. level-listed run (n + m) (binary-drop m p))

coefficient-listed : (words : List Word) {b : List ℕ} → T (prefix_free words) → Binary b → listed (Err Truncated) (Err NoCode) (coefficient_codes words) b ≡ coefficient_code_of words b
unfolding coefficient_codes coefficient_code_of finished_codes finished_of
coefficient-listed words {b} t p =
    by_parts words _ _ (code_of words b) b t
    (λ v n. some_of (eqb v end_of_block) some (some_of (eqb v coefficient_escape) (some-escaped n) (some-signed v n)))
    refl
    (λ v n. pick-listed (eqb v end_of_block) (drop n b) (ended (Ok (EndOfBlock n))) (cond (eqb v coefficient_escape) (escaped_codes n) (signed_codes v n)) (ended-code (Ok (EndOfBlock n)) (drop n b))
    (pick-listed (eqb v coefficient_escape) (drop n b) (escaped_codes n) (signed_codes v n) (escaped-listed n (binary-drop n p)) (signed-listed v n (binary-drop n p))))

pub first-listed : {b : List ℕ} → Binary b → listed (Err Truncated) (Err NoCode) (coefficient_codes first_coefficients) b ≡ coefficient_code_of first_coefficients b
first-listed p = coefficient-listed first_coefficients (prefix-free 9 (omega arith)) p

pub next-listed : {b : List ℕ} → Binary b → listed (Err Truncated) (Err NoCode) (coefficient_codes next_coefficients) b ≡ coefficient_code_of next_coefficients b
next-listed p = coefficient-listed next_coefficients (prefix-free 10 (omega arith)) p
