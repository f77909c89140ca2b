-- A coefficient has at most 28 bits, so the next 32 decide it. Assumes nothing.
use mathlib.Core.Path.{◌≡◌, refl, ap, ap₂, ◌∙◌, sym}
use mathlib.Core.Bool.{Bool, true, false, cond}
use mathlib.Core.List.{List}
use Prim.Native.Nat.{ℕ, ◌+◌, ◌-◌, ◌≤◌}
use native.Mathlib.Omega.{arith}
use lib.Dec.{T, eqb, ltb, leb, le→leb}
use lib.IntN.{pos, ◌-ℤ◌}
use lib.ListN.{take, drop}
use lib.Seq.{take-take}
use borrow.Author.Tests.{eqb-true}
use Rattle.std.specs.Prelude.{Ok}
use Rattle.math.specs.Tab.{tab}
use Rattle.mpeg1_bits.specs.declared.BitPosition.{BitPosition}
use Rattle.mpeg1_bits.specs.declared.Window.{Window}
use Rattle.mpeg1_bits.specs.Bits.{bits_of, bits_from, bits_in, window_of}
use Rattle.mpeg1_bits.proofs.Rest.{rest-binary, window-bits}
use Rattle.mpeg1_tables.specs.Code.{Word, word, digits_of, found, code_of, field_of}
use Rattle.mpeg1_tables.specs.AnnexB.{coefficient_escape, end_of_block, shared_words, first_coefficients, next_coefficients, byte_words, large_positive, large_negative}
use Rattle.mpeg1_tables.proofs.Laws.Prefix.{case, every_word, every-other, no_longer, code-take, code-tested}
use Rattle.mpeg1_tables.proofs.Laws.Table.{sized, row_sized, sized-length}
use Rattle.mpeg1_vlc.specs.declared.coefficient.Coefficient.TheVariants.{Pair, EndOfBlock}
use Rattle.mpeg1_vlc.specs.Coefficient.{CoefficientRead, signed_of, large_of, level_of, escaped_of, finished_of, words_of, coefficient_code_of}
use Rattle.mpeg1_vlc.proofs.Laws.Field.{after_same, drop_of_take, field-take, field-length}
use Rattle.mpeg1_vlc.proofs.Laws.Coefficient.{escape-length, escapes-have-six, six}

module _ (l : List ℕ) where
  signed-take : (v n m : ℕ) → 1 ≤ m → signed_of v n (take m l) ≡ signed_of v n l
  unfolding signed_of
  signed-take v n m h = rw (field-take 1 m l h) (after_same (field_of 1 l) (take m l) l _ (λ s k e. refl))

  large-take : (words : List Word) (less run n m : ℕ) → T (no_longer 8 words) → 8 ≤ m → large_of words less run n (take m l) ≡ large_of words less run n l
  unfolding large_of
  large-take words less run n m t h = rw same (after_same (code_of words l) (take m l) l _ (λ s k e. refl))
    where
      same : code_of words (take m l) ≡ code_of words l
      same = sym (code-take words 8 (take m l) t) ∙ ap (code_of words) (take-take 8 m l h) ∙ code-take words 8 l t

pub positive-eight : T (no_longer 8 large_positive)
unfolding every_word byte_words large_positive tab bits_of
positive-eight = tt

pub negative-eight : T (no_longer 8 large_negative)
unfolding every_word byte_words large_negative tab bits_of
negative-eight = tt

level-take : (l : List ℕ) (run n m : ℕ) → 16 ≤ m → level_of run n (take m l) ≡ level_of run n l
unfolding level_of
level-take l run n m h = rw (field-take 8 m l (omega arith)) (after_same (field_of 8 l) (take m l) l _ rest)
  where
    large : (words : List Word) (less k : ℕ) → T (no_longer 8 words) → k ≡ 8 → large_of words less run (n + k) (drop k (take m l)) ≡ large_of words less run (n + k) (drop k l)
    large words less k t e = ap (large_of words less run (n + k)) (drop_of_take k m l (omega (arith, e, h))) ∙ large-take (drop k l) words less run (n + k) (m - k) t (omega (arith, e, h))

    rest : (x k : ℕ) → field_of 8 l ≡ found x k → cond (eqb x 0) (large_of large_positive 0 run (n + k) (drop k (take m l))) (cond (eqb x 128) (large_of large_negative 256 run (n + k) (drop k (take m l))) (Ok (Pair run (cond (ltb x 128) (pos x) (pos x -ℤ pos 256)) (n + k)))) ≡ cond (eqb x 0) (large_of large_positive 0 run (n + k) (drop k l)) (cond (eqb x 128) (large_of large_negative 256 run (n + k) (drop k l)) (Ok (Pair run (cond (ltb x 128) (pos x) (pos x -ℤ pos 256)) (n + k))))
    rest x k e =
        ap₂ (λ (p q : CoefficientRead). cond (eqb x 0) p (cond (eqb x 128) q (Ok (Pair run (cond (ltb x 128) (pos x) (pos x -ℤ pos 256)) (n + k)))))
        (large large_positive 0 k positive-eight (field-length 8 l x k e))
        (large large_negative 256 k negative-eight (field-length 8 l x k e))

escaped-take : (l : List ℕ) (n m : ℕ) → 22 ≤ m → escaped_of n (take m l) ≡ escaped_of n l
unfolding escaped_of
escaped-take l n m h = rw (field-take 6 m l (omega arith)) (after_same (field_of 6 l) (take m l) l _ rest)
  where
    rest : (run k : ℕ) → field_of 6 l ≡ found run k → level_of run (n + k) (drop k (take m l)) ≡ level_of run (n + k) (drop k l)
    rest run k e =
        let d = field-length 6 l run k e in
        ap (level_of run (n + k)) (drop_of_take k m l (omega (arith, d, h))) ∙ level-take (drop k l) run (n + k) (m - k) (omega (arith, d, h))

finished-take : (l : List ℕ) (v n m : ℕ) → (v ≡ coefficient_escape → 22 ≤ m) → 1 ≤ m → finished_of v n (take m l) ≡ finished_of v n l
unfolding finished_of
finished-take l v n m h g =
    ap (cond (eqb v end_of_block) (Ok (EndOfBlock n)))
    (case (eqb v coefficient_escape)
    (λ e. rw e (escaped-take l n m (h (eqb-true v coefficient_escape e))))
    (λ e. rw e (signed-take l v n m g)))

coefficient-take : (words : List Word) (b : List ℕ) → T (every_word sized words) → T (every_word escape-length words) → coefficient_code_of words (take 32 b) ≡ coefficient_code_of words b
unfolding coefficient_code_of
coefficient-take words b t s = rw (code-take words 32 b fits) (after_same (code_of words b) (take 32 b) b finished_of rest)
  where
    fits : T (no_longer 32 words)
    fits = every-other sized (λ v n. leb n 32) (λ v n u. le→leb n 32 (omega (arith, sized-length v n u))) words t

    rest : (v n : ℕ) → code_of words b ≡ found v n → finished_of v n (drop n (take 32 b)) ≡ finished_of v n (drop n b)
    rest v n e =
        let long = sized-length v n (code-tested sized words b v n t e) in
        ap (finished_of v n) (drop_of_take n 32 b (omega (arith, long)))
        ∙ finished-take (drop n b) v n (32 - n) (λ q. omega (arith, six v n (code-tested escape-length words b v n s e) q)) (omega (arith, long))

pub first-sized : T (every_word sized first_coefficients)
unfolding every_word word digits_of shared_words first_coefficients
first-sized = tt

pub first-escapes : T (every_word escape-length first_coefficients)
unfolding every_word escape-length word digits_of shared_words first_coefficients
first-escapes = tt

module _ (bytes : List ℕ) (p : BitPosition) (next : Window) (e : next ≡ window_of (bits_from bytes p)) where
  rest-coefficient : (words : List Word) → T (every_word sized words) → T (every_word escape-length words) → coefficient_code_of words (bits_in next) ≡ coefficient_code_of words (bits_from bytes p)
  rest-coefficient words t s =
      ap (λ (w : Window). coefficient_code_of words (bits_in w)) e
      ∙ ap (coefficient_code_of words) (window-bits (rest-binary bytes p))
      ∙ coefficient-take words (bits_from bytes p) t s

  pub rest-words : (first : Bool) → coefficient_code_of (words_of first) (bits_in next) ≡ coefficient_code_of (words_of first) (bits_from bytes p)
  unfolding words_of
  rest-words true = rest-coefficient first_coefficients first-sized first-escapes
  rest-words false = rest-coefficient next_coefficients (row_sized 13 (omega arith)) escapes-have-six
