-- The parts of a coefficient's code, read from a window. Assumes nothing.
use mathlib.Core.Path.{◌≡◌, refl, ap, ◌∙◌, sym, subst}
use mathlib.Core.Bool.{Bool, true, false, cond}
use mathlib.Core.List.{List, [], ◌∷◌, ◌++◌}
use Prim.Native.Nat.{ℕ, ◌*◌, ◌-◌, ◌/◌, ◌%◌, ◌<◌, ◌≤◌}
use native.Mathlib.Nat.{div-one}
use native.Mathlib.Decide.{dec_le}
use native.Mathlib.Omega.{arith}
use lib.Dec.{T, eqb, ltb, leb, eqb→eq}
use lib.IntN.{pos, ◌-ℤ◌}
use lib.ListN.{drop, take-append-drop}
use lib.Seq.{drop-drop}
use borrow.Author.Tests.{eqb-true, eqb-false, leb-true, leb-false, eq-eqb}
use Rattle.std.specs.Prelude.{Ok, Err}
use Rattle.mpeg1_bits.specs.declared.Window.{Window}
use Rattle.mpeg1_bits.specs.Bits.{bits_of, bits_in}
use Rattle.mpeg1_bits.proofs.Rest.{window-take, window-length, window-drop}
use Rattle.mpeg1_tables.specs.declared.code.CodeError.TheVariants.{Truncated}
use Rattle.mpeg1_tables.specs.Code.{word, digits_of, is_prefix, found, code_of}
use Rattle.mpeg1_tables.specs.AnnexB.{coefficient_escape, shared_words, first_coefficients, next_coefficients, large_positive, large_negative}
use Rattle.mpeg1_tables.proofs.Laws.Prefix.{every_word, code-tested, code_inside}
use Rattle.mpeg1_tables.proofs.Laws.Table.{code-sized}
use Rattle.mpeg1_vlc.specs.declared.coefficient.Coefficient.TheVariants.{Pair}
use Rattle.mpeg1_vlc.specs.Requires.{WordIn}
use Rattle.mpeg1_vlc.specs.Coefficient.{is_one_alone, signed_of, large_of, level_of, escaped_of, finished_of, words_of, coefficient_code_of}
use Rattle.mpeg1_vlc.proofs.Laws.Field.{field-short, field-value}

module _ (next : Window) (most : next.count ≤ 32) where
  pub after-twenty : 20 ≤ next.count → bits_in (record { bits = next.bits % 4096 * 1048576; count = next.count - 20 }) ≡ drop 20 (bits_in next)
  after-twenty h = window-drop next 20 12 refl h most

  run-part : 12 ≤ next.count → escaped_of 6 (drop 6 (bits_in next)) ≡ level_of (next.bits / 1048576 % 64) 12 (drop 12 (bits_in next))
  unfolding escaped_of
  run-part h = rw (field-value next most 6 6 20 h refl, drop-drop 6 6 (bits_in next))

  no_run : 6 ≤ next.count → next.count < 12 → escaped_of 6 (drop 6 (bits_in next)) ≡ Err Truncated
  unfolding escaped_of
  no_run h k = rw (field-short next most 6 6 h k)

  no-level : 12 ≤ next.count → next.count < 20 → level_of (next.bits / 1048576 % 64) 12 (drop 12 (bits_in next)) ≡ Err Truncated
  unfolding level_of
  no-level h k = rw (field-short next most 12 8 h k)

  pub escape-short : 6 ≤ next.count → next.count < 20 → escaped_of 6 (drop 6 (bits_in next)) ≡ Err Truncated
  escape-short h g = elim (dec_le 12 next.count) [
    | yes k ↦ run-part k ∙ no-level k g
    | no k ↦ no_run h (omega arith)
  ]

  -- all first eight bits of the level exist
  pub escape-level : 20 ≤ next.count → escaped_of 6 (drop 6 (bits_in next)) ≡ cond (eqb (next.bits / 4096 % 256) 0) (large_of large_positive 0 (next.bits / 1048576 % 64) 20 (drop 20 (bits_in next))) (cond (eqb (next.bits / 4096 % 256) 128) (large_of large_negative 256 (next.bits / 1048576 % 64) 20 (drop 20 (bits_in next))) (Ok (Pair (next.bits / 1048576 % 64) (cond (ltb (next.bits / 4096 % 256) 128) (pos (next.bits / 4096 % 256)) (pos (next.bits / 4096 % 256) -ℤ pos 256)) 20)))
  unfolding level_of
  escape-level h = run-part (omega arith) ∙ rw (field-value next most 12 8 12 h refl, drop-drop 8 12 (bits_in next))

-- ---- a word and what follows it
unfoldable pub escape-length : ℕ → ℕ → Bool
escape-length v n = cond (eqb v coefficient_escape) (eqb n 6) true

pub escapes-have-six : T (every_word escape-length next_coefficients)
unfolding every_word escape-length word digits_of shared_words next_coefficients
escapes-have-six = tt

pub six : (v n : ℕ) → T (escape-length v n) → v ≡ coefficient_escape → n ≡ 6
unfolding escape-length
six v n t e = eqb→eq n 6 (subst (λ (b : Bool). T (cond b (eqb n 6) true)) (eq-eqb v coefficient_escape e) t)

pub word-found : (next : Window) {v n : ℕ} → next.count ≤ 32 → code_of next_coefficients (bits_in next) ≡ found v n → WordIn v n next
word-found next {v} {n} most e =
    let s = code-sized 13 (bits_in next) (omega arith) e in
    record {
      small = s.value;
      short = s.long;
      inside = omega (arith, code_inside next_coefficients (bits_in next) v n e, window-length next most);
      escape = six v n (code-tested escape-length next_coefficients (bits_in next) v n escapes-have-six e);
    }

-- ---- the first coefficient of a block
first-is-one : (l : List ℕ) → coefficient_code_of first_coefficients (1 ∷ l) ≡ signed_of 1 1 l
unfolding coefficient_code_of finished_of code_of first_coefficients word digits_of is_prefix
first-is-one l = refl

first-is-zero : (l : List ℕ) → coefficient_code_of first_coefficients (0 ∷ l) ≡ coefficient_code_of next_coefficients (0 ∷ l)
unfolding coefficient_code_of code_of first_coefficients next_coefficients word digits_of is_prefix
first-is-zero l = refl

pub one-there : (next : Window) (first : Bool) → is_one_alone first next ≡ true → 1 ≤ next.count
unfolding is_one_alone
one-there next false e = absurd (subst T (sym e) tt)
one-there next true e = go (eqb next.count 0) refl e
  where
    go : (b : Bool) → eqb next.count 0 ≡ b → cond b false (leb 2147483648 next.bits) ≡ true → 1 ≤ next.count
    go true h t = absurd (subst T (sym t) tt)
    go false h t = omega (arith, eqb-false next.count 0 h)

module _ (next : Window) (most : next.count ≤ 32) (fits : next.bits < 4294967296) where
  head : 1 ≤ next.count → bits_in next ≡ next.bits / 2147483648 % 2 ∷ drop 1 (bits_in next)
  unfolding bits_of
  head h =
      sym (take-append-drop 1 (bits_in next))
      ∙ ap (λ (l : List ℕ). l ++ drop 1 (bits_in next)) (window-take next 1 h most ∙ ap (λ (x : ℕ). x % 2 ∷ []) (div-one (next.bits / 2147483648)))

  first_one : (next.count ≡ 0 → ⊥) → 2147483648 ≤ next.bits → coefficient_code_of first_coefficients (bits_in next) ≡ signed_of 1 1 (drop 1 (bits_in next))
  first_one h g = ap (coefficient_code_of first_coefficients) (head (omega (arith, h)) ∙ ap (λ (x : ℕ). x ∷ drop 1 (bits_in next)) one) ∙ first-is-one (drop 1 (bits_in next))
    where
      one : next.bits / 2147483648 % 2 ≡ 1
      one = omega (arith, g, fits)

  first-none : next.count ≡ 0 → coefficient_code_of first_coefficients (bits_in next) ≡ coefficient_code_of next_coefficients (bits_in next)
  unfolding coefficient_code_of code_of first_coefficients next_coefficients shared_words word digits_of is_prefix bits_in
  first-none e = rw e refl

  first-zero : (next.count ≡ 0 → ⊥) → next.bits < 2147483648 → coefficient_code_of first_coefficients (bits_in next) ≡ coefficient_code_of next_coefficients (bits_in next)
  first-zero h g = ap (coefficient_code_of first_coefficients) begun ∙ first-is-zero (drop 1 (bits_in next)) ∙ ap (coefficient_code_of next_coefficients) (sym begun)
    where
      zero_bit : next.bits / 2147483648 % 2 ≡ 0
      zero_bit = omega (arith, g)

      begun : bits_in next ≡ 0 ∷ drop 1 (bits_in next)
      begun = head (omega (arith, h)) ∙ ap (λ (x : ℕ). x ∷ drop 1 (bits_in next)) zero_bit

  pub one-alone : (first : Bool) → is_one_alone first next ≡ true → coefficient_code_of (words_of first) (bits_in next) ≡ signed_of 1 1 (drop 1 (bits_in next))
  unfolding is_one_alone words_of
  one-alone false e = absurd (subst T (sym e) tt)
  one-alone true e = go (eqb next.count 0) refl e
    where
      go : (b : Bool) → eqb next.count 0 ≡ b → cond b false (leb 2147483648 next.bits) ≡ true → coefficient_code_of first_coefficients (bits_in next) ≡ signed_of 1 1 (drop 1 (bits_in next))
      go true h t = absurd (subst T (sym t) tt)
      go false h t = first_one (eqb-false next.count 0 h) (leb-true 2147483648 next.bits t)

  pub words-shared : (first : Bool) → is_one_alone first next ≡ false → coefficient_code_of (words_of first) (bits_in next) ≡ coefficient_code_of next_coefficients (bits_in next)
  unfolding is_one_alone words_of
  words-shared false e = refl
  words-shared true e = go (eqb next.count 0) refl e
    where
      go : (b : Bool) → eqb next.count 0 ≡ b → cond b false (leb 2147483648 next.bits) ≡ false → coefficient_code_of first_coefficients (bits_in next) ≡ coefficient_code_of next_coefficients (bits_in next)
      go true h t = first-none (eqb-true next.count 0 h)
      go false h t = first-zero (eqb-false next.count 0 h) (leb-false 2147483648 next.bits t)
