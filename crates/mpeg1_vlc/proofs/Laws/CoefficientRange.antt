-- Bounds on a coefficient read: run below 64, a level that fits, at most 28 bits and no more than are left. Assumes nothing.
use mathlib.Core.Path.{◌≡◌, refl}
use mathlib.Core.Bool.{Bool}
use mathlib.Core.List.{List}
use Prim.Native.Nat.{ℕ, ◌+◌, ◌%◌, ◌<◌, ◌≤◌}
use native.Mathlib.Omega.{arith}
use lib.Dec.{T, eqb, ltb, leb, leb→le}
use lib.IntN.{ℤ, pos, neg_ℤ, ◌-ℤ◌}
use lib.ListN.{length, drop, length-drop}
use borrow.Author.Tests.{eqb-true}
use Rattle.std.specs.Prelude.{Result, Ok, Err}
use Rattle.math.specs.Tab.{tab}
use Rattle.math.specs.Bound.{Within}
use Rattle.math.proofs.Bound.{abs-le, within-cond}
use Rattle.math.proofs.Difference.{parts_add, parts-neg}
use Rattle.math.proofs.Test.{by-test}
use Rattle.mpeg1_bits.specs.Bits.{bits_of}
use Rattle.mpeg1_bits.proofs.Number.{Binary, binary-drop}
use Rattle.mpeg1_tables.specs.declared.code.Code.{Code}
use Rattle.mpeg1_tables.specs.declared.code.CodeError.{CodeError}
use Rattle.mpeg1_tables.specs.Code.{Word, found, code_of, field_of, after_code}
use Rattle.mpeg1_tables.specs.AnnexB.{coefficient_escape, end_of_block, first_coefficients, next_coefficients, byte_words, large_positive, large_negative}
use Rattle.mpeg1_tables.proofs.Laws.Prefix.{every_word, no_longer, code_inside, code-tested}
use Rattle.mpeg1_tables.proofs.Laws.Table.{sized, row_sized, sized-length, sized-value}
use Rattle.mpeg1_vlc.specs.declared.coefficient.Coefficient.TheVariants.{Pair, EndOfBlock}
use Rattle.mpeg1_vlc.specs.Coefficient.{CoefficientRead, signed_of, large_of, level_of, escaped_of, finished_of, coefficient_code_of}
use Rattle.mpeg1_vlc.proofs.Laws.Range.{field-read}
use Rattle.mpeg1_vlc.proofs.Laws.Coefficient.{escape-length, escapes-have-six, six}
use Rattle.mpeg1_vlc.proofs.Laws.CoefficientRest.{positive-eight, negative-eight, first-sized, first-escapes}

-- a coefficient whose code ends within m bits
pub record PairRead (m run : ℕ) (level : ℤ) (n : ℕ) : Type 0 where
  pub near : run < 64
  pub small : Within 256 level
  pub few : n ≤ 28
  pub inside : n ≤ m

pub record EndRead (m n : ℕ) : Type 0 where
  pub few : n ≤ 28
  pub inside : n ≤ m

abbrev pub WellRead : ℕ → CoefficientRead → Type 0
WellRead m (Ok (Pair run level n)) = PairRead m run level n
WellRead m (Ok (EndOfBlock n)) = EndRead m n
WellRead m (Err error) = Unit {0}

after-well-read : (m : ℕ) (c : Result Code CodeError) (b : List ℕ) (f : ℕ → ℕ → List ℕ → CoefficientRead) → ((v n : ℕ) → c ≡ found v n → WellRead m (f v n (drop n b))) → WellRead m (after_code c b f)
after-well-read m (Ok code) b f h = h code.value code.length refl
after-well-read m (Err error) b f h = tt

-- ---- levels
below-within : (v : ℕ) → v ≤ 256 → Within 256 (pos v)
below-within v h = record { within = h }

-- the difference of two bounded numbers is bounded
pub less-within : {most : ℕ} (v w : ℕ) → v ≤ most → w ≤ most → Within most (pos v -ℤ pos w)
less-within v w h k =
    let sum = parts_add (pos v) (neg_ℤ (pos w)) in
    let neg = parts-neg (pos w) in
    record { within = abs-le (pos v -ℤ pos w) (omega (arith, sum, neg)) (omega (arith, sum, neg)) }

-- the second eight bits of a large level
abbrev byte_values : List Word → Bool
byte_values = every_word (λ v n. leb v 255)

positive-bytes : T (byte_values large_positive)
unfolding every_word byte_words large_positive tab bits_of
positive-bytes = tt

negative-bytes : T (byte_values large_negative)
unfolding every_word byte_words large_negative tab bits_of
negative-bytes = tt

-- n of m bits have been read, and l holds the rest
module _ (m n : ℕ) {l : List ℕ} (p : Binary l) (left : n + length l ≤ m) where
  signed-well-read : (v : ℕ) → v < 2048 → n ≤ 16 → WellRead m (signed_of v n l)
  unfolding signed_of
  signed-well-read v s h = after-well-read m (field_of 1 l) l _ (λ x k e. let r = field-read 1 x k p e in record { near = omega arith; small = within-cond (eqb x 0) (below-within (v % 64) (omega arith)) (less-within 0 (v % 64) (omega arith) (omega arith)); few = omega (arith, r.long); inside = omega (arith, r.long, r.inside) })

  large-well-read : (words : List Word) (less run : ℕ) → T (no_longer 8 words) → T (byte_values words) → less ≤ 256 → run < 64 → n ≤ 20 → WellRead m (large_of words less run n l)
  unfolding large_of
  large-well-read words less run t u below s h =
      after-well-read m (code_of words l) l _ (λ x k e.
      let c = code_inside words l x k e in
      let d = leb→le k 8 (code-tested (λ v n. leb n 8) words l x k t e) in
      let v = leb→le x 255 (code-tested (λ v n. leb v 255) words l x k u e) in
      record { near = s; small = less-within x less (omega arith) below; few = omega arith; inside = omega arith })

level-well-read : (m n run : ℕ) {l : List ℕ} → Binary l → n + length l ≤ m → run < 64 → n ≤ 12 → WellRead m (level_of run n l)
unfolding level_of
level-well-read m n run {l} p left s h =
    after-well-read m (field_of 8 l) l _ (λ x k e.
    let r = field-read 8 x k p e in
    let on : n + k + length (drop k l) ≤ m = rw length-drop (omega (arith, r.long, r.inside)) in
    let at : n + k ≤ 20 = omega (arith, r.long) in
    by-test (WellRead m) (eqb x 0) _ _
    (λ t. large-well-read m (n + k) (binary-drop k p) on large_positive 0 run positive-eight positive-bytes (omega arith) s at)
    (λ t. by-test (WellRead m) (eqb x 128) _ _
    (λ u. large-well-read m (n + k) (binary-drop k p) on large_negative 256 run negative-eight negative-bytes (omega arith) s at)
    (λ u. record {
      near = s;
      small = within-cond (ltb x 128) (below-within x (omega (arith, r.small))) (less-within x 256 (omega (arith, r.small)) (omega arith));
      few = omega arith;
      inside = omega (arith, r.long, r.inside);
    })))

escaped-well-read : (m n : ℕ) {l : List ℕ} → Binary l → n + length l ≤ m → n ≤ 6 → WellRead m (escaped_of n l)
unfolding escaped_of
escaped-well-read m n {l} p left h =
    after-well-read m (field_of 6 l) l _ (λ run k e.
    let r = field-read 6 run k p e in
    let on : n + k + length (drop k l) ≤ m = rw length-drop (omega (arith, r.long, r.inside)) in
    level-well-read m (n + k) run (binary-drop k p) on r.small (omega (arith, r.long)))

coefficient-well-read : (words : List Word) {b : List ℕ} → Binary b → T (every_word sized words) → T (every_word escape-length words) → WellRead (length b) (coefficient_code_of words b)
unfolding coefficient_code_of finished_of
coefficient-well-read words {b} p t s =
    after-well-read (length b) (code_of words b) b _ (λ v n e.
    let size = code-tested sized words b v n t e in
    let long = sized-length v n size in
    let in-bits = code_inside words b v n e in
    let on : n + length (drop n b) ≤ length b = rw length-drop (omega arith) in
    by-test (WellRead (length b)) (eqb v end_of_block) _ _
    (λ q. record { few = omega arith; inside = in-bits })
    (λ q. by-test (WellRead (length b)) (eqb v coefficient_escape) _ _
    (λ u. escaped-well-read (length b) n (binary-drop n p) on (omega (arith, six v n (code-tested escape-length words b v n s e) (eqb-true v coefficient_escape u))))
    (λ u. signed-well-read (length b) n (binary-drop n p) on v (sized-value v n size) (omega arith))))

pub first-coefficient-well-read : {b : List ℕ} → Binary b → WellRead (length b) (coefficient_code_of first_coefficients b)
first-coefficient-well-read p = coefficient-well-read first_coefficients p first-sized first-escapes

pub next-coefficient-well-read : {b : List ℕ} → Binary b → WellRead (length b) (coefficient_code_of next_coefficients b)
next-coefficient-well-read p = coefficient-well-read next_coefficients p (row_sized 13 (omega arith)) escapes-have-six
