-- A slice's start code, read from a window. Assumes nothing.
use mathlib.Core.Path.{◌≡◌, refl, ap, ◌∙◌, sym}
use mathlib.Core.Bool.{true, false, cond}
use mathlib.Core.List.{List, []}
use Prim.Native.Nat.{ℕ, ◌+◌, ◌-◌, ◌/◌, ◌%◌, ◌^◌, ◌<◌, ◌≤◌, zero-le, suc-le-suc}
use native.Mathlib.Nat.{div-one, div-eq_of_lt, lt_of_lt_of_le, lt_of_le_of_lt, pow-le-pow_right}
use native.Mathlib.Omega.{arith}
use mathlib.Core.Logic.{◌⊎◌, inl, inr}
use lib.Dec.{T, eqb, ltb, eqb→eq}
use lib.ListN.{length, take, drop, length-drop}
use lib.Seq.{take_all}
use borrow.Author.Tests.{eqb-true, eqb-false, eq-eqb, ne_eqb, ltb-false, lt-ltb, le-ltb}
use Rattle.std.specs.Prelude.{Result, Ok, Err}
use Rattle.math.proofs.Test.{refuted}
use Rattle.mpeg1_bits.specs.declared.BitPosition.{BitPosition}
use Rattle.mpeg1_bits.specs.declared.Window.{Window}
use Rattle.mpeg1_bits.specs.Bits.{bits_of, bits_in, bits_from, window_of}
use Rattle.mpeg1_bits.proofs.Number.{Binary, binary-drop, bits-length, bits-take, bits-same}
use Rattle.mpeg1_bits.proofs.Rest.{window-take, window-length, window-bits, rest-binary}
use Rattle.mpeg1_tables.specs.declared.code.Code.{Code}
use Rattle.mpeg1_tables.specs.declared.code.CodeError.{CodeError}
use Rattle.mpeg1_tables.specs.declared.code.CodeError.TheVariants.{NoCode, Truncated}
use Rattle.mpeg1_tables.specs.Code.{Word, word, digits_of, is_prefix, found, code_of, field_of, after_code}
use Rattle.mpeg1_tables.proofs.Laws.Prefix.{case, prefix-length, prefix-whole, code-truncated, code-later, code-take, code-tested, every_word, no_longer, prefix-is, found-same}
use Rattle.mpeg1_tables.proofs.Laws.Product.{prefix-of-take}
use Rattle.mpeg1_vlc.specs.SliceStart.{start_prefix, slice_start_of}
use Rattle.mpeg1_vlc.proofs.Laws.Range.{field-read}
use Rattle.mpeg1_vlc.proofs.Laws.Field.{field-short, field-value, field-take, front-small, after_same, drop_of_take, not_found}

start-found : code_of start_prefix (bits_of 24 1) ≡ found 0 24
unfolding code_of start_prefix word digits_of is_prefix bits_of
start-found = refl

-- the start code prefix is the only word of its list
start : Word
start = word 24 000000000000000000000001 0

start-digits : start.bits ≡ bits_of 24 1
unfolding start word digits_of bits_of
start-digits = refl

start-alone : (b : List ℕ) → is_prefix (bits_of 24 1) b ≡ false → is_prefix b (bits_of 24 1) ≡ false → code_of start_prefix b ≡ Err NoCode
unfolding start_prefix start code_of
start-alone b p q = code-later start [] b (rw start-digits p) (rw start-digits q)

start-begun : (b : List ℕ) → is_prefix (bits_of 24 1) b ≡ false → is_prefix b (bits_of 24 1) ≡ true → code_of start_prefix b ≡ Err Truncated
unfolding start_prefix start
start-begun b p q = code-truncated start [] b (rw start-digits p) (rw start-digits q)

-- reading the prefix from 24 bits or more, and from fewer
start-whole : (v : ℕ) → v < 2 ^ 24 → code_of start_prefix (bits_of 24 v) ≡ cond (eqb v 1) (found 0 24) (Err NoCode)
start-whole v h =
    case (eqb v 1)
    (λ e. rw (e, eqb-true v 1 e) start-found)
    (λ e. rw e (start-alone (bits_of 24 v) (refuted (λ g. other e g)) (refuted (λ g. other e (prefix-whole (bits_of 24 v) (bits_of 24 1) g (omega (arith, bits-length 24 1, bits-length 24 v)))))))
  where
    other : eqb v 1 ≡ false → is_prefix (bits_of 24 1) (bits_of 24 v) ≡ true → ⊥
    other e g = eqb-false v 1 e (sym (bits-same 24 1 v (omega arith) h (prefix-is (bits_of 24 1) (bits_of 24 v) g ∙ ap (λ (n : ℕ). take n (bits_of 24 v)) (bits-length 24 1) ∙ take_all 24 (bits_of 24 v) (omega (arith, bits-length 24 v)))))

start-part : (c v : ℕ) → c < 24 → v < 2 ^ c → code_of start_prefix (bits_of c v) ≡ cond (eqb v 0) (Err Truncated) (Err NoCode)
start-part c v h g =
    case (eqb v 0)
    (λ e. rw e (start-begun (bits_of c v) longer (rw (eqb-true v 0 e, ← front) (prefix-of-take c (bits_of 24 1)))))
    (λ e. rw e (start-alone (bits_of c v) longer (refuted (λ k. eqb-false v 0 e (bits-same c v 0 g (lt_of_le_of_lt zero-le g) (prefix-is (bits_of c v) (bits_of 24 1) k ∙ ap (λ (n : ℕ). take n (bits_of 24 1)) (bits-length c v) ∙ front))))))
  where
    longer : is_prefix (bits_of 24 1) (bits_of c v) ≡ false
    longer = refuted (λ k. omega (arith, prefix-length (bits_of 24 1) (bits_of c v) k, bits-length 24 1, bits-length c v, h))

    whole : 24 ≡ c + (24 - c)
    whole = omega (arith, h)

    small : 1 < 2 ^ (24 - c)
    small = lt_of_lt_of_le (suc-le-suc (suc-le-suc zero-le)) (pow-le-pow_right {n = 2} (suc-le-suc zero-le) {i = 1} {j = 24 - c} (omega (arith, h)))

    front : take c (bits_of 24 1) ≡ bits_of c 0
    front = ap (λ (n : ℕ). take c (bits_of n 1)) whole ∙ bits-take c (24 - c) 1 ∙ ap (bits_of c) (div-eq_of_lt small)

prefix-exactly-24 : T (every_word (λ v n. eqb n 24) start_prefix)
unfolding every_word start_prefix word digits_of
prefix-exactly-24 = tt

prefix-length-24 : T (no_longer 24 start_prefix)
unfolding every_word start_prefix word digits_of
prefix-length-24 = tt

prefix-length-32 : T (no_longer 32 start_prefix)
unfolding every_word start_prefix word digits_of
prefix-length-32 = tt

module _ (height : ℕ) (next : Window) where
  -- with fewer than 24 bits, only zeros can still become the prefix
  begun-code : next.count < 24 → next.bits < 4294967296 → code_of start_prefix (bits_in next) ≡ cond (eqb (next.bits / 2 ^ (32 - next.count)) 0) (Err Truncated) (Err NoCode)
  begun-code h fits =
      ap (code_of start_prefix) (sym (take_all next.count (bits_in next) (omega (arith, window-length next most))) ∙ window-take next next.count (omega arith) most)
      ∙ start-part next.count (next.bits / 2 ^ (32 - next.count)) h (front-small next.bits next.count fits most)
    where
      most : next.count ≤ 32
      most = omega (arith, h)

  pub begun-short : next.count < 24 → next.bits < 4294967296 → next.bits / 2 ^ (32 - next.count) ≡ 0 → slice_start_of height (bits_in next) ≡ Err Truncated
  unfolding slice_start_of
  begun-short h fits e = rw (begun-code h fits, eq-eqb _ _ e)

  pub begun-none : next.count < 24 → next.bits < 4294967296 → (next.bits / 2 ^ (32 - next.count) ≡ 0 → ⊥) → slice_start_of height (bits_in next) ≡ Err NoCode
  unfolding slice_start_of
  begun-none h fits e = rw (begun-code h fits, ne_eqb _ _ e)

  module _ (enough : 24 ≤ next.count) (most : next.count ≤ 32) (fits : next.bits < 4294967296) where
    prefix-code : code_of start_prefix (bits_in next) ≡ cond (eqb (next.bits / 256) 1) (found 0 24) (Err NoCode)
    prefix-code =
        sym (code-take start_prefix 24 (bits_in next) prefix-length-24)
        ∙ ap (code_of start_prefix) (window-take next 24 enough most)
        ∙ start-whole (next.bits / 256) (omega (arith, fits))

    pub start_none : (next.bits / 256 ≡ 1 → ⊥) → slice_start_of height (bits_in next) ≡ Err NoCode
    unfolding slice_start_of
    start_none e = rw (prefix-code, ne_eqb _ _ e)

    pub start-short : next.bits / 256 ≡ 1 → next.count < 32 → slice_start_of height (bits_in next) ≡ Err Truncated
    unfolding slice_start_of
    start-short e h = rw (prefix-code, eq-eqb _ _ e, field-short next most 24 8 enough h)

    pub start-row : next.bits / 256 ≡ 1 → 32 ≤ next.count → slice_start_of height (bits_in next) ≡ cond (ltb (next.bits % 256) 1) (Err NoCode) (cond (ltb height (next.bits % 256)) (Err NoCode) (found (next.bits % 256) 32))
    unfolding slice_start_of
    start-row e h = rw (prefix-code, eq-eqb _ _ e, field-value next most 24 8 0 h refl, div-one next.bits)

    pub row_outside : next.bits / 256 ≡ 1 → 32 ≤ next.count → (next.bits % 256 < 1) ⊎ (height < next.bits % 256) → slice_start_of height (bits_in next) ≡ Err NoCode
    row_outside e h (inl below) = start-row e h ∙ rw (lt-ltb _ _ below)
    row_outside e h (inr above) = start-row e h ∙ rw (le-ltb (next.bits % 256) 1 (omega (arith, above)), lt-ltb _ _ above)

    pub row-inside : next.bits / 256 ≡ 1 → 32 ≤ next.count → 1 ≤ next.bits % 256 → next.bits % 256 ≤ height → slice_start_of height (bits_in next) ≡ found (next.bits % 256) 32
    row-inside e h below above = start-row e h ∙ rw (le-ltb _ _ below, le-ltb _ _ above)

-- the next 32 bits decide the start code
start-take : (height : ℕ) (b : List ℕ) → slice_start_of height (take 32 b) ≡ slice_start_of height b
unfolding slice_start_of
start-take height b = rw (code-take start_prefix 32 b prefix-length-32) (after_same (code_of start_prefix b) (take 32 b) b _ (λ v n e. rest n (prefix-24 v n e)))
  where
    row : ℕ → ℕ → ℕ → List ℕ → Result Code CodeError
    row n r m last = cond (ltb r 1) (Err NoCode) (cond (ltb height r) (Err NoCode) (found r (n + m)))

    prefix-24 : (v n : ℕ) → code_of start_prefix b ≡ found v n → n ≡ 24
    prefix-24 v n e = eqb→eq n 24 (code-tested (λ v n. eqb n 24) start_prefix b v n prefix-exactly-24 e)

    rest : (n : ℕ) → n ≡ 24 → after_code (field_of 8 (drop n (take 32 b))) (drop n (take 32 b)) (row n) ≡ after_code (field_of 8 (drop n b)) (drop n b) (row n)
    rest n e =
        ap (λ (l : List ℕ). after_code (field_of 8 l) l (row n)) (drop_of_take n 32 b (omega (arith, e)))
        ∙ ap (λ (c : Result Code CodeError). after_code c (take (32 - n) (drop n b)) (row n)) (field-take 8 (32 - n) (drop n b) (omega (arith, e)))
        ∙ after_same (field_of 8 (drop n b)) (take (32 - n) (drop n b)) (drop n b) (row n) (λ r m g. refl)

pub rest-start : (height : ℕ) (bytes : List ℕ) (p : BitPosition) (next : Window) → next ≡ window_of (bits_from bytes p) → slice_start_of height (bits_in next) ≡ slice_start_of height (bits_from bytes p)
rest-start height bytes p next e =
    ap (λ (w : Window). slice_start_of height (bits_in w)) e
    ∙ ap (slice_start_of height) (window-bits (rest-binary bytes p))
    ∙ start-take height (bits_from bytes p)

-- ---- bounds on a start code that was read
pub record StartRead (height : ℕ) (b : List ℕ) (row n : ℕ) : Type 0 where
  pub least : 1 ≤ row
  pub most : row ≤ height
  pub long : n ≡ 32
  pub inside : 32 ≤ length b

-- a code of two parts has a first part
after-value : {A : Type 0} (c : Result Code CodeError) (b : List ℕ) (f : ℕ → ℕ → List ℕ → Result Code CodeError) (r n : ℕ) → after_code c b f ≡ found r n → ((v k : ℕ) → c ≡ found v k → f v k (drop k b) ≡ found r n → A) → A
after-value (Ok code) b f r n e g = g code.value code.length refl e
after-value (Err error) b f r n e g = absurd (not_found e)

pub start-read : (height : ℕ) {b : List ℕ} (row n : ℕ) → Binary b → slice_start_of height b ≡ found row n → StartRead height b row n
unfolding slice_start_of
start-read height {b} row n p e =
    after-value (code_of start_prefix b) b _ row n e (λ v k first rest.
    after-value (field_of 8 (drop k b)) (drop k b) _ row n rest (λ r m second last.
    let prefix = eqb→eq k 24 (code-tested (λ v n. eqb n 24) start_prefix b v k prefix-exactly-24 first) in
    let field = field-read 8 r m (binary-drop k p) second in
    let size = rw length-drop at field.inside in
    case (ltb r 1)
    (λ t. absurd (not_found (rw t at last)))
    (λ t. case (ltb height r)
    (λ u. absurd (not_found (rw (t, u) at last)))
    (λ u.
    let same : found r (k + m) ≡ found row n = rw (t, u) at last in
    let parts = found-same same in
    let value : r ≡ row = parts.0 in
    let count : k + m ≡ n = parts.1 in
    record {
      least = omega (arith, value, ltb-false r 1 t);
      most = omega (arith, value, ltb-false height r u);
      long = omega (arith, count, prefix, field.long);
      inside = omega (arith, prefix, size);
    }))))
