-- Fixed-length numbers read from a window. Assumes nothing.
use mathlib.Core.Path.{◌≡◌, refl, ap, ◌∙◌, sym, subst}
use mathlib.Core.List.{List}
use Prim.Native.Nat.{ℕ, ◌+◌, ◌*◌, ◌-◌, ◌/◌, ◌%◌, ◌^◌, ◌<◌, ◌≤◌, zero-le, suc-le-suc}
use native.Mathlib.Decide.{dec_le}
use native.Mathlib.Nat.{le-min, min-le_right, mod-eq_of_lt, div-lt_iff_lt-mul, lt_of_lt_of_le, pow-le-pow_right}
use native.Mathlib.Omega.{arith}
use lib.Dec.{ltb}
use lib.ListN.{length, take, drop, length-take, length-drop}
use lib.Pow.{pow-add, pow_pos}
use borrow.Author.Tests.{lt-ltb, le-ltb}
use Rattle.std.specs.Prelude.{Result, Ok, Err}
use Rattle.mpeg1_bits.specs.declared.Window.{Window}
use Rattle.mpeg1_bits.specs.declared.BitPosition.{BitPosition}
use Rattle.mpeg1_bits.specs.Bits.{leading_number, bits_in, bits_from, window_of}
use Rattle.mpeg1_bits.proofs.Number.{number-take}
use Rattle.mpeg1_bits.proofs.Rest.{window-length, window-part, window-bits, rest-binary, drop-take}
use Rattle.mpeg1_tables.specs.declared.code.Code.{Code}
use Rattle.mpeg1_tables.specs.declared.code.CodeError.{CodeError}
use Rattle.mpeg1_tables.specs.declared.code.CodeError.TheVariants.{Truncated}
use Rattle.mpeg1_tables.specs.Code.{found, field_of, after_code}
use Rattle.mpeg1_tables.proofs.Laws.Prefix.{case, found-same}

module _ (next : Window) (most : next.count ≤ 32) (from n : ℕ) where
  left : length (drop from (bits_in next)) ≡ next.count - from
  left = length-drop from (bits_in next) ∙ ap (λ (c : ℕ). c - from) (window-length next most)

  pub field-short : from ≤ next.count → next.count < from + n → field_of n (drop from (bits_in next)) ≡ Err Truncated
  unfolding field_of
  field-short h g = rw (lt-ltb _ _ few)
    where
      few : length (drop from (bits_in next)) < n
      few = omega (arith, left, h, g)

  -- a number from bit `from` on, when d bits of the window follow it
  pub field-value : (d : ℕ) → from + n ≤ next.count → from + n + d ≡ 32 → field_of n (drop from (bits_in next)) ≡ found (next.bits / 2 ^ d % 2 ^ n) n
  unfolding field_of
  field-value d h e = rw (le-ltb _ _ enough, window-part next from n h most) (ap (λ (k : ℕ). found (next.bits / 2 ^ k % 2 ^ n) n) past)
    where
      enough : n ≤ length (drop from (bits_in next))
      enough = omega (arith, left, h)

      past : 32 - (from + n) ≡ d
      past = omega (arith, e)

-- bits after the number don't matter
pub field-take : (k m : ℕ) (l : List ℕ) → k ≤ m → field_of k (take m l) ≡ field_of k l
unfolding field_of
field-take k m l h = elim (dec_le k (length l)) [
  | yes g ↦ rw (le-ltb _ _ (enough g), le-ltb _ _ g, number-take k m l h)
  | no g ↦ rw (lt-ltb _ _ (few g), lt-ltb (length l) k (omega arith))
]
  where
    enough : k ≤ length l → k ≤ length (take m l)
    enough g = rw length-take (le-min h g)

    few : (k ≤ length l → ⊥) → length (take m l) < k
    few g = rw length-take (omega (arith, min-le_right m (length l)))

-- the first n bits of a window form a number below 2^n
pub front-small : (v n : ℕ) → v < 4294967296 → n ≤ 32 → v / 2 ^ (32 - n) < 2 ^ n
front-small v n h m = (div-lt_iff_lt-mul (pow_pos (32 - n))).1 (subst (λ (x : ℕ). v < x) whole h)
  where
    both : 32 ≡ n + (32 - n)
    both = omega (arith, m)

    whole : 4294967296 ≡ 2 ^ n * 2 ^ (32 - n)
    whole = ap (λ (x : ℕ). 2 ^ x) both ∙ pow-add 2 n (32 - n)

-- a number read from the window is the number read from all bits left
module _ (bytes : List ℕ) (p : BitPosition) (next : Window) (e : next ≡ window_of (bits_from bytes p)) (n : ℕ) (few : n ≤ 16) where
  whole-field : field_of n (bits_in next) ≡ field_of n (bits_from bytes p)
  whole-field =
      ap (λ (w : Window). field_of n (bits_in w)) e
      ∙ ap (field_of n) (window-bits (rest-binary bytes p))
      ∙ field-take n 32 (bits_from bytes p) (omega (arith, few))

  pub rest-short : next.count ≤ 32 → next.count < n → field_of n (bits_from bytes p) ≡ Err Truncated
  rest-short most h = sym whole-field ∙ field-short next most 0 n (omega arith) (omega (arith, h))

  pub rest-value : next.count ≤ 32 → next.bits < 4294967296 → n ≤ next.count → field_of n (bits_from bytes p) ≡ found (next.bits / 2 ^ (32 - n)) n
  rest-value most fits h =
      sym whole-field ∙ field-value next most 0 n (32 - n) (omega (arith, h)) (omega (arith, few))
      ∙ ap (λ (v : ℕ). found v n) (mod-eq_of_lt (front-small next.bits n fits (omega (arith, few))))

  pub value-fits : next.bits < 4294967296 → next.bits / 2 ^ (32 - n) < 65536
  value-fits fits = lt_of_lt_of_le (front-small next.bits n fits (omega (arith, few))) (pow-le-pow_right {n = 2} (suc-le-suc zero-le) {i = n} {j = 16} few)

-- ---- codes of several parts
-- two readings agree if they agree on what follows the first part
pub after_same : {A : Type 0} (c : Result Code CodeError) (a b : List ℕ) (f : ℕ → ℕ → List ℕ → Result A CodeError) → ((v n : ℕ) → c ≡ found v n → f v n (drop n a) ≡ f v n (drop n b)) → after_code c a f ≡ after_code c b f
after_same (Ok code) a b f h = h code.value code.length refl
after_same (Err error) a b f h = refl

pub drop_of_take : (n m : ℕ) (l : List ℕ) → n ≤ m → drop n (take m l) ≡ take (m - n) (drop n l)
drop_of_take n m l h = ap (λ (k : ℕ). drop n (take k l)) whole ∙ drop-take n (m - n) l
  where
    whole : m ≡ n + (m - n)
    whole = omega (arith, h)

pub not_found : {v n : ℕ} {error : CodeError} → Err error ≡ found v n → ⊥
not_found e = let z : ◌≡◌ {A = ℕ} 0 1 = cc in omega arith

pub field-length : (k : ℕ) (l : List ℕ) (v n : ℕ) → field_of k l ≡ found v n → n ≡ k
unfolding field_of
field-length k l v n e =
    case (ltb (length l) k)
    (λ t. absurd (not_found (rw t at e)))
    (λ t. let good : found (leading_number k l) k ≡ found v n = rw t at e in sym (found-same good).1)
