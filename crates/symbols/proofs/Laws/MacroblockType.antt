-- The code's bit masks of legal types agree with the lists. Assumes nothing.
use mathlib.Core.Path.{◌≡◌, refl, sym}
use mathlib.Core.Bool.{Bool, true, false, cond, beq}
use mathlib.Core.List.{List, [], ◌∷◌}
use Prim.Native.Nat.{ℕ, suc, ◌/◌, ◌%◌, ◌^◌, ◌<◌, ◌≤◌}
use native.Mathlib.Omega.{arith}
use lib.Dec.{T, leb, eqb, leb→le}
use lib.ListN.{length, get_or}
use borrow.Author.Tests.{ne_eqb}
use Rattle.math.specs.Test.{all_below}
use Rattle.math.proofs.Test.{at-below}
use Rattle.symbols.specs.Header.{type_i, type_p}
use Rattle.symbols.specs.MacroblockType.{among, types_of_i, types_of_p, types_of_b, legal_type}

none_above : (n : ℕ) (l : List ℕ) → T (all_below (length l) (λ k. leb (get_or l k 0) 31)) → 31 < n → among n l ≡ false
none_above n l t h = go l (λ k b. leb→le (get_or l k 0) 31 (at-below (length l) (λ k. leb (get_or l k 0) 31) t k b))
  where
    go : (l : List ℕ) → ((k : ℕ) → k < length l → get_or l k 0 ≤ 31) → among n l ≡ false
    go [] f = refl
    go (m ∷ l) f = rw (ne_eqb n m (λ e. let small : m ≤ 31 = f 0 (omega arith) in omega arith)) (go l (λ k b. f (suc k) (omega arith)))

pub types-above : (coding n : ℕ) → 31 < n → false ≡ legal_type coding n
unfolding legal_type all_below
types-above coding n h = go (eqb coding type_i) (eqb coding type_p)
  where
    go : (i p : Bool) → false ≡ among n (cond i types_of_i (cond p types_of_p types_of_b))
    go true p = sym (none_above n types_of_i tt h)
    go false true = sym (none_above n types_of_p tt h)
    go false false = sym (none_above n types_of_b tt h)

-- one computed test over the first 32 types
bits : (types : ℕ) (l : List ℕ) → T (all_below 32 (λ n. beq (eqb (types / 2 ^ n % 2) 1) (among n l))) → (n : ℕ) → n ≤ 31 → eqb (types / 2 ^ n % 2) 1 ≡ among n l
bits types l t n h = same (eqb (types / 2 ^ n % 2) 1) (among n l) (at-below 32 (λ n. beq (eqb (types / 2 ^ n % 2) 1) (among n l)) t n (omega arith))
  where
    same : (a b : Bool) → T (beq a b) → a ≡ b
    same true true t = refl
    same true false t = absurd t
    same false true t = absurd t
    same false false t = refl

pub types-of-I : (n : ℕ) → n ≤ 31 → eqb (196608 / 2 ^ n % 2) 1 ≡ among n types_of_i
unfolding all_below
types-of-I = bits 196608 types_of_i tt

pub types-of-P : (n : ℕ) → n ≤ 31 → eqb (200452 / 2 ^ n % 2) 1 ≡ among n types_of_p
unfolding all_below
types-of-P = bits 200452 types_of_p tt

pub types-of-B : (n : ℕ) → n ≤ 31 → eqb (261204 / 2 ^ n % 2) 1 ≡ among n types_of_b
unfolding all_below
types-of-B = bits 261204 types_of_b tt
