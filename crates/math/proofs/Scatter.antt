-- Laws of `scatter`: one more store, indices that no store writes, and the value a store leaves. Assumes nothing.
use mathlib.Core.Path.{◌≡◌, refl, sym, ap, ◌∙◌}
use mathlib.Core.List.{List, ◌++◌}
use Prim.Native.Nat.{ℕ, zero, suc, ◌+◌, ◌-◌, ◌≤◌, ◌<◌}
use native.Mathlib.Decide.{ℕ_discrete, dec_lt}
use native.Mathlib.Numerals.{add-one}
use native.Mathlib.Omega.{arith}
use lib.ListN.{length, get_or, set, take, drop, length-set}
use lib.Seq.{ext_get_or, get_or-set_same, get_or-set_other}
use borrow.Rule.Slice.PartMut.{put_mid, post_of}
use Rattle.std.proofs.lemmas.List.{length-take-le, length-take, get_or-append_right, get_or-take, get_or-drop}
use Rattle.std.proofs.Math.ListN.{length-append, length-drop, get_or-append}
use Rattle.math.specs.Scatter.{scatter}

module _ {A : Type 0} (index : ℕ → ℕ) (value : ℕ → A) where
  pub scatter-length : (n : ℕ) (l : List A) → length (scatter index value n l) ≡ length l
  unfolding scatter
  scatter-length zero l = refl
  scatter-length (suc n) l = simp length-set (scatter-length n l)

  pub scatter-none : (l : List A) → scatter index value 0 l ≡ l
  unfolding scatter
  scatter-none l = refl

  -- the same count, written differently
  pub scatter-to : (n m : ℕ) (l : List A) → n ≡ m → scatter index value n l ≡ scatter index value m l
  scatter-to n m l e = ap (λ (k : ℕ). scatter index value k l) e

  -- one more store, as in a loop's step
  pub scatter-more : (n : ℕ) (l : List A) → set (scatter index value n l) (index n) (value n) ≡ scatter index value (n + 1) l
  unfolding scatter
  scatter-more n l = rw add-one

  -- the same, with the current and the next count written differently
  pub scatter-next : (n m : ℕ) (l p : List A) → p ≡ scatter index value n l → n + 1 ≡ m → set p (index n) (value n) ≡ scatter index value m l
  scatter-next n m l p e h =
      ap (λ (q : List A). set q (index n) (value n)) e ∙ scatter-more n l ∙ scatter-to (n + 1) m l h

  -- an index that none of the first n stores writes keeps its value
  pub scatter-other : (n : ℕ) (l : List A) (i : ℕ) (d : A) → ((k : ℕ) → k < n → i ≡ index k → ⊥) → get_or (scatter index value n l) i d ≡ get_or l i d
  unfolding scatter
  scatter-other zero l i d h = refl
  scatter-other (suc n) l i d h =
      get_or-set_other (scatter index value n l) (index n) i (value n) d (λ e. h n (omega arith) e)
      ∙ scatter-other n l i d (λ k b. h k (omega arith))

  -- the index of store k holds its value, if no later store writes there
  pub scatter-at : (n : ℕ) (l : List A) (k : ℕ) (d : A) → k < n → index k < length l → ((j : ℕ) → k < j → j < n → index k ≡ index j → ⊥) → get_or (scatter index value n l) (index k) d ≡ value k
  unfolding scatter
  scatter-at zero l k d b fit once = absurd (omega arith)
  scatter-at (suc n) l k d b fit once = elim (ℕ_discrete k n) [
    | yes e ↦ rw e (get_or-set_same (scatter index value n l) (index n) (value n) d (rw scatter-length (rw e at fit)))
    | no ne ↦ get_or-set_other (scatter index value n l) (index n) (index k) (value n) d (λ e. once n (omega arith) (omega arith) e)
        ∙ scatter-at n l k d (omega arith) fit (λ j h g. once j h (omega arith))
  ]

pub scatter-ext : {A : Type 0} (index : ℕ → ℕ) (f g : ℕ → A) (n : ℕ) (l : List A) → ((k : ℕ) → k < n → f k ≡ g k) → scatter index f n l ≡ scatter index g n l
unfolding scatter
scatter-ext index f g zero l h = refl
scatter-ext index f g (suc n) l h = λ i. set (scatter-ext index f g n l (λ k b. h k (omega arith)) i) (index n) (h n (omega arith) i)

-- the elements of a list written over a part of another are stored one by one
pub part-stored : {A : Type 0} (d : A) (a k : ℕ) (xs ys : List A) → length ys ≡ k → a + k ≤ length xs → put_mid a k xs ys ≡ scatter (λ j. a + j) (λ j. get_or ys j d) k xs
part-stored {A} d a k xs ys long fit = ext_get_or d (put_mid a k xs ys) (scatter (λ j. a + j) value k xs) (same-length ∙ sym (scatter-length (λ j. a + j) value k xs)) (λ i h. element i (dec_lt i a) (dec_lt i (a + k)))
  where
    value : ℕ → A
    value j = get_or ys j d

    front : length (take a xs) ≡ a
    front = length-take-le a xs (omega arith)

    same-length : length (put_mid a k xs ys) ≡ length xs
    same-length = simp (length-append, length-take, length-drop) (omega arith)

    element : (i : ℕ) → Dec (i < a) → Dec (i < a + k) → get_or (put_mid a k xs ys) i d ≡ get_or (scatter (λ j. a + j) value k xs) i d
    element i (yes before) within =
        get_or-append (take a xs) (ys ++ post_of a k xs) d i (omega (arith, front)) ∙ get_or-take a xs i d before
        ∙ sym (scatter-other (λ j. a + j) value k xs i d (λ j b e. omega arith))
    element i (no past) (yes within) =
        let index : a + (i - a) ≡ i = omega arith in
        get_or-append_right (take a xs) (ys ++ post_of a k xs) a i d front (omega arith) ∙ get_or-append ys (post_of a k xs) d (i - a) (omega (arith, long))
        ∙ sym (rw index at (scatter-at (λ j. a + j) value k xs (i - a) d (omega arith) (omega arith) (λ j b c e. omega arith)))
    element i (no past) (no beyond) =
        let index : a + (k + (i - a - k)) ≡ i = omega arith in
        get_or-append_right (take a xs) (ys ++ post_of a k xs) a i d front (omega arith)
        ∙ get_or-append_right ys (post_of a k xs) k (i - a) d long (omega arith)
        ∙ get_or-drop k (drop a xs) (i - a - k) d ∙ get_or-drop a xs (k + (i - a - k)) d ∙ ap (λ (j : ℕ). get_or xs j d) index
        ∙ sym (scatter-other (λ j. a + j) value k xs i d (λ j b e. omega arith))
