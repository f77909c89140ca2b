-- Laws of a limited pel, and of `side` by `side` pels put into a plane. Assumes nothing.
use mathlib.Core.Path.{◌≡◌, ap, ◌∙◌, sym}
use mathlib.Core.Bool.{Bool, ◌&&◌, cond}
use mathlib.Core.List.{List}
use Prim.Native.Nat.{ℕ, ◌+◌, ◌-◌, ◌*◌, ◌/◌, ◌%◌, ◌<◌, ◌≤◌}
use native.Mathlib.Nat.{mul-le-mul_left, mul_comm, mod-lt, div-lt_iff_lt-mul, div-add-mod'}
use native.Mathlib.Omega.{arith}
use native.Mathlib.Decide.{dec_lt, dec_le}
use borrow.Author.Tests.{lt-ltb, le-ltb, le-leb, lt-leb}
use lib.Arith.{digits_lt, digits_div, digits_mod}
use lib.Dec.{ltb, leb}
use lib.ListN.{length, get_or}
use lib.Seq.{ext_get_or}
use Rattle.math.specs.Tab.{tab}
use Rattle.math.proofs.Tab.{tab-length, tab-at}
use Rattle.math.proofs.Scatter.{scatter-length, scatter-at, scatter-other}
use Rattle.decode_macroblock.specs.Pel.{pel_index, with_pels}

-- pel k is inside a plane of n pels, and so is every number on the way to its index
pub record CellFits (side stride x y k n : ℕ) : Type 0 where
  pub line : y + k / side < n
  pub start : (y + k / side) * stride < n
  pub inside : pel_index side stride x y k < n

pub with-pels-length : (side stride x y : ℕ) (square plane : List ℕ) → length (with_pels side stride x y square plane) ≡ length plane
with-pels-length side stride x y square plane = scatter-length (pel_index side stride x y) (λ k. get_or square k 0) (side * side) plane

-- whether index i of a plane is among the `side` by `side` pels at column x of line y
unfoldable pub in_pels : ℕ → ℕ → ℕ → ℕ → ℕ → Bool
in_pels side stride x y i = (leb x (i % stride) && ltb (i % stride) (x + side)) && (leb y (i / stride) && ltb (i / stride) (y + side))

-- which of these pels is at index i of the plane
abbrev pub pel_in : ℕ → ℕ → ℕ → ℕ → ℕ → ℕ
pel_in side stride x y i = side * (i / stride - y) + (i % stride - x)

-- the plane with the pels put into it, index by index: the new pel where there is one, elsewhere the old one
unfoldable pub painted : ℕ → ℕ → ℕ → ℕ → List ℕ → List ℕ → List ℕ
painted side stride x y square plane =
    tab (length plane) (λ i. cond (in_pels side stride x y i) (get_or square (pel_in side stride x y i) 0) (get_or plane i 0))

module _ (side stride x y : ℕ) (some : 0 < side) (across : x + side ≤ stride) where
  row_below : (k : ℕ) → k < side * side → k / side < side
  row_below k h = (div-lt_iff_lt-mul some).1 h

  pub cell-fits : (k n : ℕ) → k < side * side → (y + side) * stride ≤ n → CellFits side stride x y k n
  unfolding pel_index
  cell-fits k n b down =
      let i : (y + k / side) * stride + (x + k % side) < (y + side) * stride = digits_lt (omega (arith, row_below k b)) (omega (arith, mod-lt k some)) in
      let r : (y + k / side) * 1 ≤ (y + k / side) * stride = mul-le-mul_left (y + k / side) (omega arith) in
      record { line = omega arith; start = omega arith; inside = omega arith }

  pub cell-line : (k : ℕ) → pel_index side stride x y k / stride ≡ y + k / side
  unfolding pel_index
  cell-line k = digits_div (y + k / side) (omega (arith, mod-lt k some))

  pub cell-column : (k : ℕ) → pel_index side stride x y k % stride ≡ x + k % side
  unfolding pel_index
  cell-column k = digits_mod (y + k / side) (omega (arith, mod-lt k some))

  -- no two pels share an index
  pub cell-once : (j k : ℕ) → pel_index side stride x y k ≡ pel_index side stride x y j → k ≡ j
  cell-once j k e =
      let line : y + k / side ≡ y + j / side = sym (cell-line k) ∙ ap (λ (m : ℕ). m / stride) e ∙ cell-line j in
      let column : x + k % side ≡ x + j % side = sym (cell-column k) ∙ ap (λ (m : ℕ). m % stride) e ∙ cell-column j in
      let row : k / side ≡ j / side = omega arith in
      let location : k % side ≡ j % side = omega arith in
      sym (div-add-mod' k side) ∙ rw (row, location) (div-add-mod' j side)

  -- an index among the pels belongs to one of them
  pel-below : (i : ℕ) → i % stride < x + side → i / stride < y + side → pel_in side stride x y i < side * side
  pel-below i right bottom = rw (mul_comm side (i / stride - y)) (digits_lt (omega arith) (omega arith))

  cell-of : (i : ℕ) → x ≤ i % stride → i % stride < x + side → y ≤ i / stride → i / stride < y + side → pel_index side stride x y (pel_in side stride x y i) ≡ i
  unfolding pel_index
  cell-of i left right top bottom =
      let row : pel_in side stride x y i / side ≡ i / stride - y = rw (mul_comm side (i / stride - y)) (digits_div (i / stride - y) (omega arith)) in
      let location : pel_in side stride x y i % side ≡ i % stride - x = rw (mul_comm side (i / stride - y)) (digits_mod (i / stride - y) (omega arith)) in
      let line : y + pel_in side stride x y i / side ≡ i / stride = omega arith in
      let column : x + pel_in side stride x y i % side ≡ i % stride = omega arith in
      rw (line, column) (div-add-mod' i stride)

  module _ (square plane : List ℕ) where
    -- any other index keeps its pel
    pub with-pels-out : (i : ℕ) → (x ≤ i % stride → i % stride < x + side → y ≤ i / stride → i / stride < y + side → ⊥) → get_or (with_pels side stride x y square plane) i 0 ≡ get_or plane i 0
    with-pels-out i out = scatter-other (pel_index side stride x y) (λ k. get_or square k 0) (side * side) plane i 0
        (λ k h e.
        let line : i / stride ≡ y + k / side = ap (λ (m : ℕ). m / stride) e ∙ cell-line k in
        let column : i % stride ≡ x + k % side = ap (λ (m : ℕ). m % stride) e ∙ cell-column k in
        out (omega arith) (omega (arith, mod-lt k some)) (omega arith) (omega (arith, row_below k h)))

    module _ (down : (y + side) * stride ≤ length plane) where
      -- each index among the pels has the new pel
      with-pels-at : (k : ℕ) → k < side * side → get_or (with_pels side stride x y square plane) (pel_index side stride x y k) 0 ≡ get_or square k 0
      with-pels-at k h = scatter-at (pel_index side stride x y) (λ k. get_or square k 0) (side * side) plane k 0 h (cell-fits k (length plane) h down).inside (λ j a b e. let s = cell-once j k e in omega arith)

      pub with-pels-in : (i : ℕ) → x ≤ i % stride → i % stride < x + side → y ≤ i / stride → i / stride < y + side → get_or (with_pels side stride x y square plane) i 0 ≡ get_or square (pel_in side stride x y i) 0
      with-pels-in i left right top bottom =
          ap (λ (m : ℕ). get_or (with_pels side stride x y square plane) m 0) (sym (cell-of i left right top bottom))
          ∙ with-pels-at (pel_in side stride x y i) (pel-below i right bottom)

      painted-at : (i : ℕ) → get_or (with_pels side stride x y square plane) i 0 ≡ cond (in_pels side stride x y i) (get_or square (pel_in side stride x y i) 0) (get_or plane i 0)
      unfolding in_pels
      painted-at i = elim (dec_le x (i % stride)) [
        | no p ↦ rw (lt-leb x (i % stride) (omega arith)) (with-pels-out i (λ l r t b. p l))
        | yes p ↦ rw (le-leb x (i % stride) p) (elim (dec_lt (i % stride) (x + side)) [
          | no q ↦ rw (le-ltb (i % stride) (x + side) (omega arith)) (with-pels-out i (λ l r t b. q r))
          | yes q ↦ rw (lt-ltb (i % stride) (x + side) q) (elim (dec_le y (i / stride)) [
            | no r ↦ rw (lt-leb y (i / stride) (omega arith)) (with-pels-out i (λ l s t b. r t))
            | yes r ↦ rw (le-leb y (i / stride) r) (elim (dec_lt (i / stride) (y + side)) [
              | no t ↦ rw (le-ltb (i / stride) (y + side) (omega arith)) (with-pels-out i (λ l s u b. t b))
              | yes t ↦ rw (lt-ltb (i / stride) (y + side) t) (with-pels-in i p q r t)
            ])
          ])
        ])
      ]

      pub with-pels-painted : with_pels side stride x y square plane ≡ painted side stride x y square plane
      unfolding painted
      with-pels-painted = ext_get_or 0 _ _ (with-pels-length side stride x y square plane ∙ sym (tab-length _ _))
          (λ i h. painted-at i ∙ sym (tab-at _ _ i 0 (rw scatter-length at h)))

-- pel i of line j
pub line-index : (side stride x y j i : ℕ) → i < side → (y + j) * stride + x + i ≡ pel_index side stride x y (j * side + i)
unfolding pel_index
line-index side stride x y j i h = rw (digits_div j h, digits_mod j h) (omega arith)
