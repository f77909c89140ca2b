-- Laws of putting a block at its location: its bytes become the block's pels, all others are unchanged. Assumes nothing.
-- Reading the block back gives what was put.
use mathlib.Core.Path.{◌≡◌, ap, ◌∙◌, sym}
use mathlib.Core.Bool.{Bool, true, false, cond}
use mathlib.Core.List.{List, []}
use Prim.Native.Nat.{ℕ, ◌+◌, ◌-◌, ◌*◌, ◌/◌, ◌%◌, ◌≤◌, ◌<◌}
use native.Mathlib.Decide.{dec_lt}
use native.Mathlib.Omega.{arith}
use borrow.Author.Tests.{lt-ltb, le-ltb, le-leb}
use lib.Dec.{ltb}
use lib.ListN.{length, get_or, drop, length-take, length-drop}
use lib.Seq.{get_or-take, get_or-drop}
use Rattle.math.specs.Part.{part}
use Rattle.math.proofs.Part.{part_length, part-before, part_in, part-after}
use Rattle.math.proofs.Tab.{tab-at, tab-ext}
use Rattle.decode_prediction.specs.Prediction.{pel_at, copied_pels}
use Rattle.decode_macroblock.specs.Pel.{pel_index, with_block}
use Rattle.decode_macroblock.proofs.PelLaws.{with-pels-length, cell-fits, cell-line, cell-column, in_pels, pel_in, painted, with-pels-painted}
use Rattle.decode_macroblock.specs.declared.location.BlockLocation.{BlockLocation}
use Rattle.decode_macroblock.specs.Byte.{pel_index_at}
use Rattle.decode_macroblock.specs.Location.{read_at, put_at, put_pels_at}
use Rattle.decode_macroblock.specs.Requires.{BlockInside}
use Rattle.decode_macroblock.specs.Compensation.{plane_of}

-- whether byte i of a picture is in the block at a location
unfoldable pub in_location : BlockLocation → ℕ → Bool
in_location p i = cond (ltb i p.from) false (cond (ltb i p.to) (in_pels 8 p.stride p.x p.y (i - p.from)) false)

module _ (p : BlockLocation) (block l : List ℕ) (holds : BlockInside p (length l)) where
  plane-length : length (plane_of p l) ≡ p.to - p.from
  plane-length = simp (length-take, length-drop) (omega (arith, holds))

  put-length : length (with_block p.stride p.x p.y block (plane_of p l)) ≡ p.to - p.from
  put-length = with-pels-length 8 p.stride p.x p.y block (plane_of p l) ∙ plane-length

  whole : p.from + (p.to - p.from) ≤ length l
  whole = omega (arith, holds)

  pub put_keeps : length (put_at p block l) ≡ length l
  unfolding put_pels_at
  put_keeps = part_length p.from (p.to - p.from) (with_block p.stride p.x p.y block) l whole put-length

  plane-at : (j : ℕ) → j < p.to - p.from → get_or (plane_of p l) j 0 ≡ get_or l (p.from + j) 0
  plane-at j h = get_or-take (p.to - p.from) (drop p.from l) j 0 h ∙ get_or-drop p.from l j 0

  painted-at : (j : ℕ) → j < p.to - p.from
      → get_or (with_block p.stride p.x p.y block (plane_of p l)) j 0
      ≡ cond (in_pels 8 p.stride p.x p.y j) (get_or block (pel_in 8 p.stride p.x p.y j) 0) (get_or (plane_of p l) j 0)
  unfolding painted
  painted-at j h =
      ap (λ (q : List ℕ). get_or q j 0) (with-pels-painted 8 p.stride p.x p.y (omega arith) holds.across block (plane_of p l) (rw plane-length holds.below))
      ∙ tab-at (length (plane_of p l)) _ j 0 (rw plane-length h)

  pub put-at : (i : ℕ) → get_or (put_at p block l) i 0 ≡ cond (in_location p i) (get_or block (pel_index_at p i) 0) (get_or l i 0)
  unfolding put_pels_at in_location
  put-at i = elim (dec_lt i p.from) [
    | yes h ↦ rw (lt-ltb i p.from h) (part-before p.from (p.to - p.from) (with_block p.stride p.x p.y block) l whole put-length i 0 h)
    | no h ↦ rw (le-ltb i p.from (omega arith)) (elim (dec_lt i p.to) [
      | yes k ↦ rw (lt-ltb i p.to k) (in-plane i (omega arith) k)
      | no k ↦ rw (le-ltb i p.to (omega arith)) (after i (omega arith))
    ])
  ]
    where
      f : List ℕ → List ℕ
      f = with_block p.stride p.x p.y block

      in-plane : (i : ℕ) → p.from ≤ i → i < p.to → get_or (part p.from (p.to - p.from) f l) i 0 ≡ cond (in_pels 8 p.stride p.x p.y (i - p.from)) (get_or block (pel_index_at p i) 0) (get_or l i 0)
      in-plane i low high =
          let e : i ≡ p.from + (i - p.from) = omega arith in
          ap (λ (m : ℕ). get_or (part p.from (p.to - p.from) f l) m 0) e
          ∙ part_in p.from (p.to - p.from) f l whole put-length (i - p.from) 0 (omega arith)
          ∙ painted-at (i - p.from) (omega arith)
          ∙ ap (cond (in_pels 8 p.stride p.x p.y (i - p.from)) (get_or block (pel_index_at p i) 0)) (plane-at (i - p.from) (omega arith) ∙ ap (λ (m : ℕ). get_or l m 0) (sym e))

      after : (i : ℕ) → p.to ≤ i → get_or (part p.from (p.to - p.from) f l) i 0 ≡ get_or l i 0
      after i h =
          let e : i ≡ p.from + (p.to - p.from + (i - p.to)) = omega (arith, holds) in
          ap (λ (m : ℕ). get_or (part p.from (p.to - p.from) f l) m 0) e
          ∙ part-after p.from (p.to - p.from) f l whole put-length (i - p.to) 0
          ∙ ap (λ (m : ℕ). get_or l m 0) (sym e)

-- ---- the block at a location
module _ (p : BlockLocation) (l : List ℕ) (holds : BlockInside p (length l)) where
  -- the index in the plane of its pel k
  abbrev at : ℕ → ℕ
  at k = pel_index 8 p.stride p.x p.y k

  at-below : (k : ℕ) → k < 64 → at k < p.to - p.from
  at-below k h = (cell-fits 8 p.stride p.x p.y (omega arith) holds.across k (p.to - p.from) h holds.below).inside

  half : (n : ℕ) → 2 * n / 2 ≡ n
  half n = omega arith

  pub read_is : copied_pels 8 (plane_of p l) p.stride (2 * p.x) (2 * p.y) ≡ read_at p l
  unfolding read_at pel_index
  read_is = tab-ext 64 _ _ (λ k h.
      (λ i. pel_at (plane_of p l) p.stride (half p.x i + k % 8) (half p.y i + k / 8))
      ∙ plane-at p [] l holds (at k) (at-below k h))

  -- reading gives what was put
  line : (k : ℕ) → (p.from + at k - p.from) / p.stride ≡ p.y + k / 8
  line k = let same : p.from + at k - p.from ≡ at k = omega arith in rw same (cell-line 8 p.stride p.x p.y (omega arith) holds.across k)

  column : (k : ℕ) → (p.from + at k - p.from) % p.stride ≡ p.x + k % 8
  column k = let same : p.from + at k - p.from ≡ at k = omega arith in rw same (cell-column 8 p.stride p.x p.y (omega arith) holds.across k)

  pel-here : (k : ℕ) → pel_index_at p (p.from + at k) ≡ k
  pel-here k = rw (line k, column k) (omega arith)

  in-here : (k : ℕ) → k < 64 → in_location p (p.from + at k) ≡ true
  unfolding in_location in_pels
  in-here k h = rw (le-ltb (p.from + at k) p.from (omega arith), lt-ltb (p.from + at k) p.to (omega (arith, at-below k h)), line k, column k)
      (rw (le-leb p.x (p.x + k % 8) (omega arith), lt-ltb (p.x + k % 8) (p.x + 8) (omega arith), le-leb p.y (p.y + k / 8) (omega arith), lt-ltb (p.y + k / 8) (p.y + 8) (omega arith)))

  pub read-put : (block : List ℕ) (k : ℕ) → k < 64 → get_or (read_at p (put_at p block l)) k 0 ≡ get_or block k 0
  unfolding read_at
  read-put block k h =
      tab-at 64 _ k 0 h ∙ put-at p block l holds (p.from + at k) ∙ rw (in-here k h) (ap (λ (m : ℕ). get_or block m 0) (pel-here k))
