-- Laws of a macroblock's 16 by 16 luma pels: putting them puts four blocks, and a whole-pel vector copies them in one piece.
-- Assumes nothing.
use mathlib.Core.Path.{◌≡◌, ap, ◌∙◌, sym, subst}
use mathlib.Core.Bool.{true}
use mathlib.Core.List.{List}
use Prim.Native.Nat.{ℕ, zero, suc, ◌+◌, ◌-◌, ◌*◌, ◌/◌, ◌%◌, ◌≤◌, ◌<◌}
use native.Mathlib.Omega.{arith}
use borrow.Author.Tests.{ne_eqb}
use lib.ListN.{length, get_or, length-take, length-drop}
use Rattle.math.specs.Part.{part}
use Rattle.math.proofs.Part.{part_none, part_same, part-twice}
use Rattle.symbols.specs.Size.{picture_bytes, start_of_y, start_of_cb}
use Rattle.decode_prediction.specs.Prediction.{prediction}
use Rattle.decode_macroblock.specs.Pel.{with_pels, with_block}
use Rattle.decode_macroblock.proofs.QuarterLaws.{with_quarters, quarters-length, pel_of_quarter, luma-quarters, quarter-predicted}
use Rattle.decode_macroblock.specs.declared.location.MacroblockPosition.{MacroblockPosition}
use Rattle.decode_macroblock.specs.declared.location.BlockLocation.{BlockLocation}
use Rattle.decode_macroblock.specs.declared.compensation.Vector.{Vector}
use Rattle.decode_macroblock.specs.Location.{luma_location, block_location, put_at, put_pels_at}
use Rattle.decode_macroblock.specs.Requires.{Inside, PelsInside, BlockInside, PelsReadable, Readable, Copyable}
use Rattle.decode_macroblock.specs.Compensation.{plane_of, is_whole_pel, half_pels, predicted_from, copied_from, pointed_block}
use Rattle.decode_macroblock.specs.Macroblock.{with_blocks}
use Rattle.decode_macroblock.proofs.LocationLaws.{lines-inside, location-inside}
use Rattle.decode_macroblock.proofs.CompensationLaws.{location-moved, whole-location}
use Rattle.decode_macroblock.proofs.CopyLaws.{luma-vector, luma-readable}

luma-is : (p : MacroblockPosition) (block : ℕ) → block < 4 → block_location p block ≡ luma_location p block
unfolding block_location
luma-is p block h = rw (ne_eqb block 4 (omega arith), ne_eqb block 5 (omega arith))

-- the location of the luma pels: that of the first block
abbrev corner : MacroblockPosition → BlockLocation
corner p = record {
  from = start_of_y p.size;
  to = start_of_cb p.size;
  stride = 16 * p.size.width;
  lines = 16 * p.size.height;
  x = 16 * p.column;
  y = 16 * p.row;
}

unmoved : (n : ℕ) → n + 8 * 0 ≡ n
unmoved n = omega arith

corner-is : (p : MacroblockPosition) → block_location p 0 ≡ corner p
corner-is p = luma-is p 0 (omega arith) ∙ (λ i. record {
  from = start_of_y p.size;
  to = start_of_cb p.size;
  stride = 16 * p.size.width;
  lines = 16 * p.size.height;
  x = unmoved (16 * p.column) i;
  y = unmoved (16 * p.row) i;
})

below : {p : MacroblockPosition} → Inside p → ((corner p).y + 16) * (corner p).stride ≤ (corner p).to - (corner p).from
below {p} inside = omega (arith, lines-inside 16 p.size.width p.size.height (16 * p.row + 16) (omega (arith, inside.below)))

-- ---- the first n blocks of Y go into one plane, and all four are the luma pels
module _ (p : MacroblockPosition) (blocks : ℕ → List ℕ) (l : List ℕ) (whole : length l ≡ picture_bytes p.size) where
  abbrev quarters : ℕ → List ℕ → List ℕ
  quarters n = with_quarters (16 * p.size.width) (16 * p.column) (16 * p.row) blocks n

  plane-length : length (plane_of (corner p) l) ≡ start_of_cb p.size - start_of_y p.size
  plane-length = simp (length-take, length-drop) (omega (arith, whole))

  luma-blocks : (n : ℕ) → n ≤ 4 → with_blocks p blocks n l ≡ part (start_of_y p.size) (start_of_cb p.size - start_of_y p.size) (quarters n) l
  unfolding with_blocks with_quarters put_pels_at
  luma-blocks zero few = sym (part_none (start_of_y p.size) (start_of_cb p.size - start_of_y p.size) l)
  luma-blocks (suc n) few =
      (λ i. put_at (luma-is p n (omega arith) i) (blocks n) (luma-blocks n (omega arith) i))
      ∙ part-twice (start_of_y p.size) (start_of_cb p.size - start_of_y p.size) (quarters n) l (omega (arith, whole))
      (quarters-length (16 * p.size.width) (16 * p.column) (16 * p.row) blocks n (plane_of (corner p) l) ∙ plane-length)
      (with_block (16 * p.size.width) (16 * p.column + 8 * (n % 2)) (16 * p.row + 8 * (n / 2)) (blocks n))

  module _ (inside : Inside p) (square : List ℕ) (same : (q k : ℕ) → q < 4 → k < 64 → get_or (blocks q) k 0 ≡ get_or square (pel_of_quarter q k) 0) where
    corner-luma : put_pels_at 16 (corner p) square l ≡ with_blocks p blocks 4 l
    unfolding put_pels_at
    corner-luma =
        part_same (start_of_y p.size) (start_of_cb p.size - start_of_y p.size) l (with_pels 16 (16 * p.size.width) (16 * p.column) (16 * p.row) square) (quarters 4)
        (luma-quarters (16 * p.size.width) (16 * p.column) (16 * p.row) (omega (arith, inside.across)) blocks (plane_of (corner p) l) (rw plane-length (below inside)) square same)
        ∙ sym (luma-blocks 4 (omega arith))

-- ---- what is read and what is put
module _ {p : MacroblockPosition} {v : Vector} {reference output : List ℕ} (r : Copyable p v reference output) where
  corner-readable : Readable (corner p) v reference
  corner-readable = subst (λ (q : BlockLocation). Readable q v reference) (corner-is p) (luma-readable r 0 (omega arith))

  block-readable : (block : ℕ) → block < 4 → Readable (luma_location p block) v reference
  block-readable block h = subst (λ (q : BlockLocation). Readable q v reference) (luma-is p block h) (luma-readable r block h)

  right_of : (block : ℕ) → block < 4 → (half_pels (luma_location p block) v).px ≡ (half_pels (corner p) v).px + 16 * (block % 2)
  right_of block h = omega (arith, location-moved (16 * p.column) (8 * (block % 2)) v.right corner-readable.pointing.left (block-readable block h).pointing.left)

  below_of : (block : ℕ) → block < 4 → (half_pels (luma_location p block) v).py ≡ (half_pels (corner p) v).py + 16 * (block / 2)
  below_of block h = omega (arith, location-moved (16 * p.row) (8 * (block / 2)) v.down corner-readable.pointing.top (block-readable block h).pointing.top)

  module _ {location : BlockLocation} (e : location ≡ block_location p 0) where
    pub luma-copy-readable : PelsReadable 16 location v reference
    luma-copy-readable = rw (e ∙ corner-is p) (record {
      order = corner-readable.order;
      within = corner-readable.within;
      whole = corner-readable.whole;
      pointing = corner-readable.pointing;
      across = omega (arith, right_of 1 (omega arith), (block-readable 1 (omega arith)).across);
      below = omega (arith, below_of 2 (omega arith), (block-readable 2 (omega arith)).below);
    })

    pub luma-copy-holds : PelsInside 16 location (length output)
    luma-copy-holds =
        let corner-inside = subst (λ (q : BlockLocation). BlockInside q (picture_bytes p.size)) (corner-is p) (location-inside p 0 r.inside (omega arith)) in
        rw (e ∙ corner-is p, r.output-whole) (record {
          order = corner-inside.order;
          within = corner-inside.within;
          across = omega (arith, r.inside.across);
          below = below r.inside;
        })

  -- each block that the vector points to is a quarter of the luma pels that it points to
  quarter-is : is_whole_pel v ≡ true → (q k : ℕ) → q < 4 → k < 64 → get_or (pointed_block reference p v q) k 0 ≡ get_or (copied_from 16 reference (corner p) v) (pel_of_quarter q k) 0
  unfolding predicted_from copied_from
  quarter-is even q k h b =
      (λ i. get_or (predicted_from reference (luma-is p q h i) (luma-vector q v h i)) k 0)
      ∙ (λ i. get_or (prediction (plane_of (corner p) reference) (16 * p.size.width) (right_of q h i) (below_of q h i)) k 0)
      ∙ quarter-predicted (plane_of (corner p) reference) (16 * p.size.width) (half_pels (corner p) v).px (half_pels (corner p) v).py q k (whole-location corner-readable.pointing even) h b

  pub luma-copy-blocks : is_whole_pel v ≡ true → put_pels_at 16 (block_location p 0) (copied_from 16 reference (block_location p 0) v) output ≡ with_blocks p (pointed_block reference p v) 4 output
  luma-copy-blocks even =
      ap (λ (q : BlockLocation). put_pels_at 16 q (copied_from 16 reference q v) output) (corner-is p)
      ∙ corner-luma p (pointed_block reference p v) output r.output-whole r.inside (copied_from 16 reference (corner p) v) (quarter-is even)
