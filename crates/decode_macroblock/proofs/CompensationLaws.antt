-- Laws of prediction: a macroblock whose vectors fit reads inside the planes of the references. Assumes nothing.
use mathlib.Core.Path.{◌≡◌, ap}
use mathlib.Core.Bool.{true}
use mathlib.Core.List.{List}
use Prim.Native.Nat.{ℕ, ◌+◌, ◌*◌, ◌/◌, ◌%◌, ◌≤◌, ◌<◌}
use native.Mathlib.Nat.{le_refl}
use native.Mathlib.Omega.{arith}
use borrow.Author.Tests.{lt-ltb, le-ltb, eqb-true}
use lib.Dec.{eqb}
use lib.IntN.{ℤ, pos}
use lib.ListN.{length}
use lib.Signed.{◌≤ℤ◌}
use Rattle.std.specs.Prelude.{Option, Some, None, IfSome, OnSome}
use Rattle.math.proofs.Machine.{fits}
use Rattle.math.proofs.Difference.{up, dn, of_le, le_of, parts_add}
use Rattle.math.proofs.Test.{both_true}
use Rattle.math.proofs.Tab.{tab-ext}
use Rattle.symbols.specs.Size.{picture_bytes}
use Rattle.decode_vectors.specs.Vector.{chroma_vector, odd_bit}
use Rattle.decode_vectors.proofs.VectorLaws.{chroma-within}
use Rattle.decode_prediction.specs.Fit.{signed_coordinate, half_pel_coordinate, macroblock_fits}
use Rattle.decode_prediction.proofs.MeanLaws.{predicted-whole}
use Rattle.decode_prediction.proofs.FitLaws.{size-up, coordinate-odd, Fits, MacroblockFits, luma-known, chroma-known}
use Rattle.decode_macroblock.specs.declared.location.MacroblockPosition.{MacroblockPosition}
use Rattle.decode_macroblock.specs.declared.location.BlockLocation.{BlockLocation}
use Rattle.decode_macroblock.specs.declared.compensation.Vector.{Vector}
use Rattle.decode_macroblock.specs.declared.compensation.Motion.{Motion}
use Rattle.decode_macroblock.specs.Location.{block_location}
use Rattle.decode_macroblock.specs.Requires.{Inside, VectorWithin, Pointing, Readable, Predictable, BlocksWritable}
use Rattle.decode_macroblock.specs.Compensation.{vector_for, plane_of, is_whole_pel, half_pels, predicted_from, copied_from}
use Rattle.decode_macroblock.specs.Fit.{direction_fits}
use Rattle.decode_macroblock.proofs.LocationLaws.{sides, by-plane, lines-inside}

-- ---- the same vector, `offset` pels further on
module _ (x offset : ℕ) (v : ℤ) where
  moved : up (signed_coordinate (x + offset) v) + dn (signed_coordinate x v) ≡ up (signed_coordinate x v) + 2 * offset + dn (signed_coordinate (x + offset) v)
  moved = omega (arith, parts_add (pos (2 * x)) v, parts_add (pos (2 * (x + offset))) v)

  pub location-moved : pos 0 ≤ℤ signed_coordinate x v → pos 0 ≤ℤ signed_coordinate (x + offset) v → half_pel_coordinate (x + offset) v ≡ half_pel_coordinate x v + 2 * offset
  location-moved low high =
      let here = size-up (signed_coordinate x v) low in
      let there = size-up (signed_coordinate (x + offset) v) high in
      omega (arith, ap up here, ap dn here, ap up there, ap dn there, moved)

-- ---- a block `offset` pels inside a macroblock that fits
module _ {side x width : ℕ} {v : ℤ} (fit : Fits side x width v) (offset : ℕ) where
  pub moved-lower : pos 0 ≤ℤ signed_coordinate (x + offset) v
  moved-lower = le_of _ _ (omega (arith, moved x offset v, of_le fit.lower))

  pub moved-upper : offset + 8 ≤ side → half_pel_coordinate (x + offset) v + 16 ≤ 2 * width
  moved-upper inside = omega (arith, location-moved x offset v fit.lower moved-lower, fit.upper)

-- ---- each block of a macroblock whose vector fits
pub readable : (p : MacroblockPosition) (v : Vector) (reference : List ℕ) (block : ℕ) → Inside p → VectorWithin 2048 v → block < 6
    → macroblock_fits p.size.width p.size.height p.column p.row v.right v.down ≡ true
    → length reference ≡ picture_bytes p.size → Readable (block_location p block) (vector_for block v) reference
unfolding vector_for
readable p v reference block inside small h fits whole = by-plane (λ q. Readable q (vector_for block v) reference) p block h
    (λ l. rw (lt-ltb block 4 l) (record {
      order = omega arith;
      within = omega (arith, whole);
      whole = omega (arith, lines-inside 16 p.size.width p.size.height (16 * p.size.height) (le_refl (16 * p.size.height)));
      pointing = record {
        column = omega (arith, sides inside, inside.across);
        line = omega (arith, sides inside, inside.below);
        small = small;
        left = moved-lower luma.across (8 * (block % 2));
        top = moved-lower luma.below (8 * (block / 2));
      };
      across = moved-upper luma.across (8 * (block % 2)) (omega arith);
      below = moved-upper luma.below (8 * (block / 2)) (omega arith);
    }))
    (λ l from high. rw (le-ltb block 4 l) (record {
      order = omega arith;
      within = omega (arith, whole);
      whole = omega (arith, lines-inside 8 p.size.width p.size.height (8 * p.size.height) (le_refl (8 * p.size.height)));
      pointing = record {
        column = omega (arith, sides inside, inside.across);
        line = omega (arith, sides inside, inside.below);
        small = record { across = chroma-within small.across; below = chroma-within small.below };
        left = chroma.across.lower;
        top = chroma.below.lower;
      };
      across = chroma.across.upper;
      below = chroma.below.upper;
    }))
  where
    luma : MacroblockFits 16 p.size.width p.size.height p.column p.row v.right v.down
    luma = luma-known p.size.width p.size.height p.column p.row v.right v.down fits

    chroma : MacroblockFits 8 p.size.width p.size.height p.column p.row (chroma_vector v.right) (chroma_vector v.down)
    chroma = chroma-known p.size.width p.size.height p.column p.row v.right v.down fits

-- the same of a direction, if it is used
used-readable : (p : MacroblockPosition) (vector : Option Vector) (reference : List ℕ) (block : ℕ) → Inside p → IfSome vector (VectorWithin 2048) → block < 6
    → direction_fits p vector ≡ true → OnSome vector (length reference ≡ picture_bytes p.size) → IfSome vector (λ v. Readable (block_location p block) (vector_for block v) reference)
unfolding direction_fits
used-readable p (Some v) reference block inside small h fits whole = readable p v reference block inside small h fits whole
used-readable p None reference block inside small h fits whole = tt

pub predictable : {p : MacroblockPosition} {m : Motion} {forward backward output : List ℕ} (block : ℕ)
    → BlocksWritable p m forward backward output → block < 6 → Predictable m (block_location p block) block forward backward
predictable {p} {m} {forward} {backward} block d h = record {
  small = d.small;
  forward-readable = used-readable p m.forward forward block d.inside d.small.forward h d.forward-fits d.lent.forward-whole;
  backward-readable = used-readable p m.backward backward block d.inside d.small.backward h d.backward-fits d.lent.backward-whole;
}

-- a vector without odd bits points to coordinates without odd bits
pub whole-location : {p : BlockLocation} {v : Vector} → Pointing p v → is_whole_pel v ≡ true → (half_pels p v).px % 2 + (half_pels p v).py % 2 ≡ 0
whole-location {p} {v} r e =
    let both = both_true (eqb (odd_bit v.right) 0) (eqb (odd_bit v.down) 0) e in
    omega (arith, coordinate-odd p.x v.right r.left, coordinate-odd p.y v.down r.top, eqb-true (odd_bit v.right) 0 both.0, eqb-true (odd_bit v.down) 0 both.1)

-- so the 8 by 8 pels that it points to are the block that is predicted
pub copied-predicted : {p : BlockLocation} {v : Vector} (reference : List ℕ) → Pointing p v → is_whole_pel v ≡ true → copied_from 8 reference p v ≡ predicted_from reference p v
unfolding copied_from predicted_from
copied-predicted {p} {v} reference r e = tab-ext 64 _ _ (λ k h. predicted-whole (plane_of p reference) p.stride (half_pels p v).px (half_pels p v).py k (whole-location r e))
