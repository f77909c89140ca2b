-- Laws of the macroblock that owns a byte: it is in the picture, and its six blocks are exactly the bytes it owns. Assumes nothing.
use mathlib.Core.Path.{◌≡◌, refl, ap, ◌∙◌, sym, subst}
use mathlib.Core.Bool.{true, ◌&&◌}
use Prim.Native.Nat.{ℕ, ◌+◌, ◌-◌, ◌*◌, ◌/◌, ◌%◌, ◌≤◌, ◌<◌}
use native.Mathlib.Decide.{dec_lt}
use native.Mathlib.Nat.{mod-lt, mul-pos, div-lt_iff_lt-mul, div-add-mod', mul_comm}
use native.Mathlib.Omega.{arith}
use borrow.Author.Tests.{lt-ltb, le-ltb, le-leb, leb-true, ltb-true}
use lib.Arith.{digits_lt, digits_div, digits_mod}
use lib.Dec.{ltb, leb}
use Rattle.math.proofs.Test.{clash, both_true}
use Rattle.symbols.specs.declared.size.PictureSize.{PictureSize}
use Rattle.symbols.specs.Requires.{SizeWithin}
use Rattle.symbols.specs.Size.{macroblock_count, picture_bytes, start_of_cb, start_of_cr}
use Rattle.decode_macroblock.proofs.PelLaws.{in_pels}
use Rattle.decode_macroblock.specs.declared.location.BlockLocation.{BlockLocation}
use Rattle.decode_macroblock.specs.Location.{macroblock_position, luma_location, chroma_location, block_location}
use Rattle.decode_macroblock.specs.Owner.{owner_in, owner_of}
use Rattle.decode_macroblock.proofs.LocationLaws.{by-block}
use Rattle.decode_macroblock.proofs.PutLaws.{in_location}

-- ---- the test for a block, as facts
pub record InBlock (stride x y i : ℕ) : Type 0 where
  pub left : x ≤ i % stride
  pub right : i % stride < x + 8
  pub top : y ≤ i / stride
  pub bottom : i / stride < y + 8

in_block : (stride x y i : ℕ) → in_pels 8 stride x y i ≡ true → InBlock stride x y i
unfolding in_pels
in_block stride x y i e =
    let all = both_true (leb x (i % stride) && ltb (i % stride) (x + 8)) (leb y (i / stride) && ltb (i / stride) (y + 8)) e in
    let across = both_true (leb x (i % stride)) (ltb (i % stride) (x + 8)) all.0 in
    let down = both_true (leb y (i / stride)) (ltb (i / stride) (y + 8)) all.1 in
    record { left = leb-true _ _ across.0; right = ltb-true _ _ across.1; top = leb-true _ _ down.0; bottom = ltb-true _ _ down.1 }

block_in_lem : (stride x y i : ℕ) → InBlock stride x y i → in_pels 8 stride x y i ≡ true
unfolding in_pels
block_in_lem stride x y i b = rw (le-leb x (i % stride) b.left, lt-ltb (i % stride) (x + 8) b.right, le-leb y (i / stride) b.top, lt-ltb (i / stride) (y + 8) b.bottom)

pub record InPlane (p : BlockLocation) (i : ℕ) : Type 0 where
  pub after : p.from ≤ i
  pub before : i < p.to
  pub square : InBlock p.stride p.x p.y (i - p.from)

pub in-location : (p : BlockLocation) (i : ℕ) → in_location p i ≡ true → InPlane p i
unfolding in_location
in-location p i e = elim (dec_lt i p.from) [
  | yes h ↦ clash (rw (lt-ltb i p.from h) at e) refl
  | no h ↦ elim (dec_lt i p.to) [
    | yes k ↦ record { after = omega arith; before = k; square = in_block _ _ _ _ (rw (le-ltb i p.from (omega arith), lt-ltb i p.to k) at e) }
    | no k ↦ clash (rw (le-ltb i p.from (omega arith), le-ltb i p.to (omega arith)) at e) refl
  ]
]

location-in : (p : BlockLocation) (i : ℕ) → InPlane p i → in_location p i ≡ true
unfolding in_location
location-in p i b = rw (le-ltb i p.from b.after, lt-ltb i p.to b.before) (block_in_lem _ _ _ _ b.square)

-- ---- one plane, where a macroblock has `side` by `side` pels
module _ (side width height : ℕ) (some : 0 < side) (wide : 0 < width) where
  column-below : (i : ℕ) → i % (side * width) / side < width
  column-below i = (div-lt_iff_lt-mul some).1 (rw (mul_comm width side) (mod-lt i (mul-pos some wide)))

  pub owner-in-below : (i : ℕ) → i < side * side * (width * height) → owner_in side width i < width * height
  unfolding owner_in
  owner-in-below i h = rw (mul_comm width height) (digits_lt ((div-lt_iff_lt-mul some).1 ((div-lt_iff_lt-mul (mul-pos some wide)).1 (rw order h))) (column-below i))
    where
      order : height * side * (side * width) ≡ side * side * (width * height)
      order = omega arith

  -- the owner's column and row come from the byte's
  pub owner-column : (i address : ℕ) → owner_in side width i ≡ address → address % width ≡ i % (side * width) / side
  unfolding owner_in
  owner-column i address e = rw (← e) (digits_mod (i / (side * width) / side) (column-below i))

  pub owner-row : (i address : ℕ) → owner_in side width i ≡ address → address / width ≡ i / (side * width) / side
  unfolding owner_in
  owner-row i address e = rw (← e) (digits_div (i / (side * width) / side) (column-below i))

pub owner-is : (side width i address : ℕ) → i % (side * width) / side ≡ address % width → i / (side * width) / side ≡ address / width → owner_in side width i ≡ address
unfolding owner_in
owner-is side width i address across down = rw (across, down) (div-add-mod' address width)

-- ---- the picture
module _ {limit : ℕ} (s : PictureSize) (size : SizeWithin limit s) where
  pub owner-below : (i : ℕ) → i < picture_bytes s → owner_of s i < macroblock_count s
  unfolding owner_of
  owner-below i h = elim (dec_lt i (start_of_cb s)) [
    | yes k ↦ rw (lt-ltb i (start_of_cb s) k) (owner-in-below 16 s.width s.height (omega arith) size.wide i (omega arith))
    | no k ↦ rw (le-ltb i (start_of_cb s) (omega arith)) (elim (dec_lt i (start_of_cr s)) [
      | yes j ↦ rw (lt-ltb i (start_of_cr s) j) (owner-in-below 8 s.width s.height (omega arith) size.wide (i - start_of_cb s) (omega arith))
      | no j ↦ rw (le-ltb i (start_of_cr s) (omega arith)) (owner-in-below 8 s.width s.height (omega arith) size.wide (i - start_of_cr s) (omega arith))
    ])
  ]

  module _ (address : ℕ) where
    -- ---- the macroblock owns every byte of its blocks
    luma-owner : (i block : ℕ) → block < 4 → in_location (luma_location (macroblock_position s address) block) i ≡ true → owner_of s i ≡ address
    unfolding owner_of
    luma-owner i block l e =
        let b = in-location (luma_location (macroblock_position s address) block) i e in
        let same : i - 0 ≡ i = omega arith in
        rw (lt-ltb i (start_of_cb s) b.before)
        (ap (owner_in 16 s.width) (sym same) ∙ owner-is 16 s.width (i - 0) address (omega (arith, b.square)) (omega (arith, b.square)))

    chroma-owner : (from i : ℕ) → InPlane (chroma_location (macroblock_position s address) from) i → owner_in 8 s.width (i - from) ≡ address
    chroma-owner from i b = owner-is 8 s.width (i - from) address (omega (arith, b.square)) (omega (arith, b.square))

    cb-owner : (i : ℕ) → in_location (chroma_location (macroblock_position s address) (start_of_cb s)) i ≡ true → owner_of s i ≡ address
    unfolding owner_of
    cb-owner i e =
        let b = in-location (chroma_location (macroblock_position s address) (start_of_cb s)) i e in
        rw (le-ltb i (start_of_cb s) b.after, lt-ltb i (start_of_cr s) (omega (arith, b.before))) (chroma-owner (start_of_cb s) i b)

    cr-owner : (i : ℕ) → in_location (chroma_location (macroblock_position s address) (start_of_cr s)) i ≡ true → owner_of s i ≡ address
    unfolding owner_of
    cr-owner i e =
        let b = in-location (chroma_location (macroblock_position s address) (start_of_cr s)) i e in
        rw (le-ltb i (start_of_cb s) (omega (arith, b.after)), le-ltb i (start_of_cr s) b.after) (chroma-owner (start_of_cr s) i b)

    pub block-owner : (i block : ℕ) → block < 6 → in_location (block_location (macroblock_position s address) block) i ≡ true → owner_of s i ≡ address
    block-owner i block h =
        by-block (λ p. in_location p i ≡ true → owner_of s i ≡ address) (macroblock_position s address) block h (luma-owner i block) (λ e. cb-owner i) (λ e. cr-owner i)

    -- ---- every byte that it owns is in one of its blocks
    pub record Owned (i : ℕ) : Type 0 where
      pub block : ℕ
      pub below : block < 6
      pub here : in_location (block_location (macroblock_position s address) block) i ≡ true

    luma-owned : (i : ℕ) → i < start_of_cb s → owner_in 16 s.width i ≡ address → Owned i
    luma-owned i h e =
        let across : address % s.width ≡ i % (16 * s.width) / 16 = owner-column 16 s.width s.height (omega arith) size.wide i address e in
        let down : address / s.width ≡ i / (16 * s.width) / 16 = owner-row 16 s.width s.height (omega arith) size.wide i address e in
        let same : i ≡ i - 0 = omega arith in
        let which = 2 * (i / (16 * s.width) / 8 % 2) + i % (16 * s.width) / 8 % 2 in
        record {
          block = which;
          below = omega arith;
          here = by-block (λ p. in_location p i ≡ true) (macroblock_position s address) which (omega arith)
              (λ l. location-in (luma_location (macroblock_position s address) which) i (record {
                after = omega arith;
                before = h;
                square = subst (InBlock (16 * s.width) (16 * (address % s.width) + 8 * (which % 2)) (16 * (address / s.width) + 8 * (which / 2))) same
                    (record { left = omega arith; right = omega arith; top = omega arith; bottom = omega arith });
              }))
              (λ f. absurd (omega arith)) (λ f. absurd (omega arith));
        }

    chroma-owned : (from i : ℕ) → from ≤ i → i < from + 64 * macroblock_count s → owner_in 8 s.width (i - from) ≡ address → in_location (chroma_location (macroblock_position s address) from) i ≡ true
    chroma-owned from i low high e =
        let across : address % s.width ≡ (i - from) % (8 * s.width) / 8 = owner-column 8 s.width s.height (omega arith) size.wide (i - from) address e in
        let down : address / s.width ≡ (i - from) / (8 * s.width) / 8 = owner-row 8 s.width s.height (omega arith) size.wide (i - from) address e in
        location-in (chroma_location (macroblock_position s address) from) i (record {
          after = low;
          before = high;
          square = record { left = omega arith; right = omega arith; top = omega arith; bottom = omega arith };
        })

    cb-owned : (i : ℕ) → start_of_cb s ≤ i → i < start_of_cr s → owner_in 8 s.width (i - start_of_cb s) ≡ address → Owned i
    unfolding block_location
    cb-owned i low high e = record { block = 4; below = omega arith; here = chroma-owned (start_of_cb s) i low (omega arith) e }

    cr-owned : (i : ℕ) → start_of_cr s ≤ i → i < picture_bytes s → owner_in 8 s.width (i - start_of_cr s) ≡ address → Owned i
    unfolding block_location
    cr-owned i low high e = record { block = 5; below = omega arith; here = chroma-owned (start_of_cr s) i low (omega arith) e }

    pub owned : (i : ℕ) → i < picture_bytes s → owner_of s i ≡ address → Owned i
    unfolding owner_of
    owned i h e = elim (dec_lt i (start_of_cb s)) [
      | yes k ↦ luma-owned i k (rw (lt-ltb i (start_of_cb s) k) at e)
      | no k ↦ elim (dec_lt i (start_of_cr s)) [
        | yes j ↦ cb-owned i (omega arith) j (rw (le-ltb i (start_of_cb s) (omega arith), lt-ltb i (start_of_cr s) j) at e)
        | no j ↦ cr-owned i (omega arith) h (rw (le-ltb i (start_of_cb s) (omega arith), le-ltb i (start_of_cr s) (omega arith)) at e)
      ]
    ]
