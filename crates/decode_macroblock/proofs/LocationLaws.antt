-- Laws of a block's location: every pel of a block is inside the picture. Assumes nothing.
use mathlib.Core.Path.{◌≡◌, ap, ◌∙◌}
use Prim.Native.Nat.{ℕ, ◌+◌, ◌*◌, ◌/◌, ◌≤◌, ◌<◌}
use native.Mathlib.Decide.{ℕ_discrete}
use native.Mathlib.Nat.{le_trans, le_of_eq, mul-le-mul_right, mul-mul-mul_comm, mul_comm}
use native.Mathlib.Omega.{arith}
use borrow.Author.Tests.{eq-eqb, ne_eqb}
use Rattle.symbols.specs.declared.size.PictureSize.{PictureSize}
use Rattle.symbols.specs.Requires.{SizeWithin}
use Rattle.symbols.specs.Size.{max_macroblocks, macroblock_count, picture_bytes, start_of_cb, start_of_cr}
use Rattle.symbols.proofs.Laws.Size.{width_few, height-few, column-inside, row_inside}
use Rattle.decode_macroblock.specs.declared.location.MacroblockPosition.{MacroblockPosition}
use Rattle.decode_macroblock.specs.declared.location.BlockLocation.{BlockLocation}
use Rattle.decode_macroblock.specs.Location.{macroblock_position, luma_location, chroma_location, block_location}
use Rattle.decode_macroblock.specs.Requires.{Inside, BlockInside}

-- an address of the picture has a position inside it, for any limit up to the format's
pub position-inside : {limit : ℕ} {s : PictureSize} (address : ℕ) → limit ≤ max_macroblocks → SizeWithin limit s → address < macroblock_count s → Inside (macroblock_position s address)
position-inside address bounded size h = record {
  few = le_trans size.few bounded;
  across = column-inside size address;
  below = row_inside size address h;
}

-- ---- bounds on the sides
inside-size : {p : MacroblockPosition} → Inside p → SizeWithin max_macroblocks p.size
inside-size inside = record { wide = omega (arith, inside.across); high = omega (arith, inside.below); few = inside.few }

pub record Sides (p : MacroblockPosition) : Type 0 where
  pub wide : p.size.width ≤ max_macroblocks
  pub high : p.size.height ≤ max_macroblocks

pub sides : {p : MacroblockPosition} → Inside p → Sides p
sides inside = record { wide = width_few (inside-size inside); high = height-few (inside-size inside) }

-- ---- what holds for the luma and the chroma locations holds for every block's location
pub by-block : (P : BlockLocation → Type 0) (p : MacroblockPosition) (block : ℕ) → block < 6
    → (block < 4 → P (luma_location p block)) → (block ≡ 4 → P (chroma_location p (start_of_cb p.size))) → (block ≡ 5 → P (chroma_location p (start_of_cr p.size)))
    → P (block_location p block)
unfolding block_location
by-block P p block h luma cb cr = elim (ℕ_discrete block 4) [
  | yes e ↦ rw (eq-eqb block 4 e) (cb e)
  | no n ↦ rw (ne_eqb block 4 n) (elim (ℕ_discrete block 5) [
    | yes e ↦ rw (eq-eqb block 5 e) (cr e)
    | no m ↦ rw (ne_eqb block 5 m) (luma (omega arith))
  ])
]

pub by-plane : (P : BlockLocation → Type 0) (p : MacroblockPosition) (block : ℕ) → block < 6
    → (block < 4 → P (luma_location p block))
    → (4 ≤ block → (from : ℕ) → from + 64 * macroblock_count p.size ≤ picture_bytes p.size → P (chroma_location p from))
    → P (block_location p block)
by-plane P p block h luma chroma = by-block P p block h luma
    (λ e. chroma (omega arith) (start_of_cb p.size) (omega arith)) (λ e. chroma (omega arith) (start_of_cr p.size) (omega arith))

-- r lines of a plane, where a macroblock has `side` by `side` pels
pub lines-inside : (side width height r : ℕ) → r ≤ side * height → r * (side * width) ≤ side * side * (width * height)
lines-inside side width height r h =
    le_trans (mul-le-mul_right (side * width) h) (le_of_eq (mul-mul-mul_comm side height side width ∙ ap (λ (m : ℕ). side * side * m) (mul_comm height width)))

pub location-inside : (p : MacroblockPosition) (block : ℕ) → Inside p → block < 6 → BlockInside (block_location p block) (picture_bytes p.size)
location-inside p block inside h = by-plane (λ q. BlockInside q (picture_bytes p.size)) p block h
    (λ l. record {
      order = omega arith;
      within = omega arith;
      across = omega (arith, inside.across);
      below = omega (arith, lines-inside 16 p.size.width p.size.height (16 * p.row + 8 * (block / 2) + 8) (omega (arith, inside.below)));
    })
    (λ l from high. record {
      order = omega arith;
      within = high;
      across = omega (arith, inside.across);
      below = omega (arith, lines-inside 8 p.size.width p.size.height (8 * p.row + 8) (omega (arith, inside.below)));
    })
