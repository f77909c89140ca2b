-- Every raster index of the zigzag order is inside the block, and no two positions have the same one. Assumes nothing.
use mathlib.Core.Path.{◌≡◌, refl, sym, ap, ◌∙◌}
use Prim.Native.Nat.{ℕ, ◌<◌}
use lib.Dec.{eqb, eqb→eq, ltb, ltb→lt}
use lib.ListN.{get_or}
use Rattle.math.specs.Tab.{tab}
use Rattle.math.specs.Test.{all_below}
use Rattle.math.proofs.Test.{at-below}
use Rattle.tables.specs.Tables.{zigzag, scan, index_of}

-- by one computed test
pub raster-below : (k : ℕ) → k < 64 → get_or zigzag k 0 < 64
unfolding zigzag scan index_of tab all_below
raster-below k h = ltb→lt (get_or zigzag k 0) 64 (at-below 64 (λ k. ltb (get_or zigzag k 0) 64) tt k h)

-- position 0 is at raster index 0
pub zigzag-first : get_or zigzag 0 0 ≡ 0
unfolding zigzag scan index_of tab
zigzag-first = refl

-- the scan leads from the raster index back to the position, by another computed test
back : (k : ℕ) → k < 64 → get_or scan (get_or zigzag k 0) 0 ≡ k
unfolding zigzag scan index_of tab all_below
back k h = eqb→eq (get_or scan (get_or zigzag k 0) 0) k (at-below 64 (λ k. eqb (get_or scan (get_or zigzag k 0) 0) k) tt k h)

pub zigzag-apart : (j k : ℕ) → j < 64 → k < 64 → get_or zigzag j 0 ≡ get_or zigzag k 0 → j ≡ k
zigzag-apart j k h l e = sym (back j h) ∙ ap (λ (raster : ℕ). get_or scan raster 0) e ∙ back k l
