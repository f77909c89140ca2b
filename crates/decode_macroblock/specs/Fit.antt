-- Whether a macroblock's vectors fit (document 01, "Vectors and prediction" and the order of refusals 18 and 23).
use Rattle.std.specs.Prelude.{Bool, true, cond, ℕ, zero, suc, ◌+◌, Option, Some, None, Result, Ok, Err, ⊤}
use Rattle.std.specs.Result.{result_and}
use Rattle.symbols.specs.declared.size.PictureSize.{PictureSize}
use Rattle.decode_prediction.specs.Fit.{macroblock_fits}
use Rattle.decode_macroblock.specs.declared.location.MacroblockPosition.{MacroblockPosition}
use Rattle.decode_macroblock.specs.declared.compensation.Vector.{Vector}
use Rattle.decode_macroblock.specs.declared.compensation.Motion.{Motion}
use Rattle.decode_macroblock.specs.declared.fit.Direction.{Direction}
use Rattle.decode_macroblock.specs.declared.fit.Direction.TheVariants.{Forward, Backward}
use Rattle.decode_macroblock.specs.Location.{macroblock_position}

-- the vector of a direction fits; an unused direction always fits
unfoldable pub direction_fits : MacroblockPosition → Option Vector → Bool
direction_fits p (Some v) = macroblock_fits p.size.width p.size.height p.column p.row v.right v.down
direction_fits p None = true

-- "forward before backward": the first direction that doesn't fit
unfoldable pub fit_of : PictureSize → ℕ → Motion → Result ⊤ Direction
fit_of s address m =
    cond (direction_fits (macroblock_position s address) m.forward)
    (cond (direction_fits (macroblock_position s address) m.backward) (Ok tt) (Err Backward))
    (Err Forward)

-- "skipped macroblocks in order": the first misfit among n macroblocks from an address on
unfoldable pub first_misfit : PictureSize → ℕ → ℕ → Motion → Result ⊤ Direction
first_misfit s first zero m = Ok tt
first_misfit s first (suc n) m = result_and (fit_of s first m) (first_misfit s (first + 1) n m)
