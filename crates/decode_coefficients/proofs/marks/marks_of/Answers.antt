-- `marks::marks_of` meets its contract: before each coefficient, the marks are those of the ones before it. Assumes nothing.
use Prim.Native.Nat.{◌+◌, ◌≤◌}
use mathlib.Core.Path.{◌≡◌}
use native.Mathlib.Omega.{arith}
use borrow.Author.Rules.{rules}
use mir.Syntax.{w16}
use mir.Val.{to_z, of_z}
use Rattle.math.specs.Bound.{at}
use Rattle.decode_coefficients.proofs.MarkLaws.{none-marked, none_of, marked_all, marked_more}
use Rattle.decode_coefficients.proofs.marks.marks_of.Goals as goal

pub loop-raster-init : goal.loop-raster-init
loop-raster-init c = (rw (none_of _) none-marked, omega arith)

pub loop-raster-preserved : goal.loop-raster-preserved
loop-raster-preserved c =
    let coefficient : to_z w16 (of_z w16 (at c.args.block.now c.loop-raster.raster)) ≡ at c.args.block.now c.loop-raster.raster = search rules in
    let next : c.loop-raster.raster + 1 ≤ 64 = omega arith in
    (rw (c.with_coefficient-marks.ensures, coefficient) (marked_more c.args.block.now c.loop-raster.raster c.loop-raster-test.true c.loop-raster.invariant.0), next)

pub returns : goal.returns
returns c =
    let all : c.loop-raster.raster ≡ 64 = omega arith in
    marked_all _ (rw all at c.loop-raster.invariant.0)
