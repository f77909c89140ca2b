-- `marks::marks_of` meets its contract: before each coefficient, the marks are those of the ones before it. Assumes nothing.
use Prim.Native.Nat.{◌≤◌}
use Rattle.decode_coefficients.specs.Marks.{Marked}
use Rattle.decode_coefficients.proofs.MarkLaws.{first_of}
use Rattle.decode_coefficients.proofs.marks.marks_of.Given as goal

abbrev pub invariant-loop-raster : goal.invariant-loop-raster
invariant-loop-raster l = Marked (first_of l.block l.raster) l.marks × (l.raster ≤ 64)
