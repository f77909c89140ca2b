-- `marks::dc_marks` meets its contract: the DC is stored in a block of zeros. Assumes nothing.
use mathlib.Core.Path.{refl}
use native.Mathlib.Omega.{arith}
use mir.Syntax.{w16}
use mir.ValLaws.{to_z-of_z}
use Rattle.decode_coefficients.specs.Block.{dc_block}
use Rattle.decode_coefficients.proofs.MarkLaws.{none-marked, marked-set}
use Rattle.decode_coefficients.proofs.marks.dc_marks.Goals as goal

pub returns : goal.returns
unfolding dc_block
returns c = rw (c.with_coefficient.ensures, to_z-of_z w16 _ c.ranges.dc) (marked-set none-marked refl 0 (omega arith) refl c.args.dc)
