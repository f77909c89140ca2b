-- `decode_idct::transform` meets its contract: the test bounds the coefficients for the transform. Assumes nothing.
use mathlib.Core.Path.{sym}
use native.Mathlib.Omega.{arith}
use Rattle.decode_idct.proofs.Passes.{in-range-within}
use Rattle.decode_idct.proofs.transform.Goals as goal

pub inverse_transform-requires : goal.inverse_transform-requires
inverse_transform-requires c = (in-range-within c.args.coefficients (omega arith) (sym c.if-not-transform_entry_in_range.ensures), c.marks_of-marks.ensures)
