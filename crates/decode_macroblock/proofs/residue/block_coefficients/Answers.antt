-- `residue::block_coefficients` meets its contract: before coefficient k, the first k are copied. Assumes nothing.
use native.Mathlib.Omega.{arith}
use Rattle.math.proofs.Tab.{filled-all}
use Rattle.decode_macroblock.proofs.residue.block_coefficients.Goals as goal

pub returns : goal.returns
returns c = filled-all c.loop-k.invariant.0 (omega arith)
