-- `block::reconstruct_block` meets its contract: before pel k, the first k are computed. Assumes nothing.
use native.Mathlib.Omega.{arith}
use Rattle.math.proofs.Tab.{filled-all}
use Rattle.decode_macroblock.proofs.block.reconstruct_block.Goals as goal

pub returns : goal.returns
returns c = filled-all c.loop-k.invariant.0 (omega arith)
