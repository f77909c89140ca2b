-- `prediction::mean_of_both` meets its contract: before pel k, the first k means are computed. Assumes nothing.
use native.Mathlib.Omega.{arith}
use Rattle.math.proofs.Tab.{filled-all}
use Rattle.decode_prediction.proofs.prediction.mean_of_both.Goals as goal

pub returns : goal.returns
returns c = filled-all c.loop-k.invariant.0 (omega arith)
