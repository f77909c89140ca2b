-- `prediction::mean_of_both` meets its contract: before pel k, the first k means are computed. Assumes nothing.
use Prim.Native.Nat.{◌+◌, ◌-◌, ◌≤◌}
use lib.ListN.{get_or}
use Rattle.math.proofs.Tab.{Filled}
use Rattle.decode_prediction.specs.Prediction.{mean_of}
use Rattle.decode_prediction.proofs.prediction.mean_of_both.Given as goal

abbrev pub invariant-loop-k : goal.invariant-loop-k
invariant-loop-k l = Filled 64 (λ j. mean_of 2 (get_or l.forward j 0 + get_or l.backward j 0)) 0 l.k l.block × (l.k ≤ 64)

abbrev pub decreases-loop-k : goal.decreases-loop-k
decreases-loop-k l = 64 - l.k
