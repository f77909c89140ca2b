-- `write::write_predictions` meets its contract: before macroblock k of the run, the first k are written. Assumes nothing.
use mathlib.Core.Path.{◌≡◌}
use Prim.Native.Nat.{◌-◌, ◌≤◌}
use lib.ListN.{length}
use Rattle.decode_idct.specs.Transform.{inverse_transform}
use Rattle.decode_macroblock.specs.Compensation.{references}
use Rattle.decode_macroblock.specs.Macroblock.{predicted_only_from, with_macroblocks}
use Rattle.decode_macroblock.proofs.write.write_predictions.Given as goal

abbrev pub invariant-loop-k : goal.invariant-loop-k
invariant-loop-k l =
    (l.k ≤ l.skipped) × (l.output ≡ with_macroblocks inverse_transform (references l.forward l.backward) l.size (predicted_only_from l.first l.k l.motion) l.initial.output) × (length l.output ≡ length l.initial.output)

abbrev pub decreases-loop-k : goal.decreases-loop-k
decreases-loop-k l = l.skipped - l.k
