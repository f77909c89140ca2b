-- `write::write_predictions` meets its contract: before macroblock k of the run, the first k are written. Assumes nothing.
use mathlib.Core.Path.{refl, ap, ◌∙◌}
use Prim.Native.Nat.{◌+◌}
use native.Mathlib.Omega.{arith}
use Rattle.decode_idct.specs.Transform.{inverse_transform}
use Rattle.decode_macroblock.specs.Compensation.{references}
use Rattle.decode_macroblock.specs.Macroblock.{predicted_only, with_macroblock}
use Rattle.decode_macroblock.proofs.RunLaws.{run-drawable}
use Rattle.decode_macroblock.proofs.BlocksLaws.{run_none, run_more}
use Rattle.decode_macroblock.proofs.write.write_predictions.Goals as goal

pub loop-k-init : goal.loop-k-init
loop-k-init c = (omega arith, run_none _ _ _ _ _ _, refl)

pub write_prediction-requires : goal.write_prediction-requires
write_prediction-requires c = run-drawable _ c.requires c.loop-k-test.true c.loop-k.invariant.2

pub loop-k-preserved : goal.loop-k-preserved
loop-k-preserved c =
    let r = references c.args.forward.now c.args.backward.now in (
      omega arith,
      c.write_prediction.ensures
          ∙ ap (with_macroblock inverse_transform r c.args.size (predicted_only (c.args.first + c.loop-k.k) c.args.motion)) c.loop-k.invariant.1
          ∙ run_more inverse_transform r c.args.size c.args.first c.args.motion c.loop-k.k c.args.output.now,
      c.write_prediction.auto.output ∙ c.loop-k.invariant.2,
    )
