-- `write::predict_blocks` meets its contract: before block b, the first b blocks are written; the first ones were copied. Assumes nothing.
use mathlib.Core.Path.{ap, ◌∙◌}
use mathlib.Core.List.{[]}
use native.Mathlib.Omega.{arith}
use Rattle.decode_idct.specs.Transform.{inverse_transform}
use Rattle.decode_macroblock.specs.Location.{block_location, put_at}
use Rattle.decode_macroblock.specs.Compensation.{references}
use Rattle.decode_macroblock.specs.Block.{pels_of}
use Rattle.decode_macroblock.proofs.BlocksLaws.{blocks_more}
use Rattle.decode_macroblock.proofs.write.predict_blocks.Goals as goal

pub loop-block-preserved : goal.loop-block-preserved
loop-block-preserved c =
    let pels = pels_of inverse_transform (references c.args.forward.now c.args.backward.now) c.args.position c.args.motion 0 [] in (
      omega arith,
      (λ entry e. c.write_predicted_block.ensures ∙ ap (put_at (block_location c.args.position c.loop-block.block) (pels c.loop-block.block)) (c.loop-block.invariant.1 entry e) ∙ blocks_more c.args.position pels c.loop-block.block entry),
      c.write_predicted_block.auto.output ∙ c.loop-block.invariant.2,
    )
