-- `write::write_macroblock` meets its contract: six blocks at the address, intra if neither direction is used. Assumes nothing.
use mathlib.Core.Path.{◌∙◌}
use Rattle.decode_coefficients.specs.BlockArray.{six_blocks}
use Rattle.decode_idct.specs.Transform.{inverse_transform}
use Rattle.decode_macroblock.specs.Location.{macroblock_position}
use Rattle.decode_macroblock.specs.Compensation.{references}
use Rattle.decode_macroblock.proofs.RunLaws.{blocks-drawable}
use Rattle.decode_macroblock.proofs.ResidueLaws.{intra-blocks}
use Rattle.decode_macroblock.proofs.write.write_macroblock.Goals as goal

pub returns-then-is_none-2-clause-output_after : goal.returns-then-is_none-2-clause-output_after
returns-then-is_none-2-clause-output_after c = c.write_intra.ensures.output_after ∙ rw c.macroblock_position-position.ensures
    (intra-blocks inverse_transform (references c.args.forward.now c.args.backward.now) (macroblock_position c.args.size c.args.address) c.args.motion c.args.pattern (six_blocks c.args.coefficients.now) c.args.output.now
    c.if-is_none.ensures c.if-is_none-2.ensures)

pub write_inter-requires : goal.write_inter-requires
write_inter-requires c =
    (rw c.macroblock_position-position.ensures (blocks-drawable c.requires.0), c.requires.1)
