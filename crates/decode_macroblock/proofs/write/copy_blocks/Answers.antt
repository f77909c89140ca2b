-- `write::copy_blocks` meets its contract: with one direction, each block is what its vector points to. Assumes nothing.
use mathlib.Core.Path.{◌∙◌}
use Rattle.decode_idct.specs.Transform.{inverse_transform}
use Rattle.decode_macroblock.specs.Compensation.{references}
use Rattle.decode_macroblock.proofs.BlocksLaws.{blocks-none}
use Rattle.decode_macroblock.proofs.CopyLaws.{forward-copyable, backward-copyable, forward-only, backward-only}
use Rattle.decode_macroblock.proofs.write.copy_blocks.Goals as goal

pub copy_whole_pels-requires : goal.copy_whole_pels-requires
copy_whole_pels-requires c = forward-copyable c.requires c.in-Some-None.is-0

pub copy_whole_pels-requires-in-None-Some : goal.copy_whole_pels-requires-in-None-Some
copy_whole_pels-requires-in-None-Some c = backward-copyable c.requires c.in-None-Some.is-1

pub returns-in-Some-None-clause-output_after : goal.returns-in-Some-None-clause-output_after
returns-in-Some-None-clause-output_after c =
    let r = references c.args.forward.now c.args.backward.now in
    c.copy_whole_pels.ensures.output_after
    ∙ forward-only inverse_transform r c.args.position c.args.motion c.in-Some-None.vector c.copy_whole_pels.result c.args.output.now c.in-Some-None.is-0 c.in-Some-None.is-1

pub returns-in-None-Some-clause-output_after : goal.returns-in-None-Some-clause-output_after
returns-in-None-Some-clause-output_after c =
    let r = references c.args.forward.now c.args.backward.now in
    c.copy_whole_pels-in-None-Some.ensures.output_after
    ∙ backward-only inverse_transform r c.args.position c.args.motion c.in-None-Some.vector c.copy_whole_pels-in-None-Some.result c.args.output.now c.in-None-Some.is-0 c.in-None-Some.is-1

pub returns-in_default-clause-output_after : goal.returns-in_default-clause-output_after
returns-in_default-clause-output_after c = blocks-none _ _ _

pub returns-in_default-2-clause-output_after : goal.returns-in_default-2-clause-output_after
returns-in_default-2-clause-output_after c = blocks-none _ _ _
