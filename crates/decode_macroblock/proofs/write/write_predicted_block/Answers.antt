-- `write::write_predicted_block` meets its contract: it puts the block's prediction at its location. Assumes nothing.
use mathlib.Core.Path.{◌∙◌}
use Rattle.decode_idct.specs.Transform.{inverse_transform}
use native.Mathlib.Omega.{arith}
use Rattle.decode_macroblock.proofs.LocationLaws.{location-inside}
use Rattle.decode_macroblock.proofs.CompensationLaws.{predictable}
use Rattle.decode_macroblock.proofs.BlocksLaws.{block-uncoded}
use Rattle.decode_macroblock.proofs.write.write_predicted_block.Goals as goal

pub predict-predicted-requires : goal.predict-predicted-requires
predict-predicted-requires c = rw c.block_location-location.ensures (predictable c.args.block c.requires.0 c.requires.1)

pub put-requires : goal.put-requires
put-requires c = (omega arith, ((omega arith, omega arith), rw (c.block_location-location.ensures, c.requires.0.lent.output-whole) (location-inside c.args.position c.args.block c.requires.0.inside c.requires.1)))

pub returns : goal.returns
returns c =
    rw (block-uncoded inverse_transform _ c.args.position c.args.motion _ c.args.block)
    (c.put.ensures ∙ rw (c.predict-predicted.ensures, c.block_location-location.ensures))
