-- `write::copy_block_at` meets its contract: it copies the block and puts it at its location. Assumes nothing.
use mathlib.Core.Path.{◌∙◌}
use Rattle.decode_macroblock.proofs.CompensationLaws.{copied-predicted}
use native.Mathlib.Omega.{arith}
use Rattle.decode_macroblock.proofs.LocationLaws.{location-inside}
use Rattle.decode_macroblock.proofs.write.copy_block_at.Goals as goal

pub put-requires : goal.put-requires
put-requires c = (omega arith, ((omega arith, omega arith), rw (c.block_location-location.ensures, c.requires.4) (location-inside c.args.position c.args.block c.requires.0 c.requires.3)))

pub returns : goal.returns
returns c =
    c.put.ensures ∙ rw (c.copy_from-copied.ensures, c.block_location-location.ensures, copied-predicted c.args.reference.now c.requires.1.pointing c.requires.2)
