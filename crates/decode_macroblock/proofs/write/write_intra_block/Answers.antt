-- `write::write_intra_block` meets its contract: it puts the block's residue at its location. Assumes nothing.
use native.Mathlib.Omega.{arith}
use Rattle.decode_macroblock.proofs.LocationLaws.{location-inside}
use Rattle.decode_macroblock.proofs.write.write_intra_block.Goals as goal

pub put-requires : goal.put-requires
put-requires c = (omega arith, ((omega arith, omega arith), rw (c.block_location-location.ensures, c.requires.1) (location-inside c.args.position c.args.block c.requires.0 c.requires.3)))
