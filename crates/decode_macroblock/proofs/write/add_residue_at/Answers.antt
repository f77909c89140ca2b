-- `write::add_residue_at` meets its contract: it reads the pels at the block's location, adds the residue, and puts them back.
-- Assumes nothing.
use native.Mathlib.Omega.{arith}
use Rattle.decode_macroblock.proofs.LocationLaws.{location-inside}
use Rattle.decode_macroblock.proofs.write.add_residue_at.Goals as goal

pub read-predicted-requires : goal.read-predicted-requires
read-predicted-requires c =
    rw (c.block_location-location.ensures, c.requires.1) (location-inside c.args.position c.args.block c.requires.0 c.requires.3)

pub put-requires : goal.put-requires
put-requires c = (omega arith, ((omega arith, omega arith), rw (c.block_location-location.ensures, c.requires.1) (location-inside c.args.position c.args.block c.requires.0 c.requires.3)))
