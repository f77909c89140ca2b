-- `write::copy_luma` meets its contract: putting the copied luma pels is putting their four blocks. Assumes nothing.
use mathlib.Core.Path.{◌∙◌}
use native.Mathlib.Omega.{arith}
use Rattle.decode_macroblock.proofs.LumaLaws.{luma-copy-readable, luma-copy-holds, luma-copy-blocks}
use Rattle.decode_macroblock.proofs.write.copy_luma.Goals as goal

pub copy_from-luma-requires : goal.copy_from-luma-requires
copy_from-luma-requires c = (omega arith, ((omega arith, omega arith), luma-copy-readable c.requires.0 c.block_location-location.ensures))

pub put-requires : goal.put-requires
put-requires c = (omega arith, ((omega arith, omega arith), luma-copy-holds c.requires.0 c.block_location-location.ensures))

pub returns : goal.returns
returns c =
    c.put.ensures ∙ rw (c.copy_from-luma.ensures, c.block_location-location.ensures) (luma-copy-blocks c.requires.0 c.requires.1)
