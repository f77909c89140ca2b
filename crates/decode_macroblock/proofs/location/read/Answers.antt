-- `location::read` meets its contract: the plane holds the block, whose coordinates in half pels are twice those in pels. Assumes nothing.
use mathlib.Core.Path.{◌∙◌}
use Rattle.decode_macroblock.proofs.PutLaws.{read_is}
use Rattle.decode_macroblock.proofs.location.read.Goals as goal

pub returns : goal.returns
returns c =
    c.copy_pels.ensures ∙ read_is c.args.location c.args.picture.now c.requires
