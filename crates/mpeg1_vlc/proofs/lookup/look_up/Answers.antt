-- `look_up` meets its contract: the bits after the row's zeros are the index of the entry for just these bits. Assumes nothing.
use mathlib.Core.Path.{◌∙◌}
use Rattle.mpeg1_vlc.proofs.Laws.LookUp.{looked-up}
use Rattle.mpeg1_vlc.proofs.lookup.look_up.Goals as goal

pub returns : goal.returns
returns c = c.code.ensures ∙ looked-up c.args.row c.args.zeros c.args.next c.requires c.if-next-zeros.false
