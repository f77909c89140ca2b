-- `read_slice_start` meets its contract: the next 32 bits decide the start code. Assumes nothing.
use mathlib.Core.Path.{◌∙◌}
use Rattle.mpeg1_vlc.proofs.Laws.SliceStart.{rest-start}
use Rattle.mpeg1_vlc.proofs.slice_start.read_slice_start.Goals as goal

pub returns-then-next-lt24 : goal.returns-then-next-lt24
returns-then-next-lt24 c =
    c.begun_start.ensures ∙ rest-start c.args.height c.args.bytes.now c.args.at c.peek-next.result c.peek-next.ensures

pub returns : goal.returns
returns c =
    c.slice_start.ensures ∙ rest-start c.args.height c.args.bytes.now c.args.at c.peek-next.result c.peek-next.ensures
