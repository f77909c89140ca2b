-- `begun_start` meets its contract: the prefix starts with 23 zeros, so fewer bits can only become it if all are zeros. Assumes nothing.
use mathlib.Core.Path.{sym}
use native.Mathlib.Omega.{arith}
use Rattle.mpeg1_vlc.proofs.Laws.SliceStart.{begun-short, begun-none}
use Rattle.mpeg1_vlc.proofs.slice_start.begun_start.Goals as goal

pub returns-then-front-eq0 : goal.returns-then-front-eq0
returns-then-front-eq0 c = sym (begun-short c.args.height c.args.next c.requires (omega arith) c.if-front-eq0.true)

pub returns : goal.returns
returns c = sym (begun-none c.args.height c.args.next c.requires (omega arith) c.if-front-eq0.false)
