-- `read_field` meets its contract: the window's first n bits are the number. Assumes nothing.
use mathlib.Core.Path.{sym}
use native.Mathlib.Omega.{arith}
use Rattle.mpeg1_vlc.proofs.Laws.Rest.{next-count}
use Rattle.mpeg1_vlc.proofs.Laws.Field.{rest-short, rest-value, value-fits}
use Rattle.mpeg1_vlc.proofs.reader.read_field.Goals as goal

pub returns-then-next-n : goal.returns-then-next-n
returns-then-next-n c =
    sym (rest-short c.args.bytes.now c.args.at c.peek-next.result c.peek-next.ensures c.args.n c.requires.1 (next-count _ c.peek-next.ensures) c.if-next-n.true)

pub overflow_cast-result : goal.overflow_cast-result
overflow_cast-result c =
    record { fits = value-fits c.args.bytes.now c.args.at c.peek-next.result c.peek-next.ensures c.args.n c.requires.1 (omega arith) }

pub returns : goal.returns
returns c =
    sym (rest-value c.args.bytes.now c.args.at c.peek-next.result c.peek-next.ensures c.args.n c.requires.1 (next-count _ c.peek-next.ensures) (omega arith) c.if-next-n.false)
