-- `read_word` meets its contract: eight bits decide the code unless five zeros lead to the next row, where 13 bits do. Assumes nothing.
use mathlib.Core.Path.{◌∙◌}
use native.Mathlib.Omega.{arith}
use Rattle.mpeg1_vlc.proofs.Laws.Level.{second-code, first-code}
use Rattle.mpeg1_vlc.proofs.Laws.Rest.{next-count, list-code}
use Rattle.mpeg1_vlc.proofs.reader.read_word.Goals as goal

pub returns-then-next-lt-PAST_FIVE_ZEROS : goal.returns-then-next-lt-PAST_FIVE_ZEROS
returns-then-next-lt-PAST_FIVE_ZEROS c =
    c.look_up.ensures
    ∙ rw c.row-row.ensures (second-code c.args.list _ c.has_long_words.ensures c.peek-next.result (omega arith) (next-count _ c.peek-next.ensures) c.if-has_long_words.true)
    ∙ list-code c.args.list c.args.bytes.now c.args.at c.peek-next.result c.peek-next.ensures

pub returns : goal.returns
returns c =
    c.look_up-2.ensures
    ∙ rw c.row-row.ensures (first-code c.args.list _ c.has_long_words.ensures c.peek-next.result (omega arith) (next-count _ c.peek-next.ensures) c.else-has_long_words.either)
    ∙ list-code c.args.list c.args.bytes.now c.args.at c.peek-next.result c.peek-next.ensures
