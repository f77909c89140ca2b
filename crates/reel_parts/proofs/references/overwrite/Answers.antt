-- `overwrite` meets its contract: it copies as many bytes as fit. Assumes nothing.
use mathlib.Core.Path.{sym, ◌∙◌}
use native.Mathlib.Omega.{arith}
use lib.ListN.{length-take}
use Rattle.format3_writer.proofs.Laws.Written.{written-clipped, written-whole}
use Rattle.reel_parts.proofs.references.overwrite.Goals as goal

pub returns : goal.returns
returns c =
    rw c.copy_from_slice.ensures.after
    (sym (written-clipped c.args.bytes.now c.args.buffer.now ∙ rw (← c.first-part.ensures) (written-whole c.first-part.result.now c.args.buffer.now (rw c.first-part.ensures (simp length-take (omega arith))))))
