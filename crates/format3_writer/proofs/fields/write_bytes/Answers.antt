-- `fields::write_bytes` meets its contract: it copies as many bytes as the buffer still holds. Assumes nothing.
use mathlib.Core.List.{append_assoc}
use mathlib.Core.Path.{sym}
use native.Mathlib.Nat.{add-sub_cancel_left}
use native.Mathlib.Omega.{arith}
use lib.Seq.{drop-drop}
use Rattle.format3_writer.proofs.Laws.Written.{written-fitting}
use Rattle.format3_writer.proofs.fields.write_bytes.Goals as goal

pub returns : goal.returns
returns c =
    rw (add-sub_cancel_left, c.copy_from_slice.ensures.after, drop-drop, ← append_assoc)
    (sym (written-fitting c.args.at c.min-fitting.result c.args.bytes.now c.args.buffer.now (omega arith) c.min-fitting.ensures))
