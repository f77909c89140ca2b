-- `shown_body` meets its contract: it slices the body that `record_at` found, which lies within the file. Assumes nothing.
use Prim.Native.Nat.{◌+◌, ◌≤◌}
use native.Mathlib.Omega.{arith}
use lib.ListN.{length}
use Rattle.format3_records.proofs.Laws.Record.{inside}
use Rattle.format3_records.proofs.record.shown_body.Goals as goal

pub overflow_add-result : goal.overflow_add-result
overflow_add-result c =
    let within : c.in-Ok.record.start + c.in-Ok.record.length ≤ length c.args.file.now = let a = c.args in rw (← c.record_at.ensures, c.in-Ok.is) at (inside a.file.now a.offset).fits in
    omega (arith, within)

pub slice_bounds-result-end : goal.slice_bounds-result-end
slice_bounds-result-end c =
    let within : c.in-Ok.record.start + c.in-Ok.record.length ≤ length c.args.file.now = let a = c.args in rw (← c.record_at.ensures, c.in-Ok.is) at (inside a.file.now a.offset).fits in
    within
