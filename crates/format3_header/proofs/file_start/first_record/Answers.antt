-- `first_record` meets its contract: a record that is found lies within the file. Assumes nothing.
use Prim.Native.Nat.{◌+◌, ◌≤◌}
use native.Mathlib.Omega.{arith}
use lib.ListN.{length}
use Rattle.format3_records.proofs.Laws.Record.{inside}
use Rattle.format3_header.proofs.file_start.first_record.Goals as goal

pub overflow_add-end : goal.overflow_add-end
overflow_add-end c =
    let unit = c.in_ok-record.record in
    let within : unit.start + unit.length ≤ length c.args.file.now = rw (← c.record_at.ensures, c.in_ok-record.was) at (inside c.args.file.now 1).fits in
    omega (arith, within)

pub slice_bounds-read_header-end : goal.slice_bounds-read_header-end
slice_bounds-read_header-end c = rw (← c.record_at.ensures, c.in_ok-record.was) at (inside c.args.file.now 1).fits
