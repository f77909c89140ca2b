-- `format3_read_header` meets its contract: the numbers of a legal size fit. Assumes nothing.
use native.Mathlib.Omega.{arith}
use Rattle.symbols.proofs.Laws.Size.{width_few, height-few}
use Rattle.format3_header.proofs.Laws.FileStart.{told-legal}
use Rattle.format3_c.proofs.format3_read_header.Goals as goal

pub overflow_cast-coding_type-in-Ok : goal.overflow_cast-coding_type-in-Ok
overflow_cast-coding_type-in-Ok c =
    let few = width_few (told-legal _ c.in-Ok.found (rw c.in-Ok.is at c.read_header-answer.ensures.header)) in
    record { fits = omega (arith, few) }

pub overflow_cast-coding_type-in-Ok-2 : goal.overflow_cast-coding_type-in-Ok-2
overflow_cast-coding_type-in-Ok-2 c =
    let few = height-few (told-legal _ c.in-Ok.found (rw c.in-Ok.is at c.read_header-answer.ensures.header)) in
    record { fits = omega (arith, few) }
