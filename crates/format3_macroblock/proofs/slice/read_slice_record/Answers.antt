-- `read_slice_record` meets its contract: it tests the length first, as `slice_of` does. Assumes nothing.
use borrow.Author.Tests.{ne_eqb}
use Rattle.symbols.specs.Guard.{require◌else◌then◌}
use Rattle.format3_macroblock.specs.Slice.{slice_of}
use Rattle.format3_macroblock.proofs.slice.read_slice_record.Goals as goal

pub returns-then-body-ne-SLICE_BODY_LENGTH : goal.returns-then-body-ne-SLICE_BODY_LENGTH
unfolding slice_of require◌else◌then◌
returns-then-body-ne-SLICE_BODY_LENGTH c = rw (ne_eqb _ _ c.if-body-ne-SLICE_BODY_LENGTH.true)
