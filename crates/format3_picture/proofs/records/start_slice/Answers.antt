-- `records::start_slice` meets its contract: it resets the slice's state if the slice starts at the next address. Assumes nothing.
use mathlib.Core.Path.{sym, ◌∙◌}
use borrow.Author.Tests.{eq-eqb, ne_eqb}
use Rattle.symbols.specs.Guard.{require◌else◌then◌}
use Rattle.format3_picture.specs.Step.{slice_started}
use Rattle.format3_picture.proofs.records.start_slice.Goals as goal

pub returns-then-from-picture : goal.returns-then-from-picture
unfolding slice_started require◌else◌then◌
returns-then-from-picture c = rw (ne_eqb _ _ (λ e. c.if-from-picture.true (c.from.ensures ∙ e)))

pub returns : goal.returns
unfolding slice_started require◌else◌then◌
returns c = rw (eq-eqb _ _ (sym c.from.ensures ∙ c.if-from-picture.false), c.turn_after.ensures, c.after_reset.ensures)
