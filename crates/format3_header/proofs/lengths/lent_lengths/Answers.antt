-- `lent_lengths` meets its contract: it makes the same tests as `lent_lengths`, in the same order. Assumes nothing.
use mathlib.Core.Bool.{true}
use mathlib.Core.Path.{◌≡◌}
use lib.Dec.{eqb}
use borrow.Author.Tests.{eq-eqb, ne_eqb}
use Rattle.symbols.specs.Guard.{require◌else◌then◌}
use Rattle.symbols.specs.Size.{picture_bytes}
use Rattle.symbols.specs.Header.{uses_forward}
use Rattle.format3_header.specs.Lengths.{reference_length, lent_lengths}
use Rattle.format3_header.proofs.lengths.lent_lengths.Goals as goal

pub returns-then-output-bytes : goal.returns-then-output-bytes
unfolding lent_lengths require◌else◌then◌
returns-then-output-bytes c = rw (← c.bytes.ensures, ne_eqb _ _ c.if-output-bytes.true)

pub returns-then-forward-reference_length : goal.returns-then-forward-reference_length
unfolding lent_lengths require◌else◌then◌
returns-then-forward-reference_length c =
    let output : let a = c.args in eqb a.output (picture_bytes a.header.size) ≡ true = rw (← c.bytes.ensures) (eq-eqb _ _ c.if-output-bytes.false) in
    rw (output, ← c.uses_forward.ensures, ← c.reference_length.ensures, ne_eqb _ _ c.if-forward-reference_length.true)

pub returns-then-backward-reference_length : goal.returns-then-backward-reference_length
unfolding lent_lengths require◌else◌then◌
returns-then-backward-reference_length c =
    let output : let a = c.args in eqb a.output (picture_bytes a.header.size) ≡ true = rw (← c.bytes.ensures) (eq-eqb _ _ c.if-output-bytes.false) in
    let forward : let a = c.args in eqb a.forward (reference_length (uses_forward a.header.coding_type) a.header.size) ≡ true = rw (← c.uses_forward.ensures, ← c.reference_length.ensures) (eq-eqb _ _ c.if-forward-reference_length.false) in
    rw (output, forward, ← c.uses_backward.ensures, ← c.reference_length-2.ensures, ne_eqb _ _ c.if-backward-reference_length.true)
