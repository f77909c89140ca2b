-- `records::apply_record` meets its contract: each path follows the tests that lead to it. Assumes nothing.
use mathlib.Core.Path.{sym, ◌∙◌}
use native.Mathlib.Omega.{arith}
use borrow.Author.Tests.{eq-eqb, ne_eqb}
use Rattle.symbols.specs.Guard.{require◌else◌then◌}
use Rattle.decode_macroblock.proofs.BlocksLaws.{macroblocks-none}
use Rattle.format3_records.specs.Record.{matrix_kind, slice_kind}
use Rattle.format3_picture.specs.Step.{record_applied_refusing}
use Rattle.format3_picture.proofs.RecordLaws.{matrix-makes-none, slice-makes-none}
use Rattle.format3_picture.proofs.records.apply_record.Goals as goal

pub returns-then-not-in_turn-clause-value : goal.returns-then-not-in_turn-clause-value
unfolding record_applied_refusing require◌else◌then◌
returns-then-not-in_turn-clause-value c = rw (sym c.in_turn.ensures ∙ c.if-not-in_turn.true)

pub returns-then-not-in_turn-clause-output_after : goal.returns-then-not-in_turn-clause-output_after
unfolding record_applied_refusing require◌else◌then◌
returns-then-not-in_turn-clause-output_after c = rw (sym c.in_turn.ensures ∙ c.if-not-in_turn.true) (macroblocks-none _ _ _ _)

pub returns-in-2-clause-value : goal.returns-in-2-clause-value
unfolding record_applied_refusing require◌else◌then◌
returns-in-2-clause-value c = rw (sym c.in_turn.ensures ∙ c.if-not-in_turn.false, eq-eqb c.args.kind matrix_kind c.in-2.is) c.apply_matrix.ensures

pub returns-in-2-clause-output_after : goal.returns-in-2-clause-output_after
unfolding record_applied_refusing require◌else◌then◌
returns-in-2-clause-output_after c =
    rw (sym c.in_turn.ensures ∙ c.if-not-in_turn.false, eq-eqb c.args.kind matrix_kind c.in-2.is, matrix-makes-none) (macroblocks-none _ _ _ _)

pub returns-in-3-clause-value : goal.returns-in-3-clause-value
unfolding record_applied_refusing require◌else◌then◌
returns-in-3-clause-value c = rw (sym c.in_turn.ensures ∙ c.if-not-in_turn.false, c.in-3.is) c.apply_slice.ensures

pub returns-in-3-clause-output_after : goal.returns-in-3-clause-output_after
unfolding record_applied_refusing require◌else◌then◌
returns-in-3-clause-output_after c = rw (sym c.in_turn.ensures ∙ c.if-not-in_turn.false, c.in-3.is, slice-makes-none) (macroblocks-none _ _ _ _)

pub returns-in_default-clause-value : goal.returns-in_default-clause-value
unfolding record_applied_refusing require◌else◌then◌
returns-in_default-clause-value c =
    let no-matrix = ne_eqb c.args.kind matrix_kind (λ e. omega (arith, e)) in
    let no-slice = ne_eqb c.args.kind slice_kind (λ e. omega (arith, e)) in
    rw (sym c.in_turn.ensures ∙ c.if-not-in_turn.false, no-matrix, no-slice) c.apply_macroblock.ensures.value

pub returns-in_default-clause-output_after : goal.returns-in_default-clause-output_after
unfolding record_applied_refusing require◌else◌then◌
returns-in_default-clause-output_after c =
    let no-matrix = ne_eqb c.args.kind matrix_kind (λ e. omega (arith, e)) in
    let no-slice = ne_eqb c.args.kind slice_kind (λ e. omega (arith, e)) in
    rw (sym c.in_turn.ensures ∙ c.if-not-in_turn.false, no-matrix, no-slice) c.apply_macroblock.ensures.output_after
