-- `macroblock_record::apply_macroblock` meets its contract: it reads and plans the symbols, or passes on the refusal. Assumes nothing.
-- The pattern then decides whether blocks are read.
use mathlib.Core.Path.{◌≡◌, sym, ap, ◌∙◌, subst}
use native.Mathlib.Omega.{arith}
use lib.ListN.{drop, length-drop}
use Rattle.std.proofs.Common.{rules}
use Rattle.std.specs.Prelude.{Err}
use Rattle.decode_idct.specs.Transform.{inverse_transform}
use Rattle.decode_macroblock.specs.Compensation.{references}
use Rattle.decode_macroblock.proofs.BlocksLaws.{macroblocks-none}
use Rattle.decode_state.specs.declared.plan.Plan.{Plan}
use Rattle.format3_records.proofs.Laws.Field.{rest_from}
use Rattle.format3_picture.specs.MacroblockRecord.{fit_verdict}
use Rattle.format3_picture.specs.Requires.{PlanWithin, PlanWritable}
use Rattle.format3_picture.proofs.ReadLaws.{given-legal, symbols-refused, given, symbols-read, bytes-behind, uncoded}
use Rattle.format3_picture.proofs.InvariantLaws.{plannable, makeable}
use Rattle.format3_picture.proofs.macroblock_record.apply_macroblock.Goals as goal

pub returns-in_err-symbols-clause-value : goal.returns-in_err-symbols-clause-value
returns-in_err-symbols-clause-value c =
    let answer : c.from_residual.result ≡ Err c.in_err-symbols.field-0.0 = search rules in
    rw (answer, symbols-refused c.args.matrices.now c.args.picture c.args.body.now (rw c.context_of.ensures at c.in_err-symbols.ensures))

pub returns-in_err-symbols-clause-output_after : goal.returns-in_err-symbols-clause-output_after
returns-in_err-symbols-clause-output_after c =
    rw (symbols-refused c.args.matrices.now c.args.picture c.args.body.now (rw c.context_of.ensures at c.in_err-symbols.ensures)) (macroblocks-none _ _ _ _)

pub make_plan-plan-requires : goal.make_plan-plan-requires
make_plan-plan-requires c =
    let given = given c.args.matrices.now c.args.picture c.args.body.now (rw c.context_of.ensures at c.in_ok-symbols.ensures) in
    plannable c.args.picture _ c.requires.state (given-legal given)

pub record_fit-requires : goal.record_fit-requires
record_fit-requires c =
    let given = given c.args.matrices.now c.args.picture c.args.body.now (rw c.context_of.ensures at c.in_ok-symbols.ensures) in
    let planned = rw c.reset-dc.ensures at c.make_plan-plan.ensures in
    subst (PlanWithin c.args.picture.header.size) (sym planned) (makeable c.args.picture _ c.requires.state (given-legal given) c.requires.lent).planned

pub apply_coded-requires : goal.apply_coded-requires
apply_coded-requires c =
    let given = given c.args.matrices.now c.args.picture c.args.body.now (rw c.context_of.ensures at c.in_ok-symbols.ensures) in
    (c.requires, given, rw c.reset-dc.ensures at c.make_plan-plan.ensures, c.fit_verdict-fits.ensures ∙ ap fit_verdict c.record_fit.ensures)

pub returns-then-symbols-ne0-clause-value : goal.returns-then-symbols-ne0-clause-value
returns-then-symbols-ne0-clause-value c = rw (symbols-read c.args.matrices.now c.args.picture c.args.body.now (rw c.context_of.ensures at c.in_ok-symbols.ensures)) (rw rest_from at c.apply_coded.ensures.value)

pub returns-then-symbols-ne0-clause-output_after : goal.returns-then-symbols-ne0-clause-output_after
returns-then-symbols-ne0-clause-output_after c = rw (symbols-read c.args.matrices.now c.args.picture c.args.body.now (rw c.context_of.ensures at c.in_ok-symbols.ensures)) (rw rest_from at c.apply_coded.ensures.output_after)

pub returns-then-rest-gt0-clause-value : goal.returns-then-rest-gt0-clause-value
returns-then-rest-gt0-clause-value c =
    let behind = bytes-behind c.args.matrices.now c.args.picture c.in_ok-symbols.symbols (drop c.in_ok-symbols.end.at c.args.body.now) c.if-symbols-ne0.false (omega (arith, length-drop c.in_ok-symbols.end.at c.args.body.now, c.if-rest-gt0.true)) in
    rw (symbols-read c.args.matrices.now c.args.picture c.args.body.now (rw c.context_of.ensures at c.in_ok-symbols.ensures), behind)

pub returns-then-rest-gt0-clause-output_after : goal.returns-then-rest-gt0-clause-output_after
returns-then-rest-gt0-clause-output_after c =
    let behind = bytes-behind c.args.matrices.now c.args.picture c.in_ok-symbols.symbols (drop c.in_ok-symbols.end.at c.args.body.now) c.if-symbols-ne0.false (omega (arith, length-drop c.in_ok-symbols.end.at c.args.body.now, c.if-rest-gt0.true)) in
    rw (symbols-read c.args.matrices.now c.args.picture c.args.body.now (rw c.context_of.ensures at c.in_ok-symbols.ensures), behind) (macroblocks-none _ _ _ _)

pub write_predicted-requires : goal.write_predicted-requires
write_predicted-requires c =
    let found = rw c.context_of.ensures at c.in_ok-symbols.ensures in
    let given = given c.args.matrices.now c.args.picture c.args.body.now found in
    let planned = rw c.reset-dc.ensures at c.make_plan-plan.ensures in
    let uncoded = uncoded c.args.matrices.now c.args.picture c.in_ok-symbols.symbols (drop c.in_ok-symbols.end.at c.args.body.now) c.if-symbols-ne0.false planned given (omega (arith, length-drop c.in_ok-symbols.end.at c.args.body.now, c.if-rest-gt0.false)) in (
      subst (λ (p : Plan). PlanWritable c.args.picture p c.args.forward.now c.args.backward.now c.args.output.now) (sym planned)
          (makeable c.args.picture _ c.requires.state (given-legal given) c.requires.lent),
      c.fit_verdict-fits.ensures ∙ ap fit_verdict c.record_fit.ensures,
      uncoded.pattern,
    )

pub returns-clause-value : goal.returns-clause-value
returns-clause-value c =
    let found = rw c.context_of.ensures at c.in_ok-symbols.ensures in
    let given = given c.args.matrices.now c.args.picture c.args.body.now found in
    let planned = rw c.reset-dc.ensures at c.make_plan-plan.ensures in
    let uncoded = uncoded c.args.matrices.now c.args.picture c.in_ok-symbols.symbols (drop c.in_ok-symbols.end.at c.args.body.now) c.if-symbols-ne0.false planned given (omega (arith, length-drop c.in_ok-symbols.end.at c.args.body.now, c.if-rest-gt0.false)) in
    rw (symbols-read c.args.matrices.now c.args.picture c.args.body.now found, uncoded.outcome) c.write_predicted.ensures.value

pub returns-clause-output_after : goal.returns-clause-output_after
returns-clause-output_after c =
    let found = rw c.context_of.ensures at c.in_ok-symbols.ensures in
    let given = given c.args.matrices.now c.args.picture c.args.body.now found in
    let planned = rw c.reset-dc.ensures at c.make_plan-plan.ensures in
    let uncoded = uncoded c.args.matrices.now c.args.picture c.in_ok-symbols.symbols (drop c.in_ok-symbols.end.at c.args.body.now) c.if-symbols-ne0.false planned given (omega (arith, length-drop c.in_ok-symbols.end.at c.args.body.now, c.if-rest-gt0.false)) in
    rw (symbols-read c.args.matrices.now c.args.picture c.args.body.now found, uncoded.output inverse_transform (references c.args.forward.now c.args.backward.now) c.args.output.now) c.write_predicted.ensures.output_after
