-- `matrix_verdict` meets its contract: it makes the same tests as `matrix_verdict`, in the same order. Assumes nothing.
use mathlib.Core.Bool.{true, false}
use mathlib.Core.Path.{◌≡◌, sym, ◌∙◌}
use Rattle.symbols.specs.Guard.{require◌else◌then◌}
use borrow.Author.Tests.{eq-eqb, ne_eqb}
use Rattle.std.proofs.lemmas.Result.{err_from_is_err_and}
use Rattle.format3_matrices.specs.Matrix.{number_of_matrix, weights_of, positive, loaded_already, matrix_verdict}
use Rattle.format3_matrices.proofs.Laws.Matrix.{known, unknown, weights-are}
use Rattle.format3_matrices.proofs.matrix_verdict.Goals as goal

pub returns-then-body-ne-MATRIX_BODY_LENGTH : goal.returns-then-body-ne-MATRIX_BODY_LENGTH
unfolding matrix_verdict require◌else◌then◌
returns-then-body-ne-MATRIX_BODY_LENGTH c = rw (ne_eqb _ _ c.if-body-ne-MATRIX_BODY_LENGTH.true)

pub returns-in_err-matrix : goal.returns-in_err-matrix
unfolding matrix_verdict require◌else◌then◌
returns-in_err-matrix c =
    let matrix = unknown c.in_err-matrix.ensures in
    let given = err_from_is_err_and c.from_residual.result c.from_residual.ensures.1 in
    rw (eq-eqb _ _ c.if-body-ne-MATRIX_BODY_LENGTH.false, matrix.many, given.1, given.2, matrix.is)

pub returns-then-includes : goal.returns-then-includes
unfolding matrix_verdict require◌else◌then◌
returns-then-includes c =
    let matrix = known c.in_ok-matrix.ensures in
    rw (eq-eqb _ _ c.if-body-ne-MATRIX_BODY_LENGTH.false, matrix.few, matrix.is, ← c.includes.ensures, c.if-includes.true)

pub returns-then-not-all_positive : goal.returns-then-not-all_positive
unfolding matrix_verdict require◌else◌then◌
returns-then-not-all_positive c =
    let matrix = known c.in_ok-matrix.ensures in
    let fresh : loaded_already (number_of_matrix c.in_ok-matrix.matrix) c.args.loaded ≡ false = sym c.includes.ensures ∙ c.if-includes.false in
    let zero : positive (weights_of c.args.body.now) ≡ false = rw weights-are at (sym c.all_positive.ensures ∙ c.if-not-all_positive.true) in
    rw (eq-eqb _ _ c.if-body-ne-MATRIX_BODY_LENGTH.false, matrix.few, matrix.is, fresh, zero)

pub returns-then-not-legal_first : goal.returns-then-not-legal_first
unfolding matrix_verdict require◌else◌then◌
returns-then-not-legal_first c =
    let matrix = known c.in_ok-matrix.ensures in
    let fresh : loaded_already (number_of_matrix c.in_ok-matrix.matrix) c.args.loaded ≡ false = sym c.includes.ensures ∙ c.if-includes.false in
    let weighted : positive (weights_of c.args.body.now) ≡ true = rw weights-are at (sym c.all_positive.ensures ∙ c.if-not-all_positive.false) in
    rw (eq-eqb _ _ c.if-body-ne-MATRIX_BODY_LENGTH.false, matrix.few, matrix.is, fresh, weighted, ← c.legal_first.ensures, c.if-not-legal_first.true)

pub returns : goal.returns
unfolding matrix_verdict require◌else◌then◌
returns c =
    let matrix = known c.in_ok-matrix.ensures in
    let fresh : loaded_already (number_of_matrix c.in_ok-matrix.matrix) c.args.loaded ≡ false = sym c.includes.ensures ∙ c.if-includes.false in
    let weighted : positive (weights_of c.args.body.now) ≡ true = rw weights-are at (sym c.all_positive.ensures ∙ c.if-not-all_positive.false) in
    rw (eq-eqb _ _ c.if-body-ne-MATRIX_BODY_LENGTH.false, matrix.few, matrix.is, fresh, weighted, ← c.legal_first.ensures, c.if-not-legal_first.false)
