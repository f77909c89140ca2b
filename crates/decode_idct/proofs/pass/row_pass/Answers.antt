-- `pass::row_pass` meets its contract: before each row, as many columns hold the transformed rows, and the others zeros. Assumes nothing.
-- The line of a row that is not marked is zeros as well.
use Prim.Native.Nat.{ℕ, ◌+◌}
use mathlib.Core.Path.{◌≡◌, refl, sym, ap, ◌∙◌}
use mathlib.Core.Bool.{not}
use native.Mathlib.Nat.{add-zero}
use native.Mathlib.Omega.{arith}
use borrow.Author.Tests.{not-false}
use lib.IntN.{pos}
use Rattle.math.specs.Test.{count_below}
use Rattle.math.proofs.Test.{count_none, count-more, count_most}
use Rattle.decode_coefficients.specs.Rows.{is_zero_row}
use Rattle.decode_coefficients.proofs.MarkLaws.{row-marked}
use Rattle.decode_idct.proofs.Columns.{Columns, columns-none, columns-more, columns-skip, columns-all}
use Rattle.decode_idct.proofs.Passes.{zero_row}
use Rattle.decode_idct.specs.Line.{pass_result}
use Rattle.decode_idct.proofs.pass.row_pass.Goals as goal
use Rattle.decode_idct.proofs.pass.row_pass.Goals.{then-has_row, else-has_row}

pub loop-row-init : goal.loop-row-init
loop-row-init c = (columns-none, sym (count_none _), omega arith)

pub overflow_add-rows : goal.overflow_add-rows
overflow_add-rows c =
    omega (arith, c.loop-row.invariant.1, count_most c.loop-row.row (λ w. not (is_zero_row c.args.c w)))

pub loop-row-preserved : goal.loop-row-preserved
loop-row-preserved c =
    let tested : c.has_row.result ≡ not (is_zero_row c.args.c c.loop-row.row) = c.has_row.ensures ∙ row-marked c.requires.1 c.loop-row.row c.loop-row-test.true in
    let low = c.loop-row-test.true in
    let counted = count-more c.loop-row.row (λ w. not (is_zero_row c.args.c w)) in
    let numbers_after : Columns (pass_result c.args.c) (pos 0) (c.loop-row.row + 1) c.if-has_row.numbers = elim c.if-has_row.branch [
      | then-has_row w ↦ rw (w.numbers-is ∙ w.work_row.ensures) (columns-more c.loop-row.invariant.0 low (λ u b. refl))
      | else-has_row w ↦ rw w.numbers-is (columns-skip c.loop-row.invariant.0 (λ u b. zero_row c.args.c c.loop-row.row low (not-false _ (sym tested ∙ w.if-has_row.false)) u))
    ] in
    let rows-after : c.if-has_row.rows ≡ count_below (c.loop-row.row + 1) (λ w. not (is_zero_row c.args.c w)) = elim c.if-has_row.branch [
      | then-has_row w ↦ w.rows-is ∙ ap (λ (n : ℕ). n + 1) c.loop-row.invariant.1 ∙ sym (rw (sym tested ∙ w.if-has_row.true) at counted)
      | else-has_row w ↦ w.rows-is ∙ c.loop-row.invariant.1 ∙ sym (rw (sym tested ∙ w.if-has_row.false) at counted ∙ add-zero _)
    ] in
    (numbers_after, rows-after, omega arith)

pub returns-clause-numbers_value : goal.returns-clause-numbers_value
returns-clause-numbers_value c =
    let all : c.loop-row.row ≡ 8 = omega arith in
    columns-all c.loop-row.invariant.0 (omega arith)
