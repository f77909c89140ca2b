-- `pass::row_pass` meets its contract: before each row, as many columns hold the transformed rows, and the others zeros. Assumes nothing.
-- The line of a row that is not marked is zeros as well.
use Prim.Native.Nat.{◌-◌, ◌≤◌}
use mathlib.Core.Path.{◌≡◌}
use mathlib.Core.Bool.{not}
use lib.IntN.{pos}
use Rattle.math.specs.Test.{count_below}
use Rattle.decode_coefficients.specs.Rows.{is_zero_row}
use Rattle.decode_idct.proofs.Columns.{Columns}
use Rattle.decode_idct.specs.Line.{pass_result}
use Rattle.decode_idct.proofs.pass.row_pass.Given as goal

abbrev pub invariant-loop-row : goal.invariant-loop-row
invariant-loop-row l = Columns (pass_result l.c) (pos 0) l.row l.numbers × (l.rows ≡ count_below l.row (λ w. not (is_zero_row l.c w))) × (l.row ≤ 8)

abbrev pub decreases-loop-row : goal.decreases-loop-row
decreases-loop-row l = 8 - l.row
