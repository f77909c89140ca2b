-- `macroblock::read_blocks_to_end` meets its contract: it reads six blocks with the macroblock's matrix, and no byte is left. Assumes nothing.
use mathlib.Core.Path.{◌≡◌}
use Rattle.std.proofs.Common.{rules}
use Rattle.std.specs.Prelude.{Err}
use Rattle.format3_macroblock.proofs.Laws.Macroblock.{six-stop, bytes_left, no-byte-left}
use Rattle.format3_macroblock.proofs.macroblock.read_blocks_to_end.Goals as goal

pub returns-in_err-pasts-clause-parses_as : goal.returns-in_err-pasts-clause-parses_as
returns-in_err-pasts-clause-parses_as c =
    let answer : c.from_residual.result ≡ Err c.in_err-pasts.field-0.0 = search rules in
    rw answer (six-stop _ _ _ _ _ (rw (c.matrix_for-matrix.ensures, c.has_part-is_intra.ensures) at c.in_err-pasts.ensures.parses_as))

pub returns-then-end-rest-clause-parses_as : goal.returns-then-end-rest-clause-parses_as
returns-then-end-rest-clause-parses_as c = bytes_left _ _ _ _ _ (rw (c.matrix_for-matrix.ensures, c.has_part-is_intra.ensures) at c.in_ok-pasts.ensures.parses_as) c.if-end-rest.true

pub returns-clause-parses_as : goal.returns-clause-parses_as
returns-clause-parses_as c = no-byte-left _ _ _ _ _ (rw (c.matrix_for-matrix.ensures, c.has_part-is_intra.ensures) at c.in_ok-pasts.ensures.parses_as) c.if-end-rest.false
