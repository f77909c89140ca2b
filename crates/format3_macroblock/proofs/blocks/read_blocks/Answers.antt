-- `read_blocks` meets its contract: the array holds the blocks read so far. Assumes nothing.
-- The loop's invariant adds that these blocks plus those still to be read are all six.
use mathlib.Core.Path.{◌≡◌}
use native.Mathlib.Omega.{arith}
use Rattle.std.proofs.Common.{rules}
use Rattle.std.specs.Prelude.{Err}
use Rattle.decode_coefficients.proofs.MarkLaws.{none-stored}
use Rattle.format3_records.proofs.Laws.Field.{rest_from}
use Rattle.format3_macroblock.proofs.Laws.BlockArray.{at-start, ends, stops, one_more}
use Rattle.format3_macroblock.proofs.blocks.read_blocks.Goals as goal

pub loop-block-init : goal.loop-block-init
loop-block-init c = (at-start _ _ _ _ c.requires.0, rw (c.requires.2, c.requires.3) none-stored)

pub returns-in_err-next-clause-parses_as : goal.returns-in_err-next-clause-parses_as
returns-in_err-next-clause-parses_as c =
    let answer : c.from_residual.result ≡ Err c.in_err-next.field-0.0 = search rules in
    rw answer (stops _ _ _ _ c.loop-block.invariant.0 c.loop-block-test.true (rw (rest_from, c.in_err-next.was) at c.read_block.ensures.parses_as))

pub loop-block-preserved : goal.loop-block-preserved
loop-block-preserved c =
    (one_more _ _ _ _ c.loop-block.invariant.0 c.loop-block-test.true (rw (rest_from, c.in_ok-next.was) at c.read_block.ensures.parses_as), c.read_block.ensures.blocks_marked)

pub returns-clause-parses_as : goal.returns-clause-parses_as
returns-clause-parses_as c = ends _ _ _ _ c.loop-block.invariant.0 (omega arith) c.requires.2
