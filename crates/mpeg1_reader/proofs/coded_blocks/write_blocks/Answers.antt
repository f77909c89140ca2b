-- `write_blocks` meets its contract: it writes each block after the previous ones. Assumes nothing.
use Rattle.std.proofs.Common.{rules, arith, refl}
use Rattle.symbols.proofs.Parsed.{all-as, all_none}
use Rattle.format3_writer.specs.Records.{block_bytes}
use Rattle.mpeg1_slice.proofs.Laws.Read.{standing}
use Rattle.mpeg1_slice.proofs.Laws.Onward.{given-block-onward}
use Rattle.mpeg1_reader.proofs.Laws.Writing.{part-done, part-refused, ends-inside}
use Rattle.mpeg1_reader.proofs.Laws.Blocks.{coded-block-size, passed_none, passed-refused, passed-end, passed-more}
use Rattle.mpeg1_reader.proofs.coded_blocks.write_blocks.Goals as goal

pub loop-block-init : goal.loop-block-init
loop-block-init c = passed_none _ _ _ _ _ _ c.requires.0

pub returns-in_err-more-clause-value : goal.returns-in_err-more-clause-value
returns-in_err-more-clause-value c =
    rw (passed-refused _ _ _ _ _ c.loop-block.invariant c.loop-block-test.true (part-refused _ _ c.in_err-more.ensures.value)) (search rules)

pub returns-in_err-more-clause-written_at : goal.returns-in_err-more-clause-written_at
returns-in_err-more-clause-written_at c = all_none (passed-refused _ _ _ _ _ c.loop-block.invariant c.loop-block-test.true (part-refused _ _ c.in_err-more.ensures.value))

pub overflow_add-size : goal.overflow_add-size
overflow_add-size c = omega (arith, coded-block-size _ _ _ _ _ c.in_ok-more.ensures.value, c.loop-block.invariant.few, c.loop-block-test.true)

pub loop-block-preserved : goal.loop-block-preserved
loop-block-preserved c =
    let some = part-done (block_bytes c.args.intra) _ c.in_ok-more.ensures.value in
    let inside = ends-inside _ _ (given-block-onward _ _ _ _ (standing c.loop-block.invariant.inside)) c.in_ok-more.ensures.value in
    passed-more _ _ _ _ _ c.loop-block.invariant c.loop-block-test.true some c.in_ok-more.ensures.written_at inside

pub returns-clause-value : goal.returns-clause-value
returns-clause-value c = rw (passed-end _ _ _ _ _ c.loop-block.invariant c.loop-block-test.false, c.loop-block.invariant.counted) refl

pub returns-clause-written_at : goal.returns-clause-written_at
returns-clause-written_at c = all-as (passed-end _ _ _ _ _ c.loop-block.invariant c.loop-block-test.false) c.loop-block.invariant.there
