-- `write_macroblock_records` meets its contract: it writes each record after the previous ones until only zero bits are left. Assumes nothing.
use Rattle.std.proofs.Common.{rules, ◌≡◌, false, sym, ◌∙◌, arith}
use Rattle.std.specs.Prelude.{Err}
use Rattle.symbols.proofs.Parsed.{all-as, all_none}
use Rattle.format3_writer.specs.Records.{macroblock_record}
use Rattle.mpeg1_bits.specs.Bits.{all_zeros, bits_from}
use Rattle.mpeg1_reader.specs.RecordOffsets.{done, stopped}
use Rattle.mpeg1_reader.proofs.Laws.Writing.{part-done, part-refused}
use Rattle.mpeg1_reader.proofs.Laws.Macroblocks.{split-resumes, passed_none, passed-end, passed-refused, passed-more, passed-ahead}
use Rattle.mpeg1_reader.proofs.macroblocks.write_macroblock_records.Goals as goal

pub loop-header-init : goal.loop-header-init
loop-header-init c = passed_none _ _ _ _ _ (omega (arith, c.well_formed)) c.requires.2 c.requires.0

pub returns-in_err-more-clause-records_answered : goal.returns-in_err-more-clause-records_answered
returns-in_err-more-clause-records_answered c =
    let more : all_zeros (bits_from c.args.bytes.now c.loop-header.at) ≡ false = sym c.only_zeros_left.ensures ∙ c.loop-header-test.true in
    let returned : c.from_residual.result ≡ Err c.in_err-more.field-0.0 = search rules in
    rw (returned, passed-refused _ _ _ _ c.loop-header.invariant more (part-refused _ _ c.in_err-more.ensures.value)) stopped

pub returns-in_err-more-clause-written_at : goal.returns-in_err-more-clause-written_at
returns-in_err-more-clause-written_at c =
    let more : all_zeros (bits_from c.args.bytes.now c.loop-header.at) ≡ false = sym c.only_zeros_left.ensures ∙ c.loop-header-test.true in
    all_none (passed-refused _ _ _ _ c.loop-header.invariant more (part-refused _ _ c.in_err-more.ensures.value))

pub loop-header-smaller : goal.loop-header-smaller
loop-header-smaller c =
    let one = part-done macroblock_record _ c.in_ok-more.ensures.value in
    let ahead = passed-ahead _ _ _ _ c.loop-header.invariant one.is in
    omega (arith, ahead.further, ahead.inside.not_past)

pub loop-header-preserved : goal.loop-header-preserved
loop-header-preserved c =
    let more : all_zeros (bits_from c.args.bytes.now c.loop-header.at) ≡ false = sym c.only_zeros_left.ensures ∙ c.loop-header-test.true in
    let one = part-done macroblock_record _ c.in_ok-more.ensures.value in
    rw (c.or_next-whole.ensures, c.saturating_add-end.ensures) (passed-more _ _ _ _ c.loop-header.invariant (omega (arith, c.well_formed)) more one c.in_ok-more.ensures.written_at)

pub returns-clause-records_answered : goal.returns-clause-records_answered
returns-clause-records_answered c =
    let e = passed-end _ _ _ _ c.loop-header.invariant (sym c.only_zeros_left.ensures ∙ c.loop-header-test.false) in
    rw (e, c.loop-header.invariant.counted) (done (split-resumes c.loop-header.invariant.split e))

pub returns-clause-written_at : goal.returns-clause-written_at
returns-clause-written_at c = all-as (passed-end _ _ _ _ c.loop-header.invariant (sym c.only_zeros_left.ensures ∙ c.loop-header-test.false)) c.loop-header.invariant.there
