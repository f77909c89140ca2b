-- `write_records` meets its contract: it writes the slice's record, its first macroblock's, then the others. Assumes nothing.
use Rattle.std.proofs.Common.{rules, ◌≡◌, refl, ap, ◌∙◌, length, arith}
use Rattle.std.specs.Prelude.{Err}
use Rattle.symbols.proofs.Parsed.{all-at, all_none}
use Rattle.format3_writer.specs.Records.{macroblock_record}
use Rattle.format3_writer.proofs.Laws.Written.{written-length}
use Rattle.mpeg1_slice.specs.Slice.{start_address, macroblocks_at}
use Rattle.mpeg1_slice.proofs.Laws.Read.{step-read, step-refused, standing}
use Rattle.mpeg1_slice.proofs.Laws.Onward.{increment-ahead, macroblock-onward}
use Rattle.mpeg1_reader.specs.RecordOffsets.{stopped}
use Rattle.mpeg1_reader.proofs.Laws.Writing.{part-done, part-refused, ends-inside}
use Rattle.mpeg1_reader.proofs.Laws.Slice.{increment-legal, no-increment, no-first, first_read, slice-together}
use Rattle.mpeg1_reader.proofs.Laws.Bounds.{macroblock-size}
use Rattle.mpeg1_reader.proofs.slice.write_records.Goals as goal

pub returns-in_err-increment-clause-records_answered : goal.returns-in_err-increment-clause-records_answered
returns-in_err-increment-clause-records_answered c =
    let returned : c.from_residual.result ≡ Err c.in_err-increment.field-0.0 = search rules in
    rw (returned, no-increment c.args.header c.args.row c.args.scale c.args.bytes.now c.args.from (step-refused _ c.in_err-increment.ensures refl)) stopped

pub returns-in_err-increment-clause-written_at : goal.returns-in_err-increment-clause-written_at
returns-in_err-increment-clause-written_at c = all_none (no-increment _ _ _ _ _ (step-refused _ c.in_err-increment.ensures refl))

pub start_address-start-requires : goal.start_address-start-requires
start_address-start-requires c =
    let legal = all-at (increment-legal _ _) (step-read _ c.in_ok-increment.ensures refl) in
    (c.requires.1, c.requires.2, c.requires.3, legal.least, legal.most)

pub write_macroblock_record-requires : goal.write_macroblock_record-requires
write_macroblock_record-requires c =
    let inside = (all-at (increment-ahead _ (standing c.requires.0)) (step-read _ c.in_ok-increment.ensures refl)).inside in
    (inside, c.requires.1, omega arith)

pub returns-in_err-first-clause-records_answered : goal.returns-in_err-first-clause-records_answered
returns-in_err-first-clause-records_answered c =
    let increment = step-read _ c.in_ok-increment.ensures refl in
    let returned : c.from_residual-in_err-first.result ≡ Err c.in_err-first.field-0.0 = search rules in
    rw (returned, no-first c.args.header c.args.row c.args.scale c.args.bytes.now c.args.from increment (part-refused _ _ c.in_err-first.ensures.value)) stopped

pub returns-in_err-first-clause-written_at : goal.returns-in_err-first-clause-written_at
returns-in_err-first-clause-written_at c = all_none (no-first _ _ _ _ _ (step-read _ c.in_ok-increment.ensures refl) (part-refused _ _ c.in_err-first.ensures.value))

pub overflow_add-end : goal.overflow_add-end
overflow_add-end c = omega (arith, macroblock-size _ _ _ _ c.in_ok-first.ensures.value)

pub write_macroblock_records-requires : goal.write_macroblock_records-requires
write_macroblock_records-requires c =
    let inside = (all-at (increment-ahead _ (standing c.requires.0)) (step-read _ c.in_ok-increment.ensures refl)).inside in
    let first = part-done macroblock_record _ c.in_ok-first.ensures.value in
    let behind = ends-inside _ _ (macroblock-onward _ _ _ (standing inside)) c.in_ok-first.ensures.value in
    let kept = ap length (all-at c.in_ok-first.ensures.written_at first.is) ∙ written-length 6 _ _ ∙ ap length c.write_slice_record.ensures ∙ written-length 0 _ _ in
    (behind, c.requires.1, omega (arith, macroblock-size _ _ _ _ c.in_ok-first.ensures.value, c.requires.4, kept))

pub returns-clause-records_answered : goal.returns-clause-records_answered
returns-clause-records_answered c =
    let first = part-done macroblock_record _ c.in_ok-first.ensures.value in
    let address = start_address c.args.header c.args.row c.in_ok-increment.increment in
    let rest = macroblocks_at c.args.header c.args.bytes.now c.in_ok-first.first.at in
    rw (first_read c.args.header c.args.row c.args.scale c.args.bytes.now c.args.from (step-read _ c.in_ok-increment.ensures refl) first.is)
    (slice-together c.args.scale address first.value rest c.args.room.now first.size
    (rw (← c.start_address-start.ensures) c.write_slice_record.ensures) (all-at c.in_ok-first.ensures.written_at first.is)
    (c.write_macroblock_records.ensures.records_answered, c.write_macroblock_records.ensures.written_at)).0

pub returns-clause-written_at : goal.returns-clause-written_at
returns-clause-written_at c =
    let first = part-done macroblock_record _ c.in_ok-first.ensures.value in
    let address = start_address c.args.header c.args.row c.in_ok-increment.increment in
    let rest = macroblocks_at c.args.header c.args.bytes.now c.in_ok-first.first.at in
    rw (first_read c.args.header c.args.row c.args.scale c.args.bytes.now c.args.from (step-read _ c.in_ok-increment.ensures refl) first.is)
    (slice-together c.args.scale address first.value rest c.args.room.now first.size
    (rw (← c.start_address-start.ensures) c.write_slice_record.ensures) (all-at c.in_ok-first.ensures.written_at first.is)
    (c.write_macroblock_records.ensures.records_answered, c.write_macroblock_records.ensures.written_at)).1
