-- `read_into` meets its contract: the first reading decides the answer; then the records are copied up to the checkpoint, and the others are
-- written after them. Assumes nothing.
use Rattle.std.proofs.Common.{rules, ◌<◌, ℕ, refl, ap, ◌∙◌, length, arith}
use Rattle.symbols.proofs.Parsed.{all-at}
use Rattle.format3_writer.specs.Written.{max_offset}
use Rattle.format3_writer.proofs.Laws.Written.{written-length}
use Rattle.mpeg1_slice.specs.Slice.{raw_slice_of}
use Rattle.mpeg1_reader.specs.Answer.{accepted_answer}
use Rattle.mpeg1_reader.proofs.Laws.Answer.{measured, never-refused, too_long, it-fits, whole-size, checkpoint-fits, put-long, resumed-there}
use Rattle.mpeg1_reader.proofs.entry.read_into.Goals as goal

pub returns-then-buffer-records-clause-value : goal.returns-then-buffer-records-clause-value
returns-then-buffer-records-clause-value c =
    let read = measured _ c.in_ok-records.ensures.records_answered in
    let short : length c.args.buffer.now < max_offset = omega (arith, c.well_formed) in
    rw (too_long (raw_slice_of c.args.header c.args.bytes.now) read c.args.buffer.now short c.if-buffer-records.true) (search rules)

pub returns-then-buffer-records-clause-buffer_after : goal.returns-then-buffer-records-clause-buffer_after
returns-then-buffer-records-clause-buffer_after c =
    let read = measured _ c.in_ok-records.ensures.records_answered in
    let short : length c.args.buffer.now < max_offset = omega (arith, c.well_formed) in
    rw (too_long (raw_slice_of c.args.header c.args.bytes.now) read c.args.buffer.now short c.if-buffer-records.true) refl

pub put_front-requires : goal.put_front-requires
put_front-requires c =
    let read = measured _ c.in_ok-records.ensures.records_answered in
    let short : length c.args.buffer.now < max_offset = omega (arith, c.well_formed) in
    let kept = ap length (all-at c.in_ok-records.ensures.written_at read.is) ∙ written-length 0 _ c.args.room.now in
    (omega (arith, read.resumes.whole, kept), checkpoint-fits _ read c.args.buffer.now short c.if-buffer-records.false)

pub write_macroblock_records-requires : goal.write_macroblock_records-requires
write_macroblock_records-requires c =
    let read = measured _ c.in_ok-records.ensures.records_answered in
    let kept = ap length (all-at c.in_ok-records.ensures.written_at read.is) ∙ written-length 0 _ c.args.room.now in
    (read.resumes.inside, c.requires.0, rw c.put_front.ensures (put-long _ _ _ (omega (arith, read.resumes.whole, kept))))

pub returns-in_err-write_macroblock_records-clause-value : goal.returns-in_err-write_macroblock_records-clause-value
returns-in_err-write_macroblock_records-clause-value c =
    absurd (never-refused _ c.in_err-write_macroblock_records.ensures.records_answered (measured _ c.in_ok-records.ensures.records_answered).resumes.read)

pub returns-in_err-write_macroblock_records-clause-buffer_after : goal.returns-in_err-write_macroblock_records-clause-buffer_after
returns-in_err-write_macroblock_records-clause-buffer_after c =
    absurd (never-refused _ c.in_err-write_macroblock_records.ensures.records_answered (measured _ c.in_ok-records.ensures.records_answered).resumes.read)

pub returns-clause-value : goal.returns-clause-value
returns-clause-value c =
    let slice = raw_slice_of c.args.header c.args.bytes.now in
    let read = measured slice c.in_ok-records.ensures.records_answered in
    let short : length c.args.buffer.now < max_offset = omega (arith, c.well_formed) in
    let fits = c.if-buffer-records.false in
    rw (it-fits slice read c.args.buffer.now short fits) (ap (λ (n : ℕ). accepted_answer n c.in_ok-records.records.at) (whole-size slice read c.args.buffer.now short fits))

pub returns-clause-buffer_after : goal.returns-clause-buffer_after
returns-clause-buffer_after c =
    let slice = raw_slice_of c.args.header c.args.bytes.now in
    let read = measured slice c.in_ok-records.ensures.records_answered in
    let short : length c.args.buffer.now < max_offset = omega (arith, c.well_formed) in
    let fits = c.if-buffer-records.false in
    rw (it-fits slice read c.args.buffer.now short fits)
    (resumed-there slice read c.args.buffer.now short c.args.room.now refl fits c.in_ok-records.ensures.written_at c.put_front.ensures c.in_ok-write_macroblock_records.ensures.written_at)
