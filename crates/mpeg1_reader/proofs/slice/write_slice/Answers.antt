-- `write_slice` meets its contract: it reads the head, then writes the records of what follows. Assumes nothing.
use Rattle.std.proofs.Common.{rules, ◌≡◌}
use Rattle.std.specs.Prelude.{Err}
use Rattle.symbols.proofs.Parsed.{all-at, all_none}
use Rattle.mpeg1_reader.specs.RecordOffsets.{stopped}
use Rattle.mpeg1_reader.proofs.Laws.Writing.{refused-is}
use Rattle.mpeg1_reader.proofs.Laws.Start.{head-found, head-row}
use Rattle.mpeg1_reader.proofs.Laws.Slice.{no_start}
use Rattle.mpeg1_reader.proofs.slice.write_slice.Goals as goal

pub returns-in_err-head-clause-records_answered : goal.returns-in_err-head-clause-records_answered
returns-in_err-head-clause-records_answered c =
    let returned : c.from_residual.result ≡ Err c.in_err-head.field-0.0 = search rules in
    rw (returned, no_start c.args.header c.args.bytes.now (refused-is _ _ c.in_err-head.ensures)) stopped

pub returns-in_err-head-clause-written_at : goal.returns-in_err-head-clause-written_at
returns-in_err-head-clause-written_at c = all_none (no_start c.args.header c.args.bytes.now (refused-is _ _ c.in_err-head.ensures))

pub write_records-requires : goal.write_records-requires
write_records-requires c =
    let known = all-at (head-row _ _) (head-found _ c.in_ok-head.ensures) in
    (known.inside, c.requires.0, known.least, known.most, c.requires.2)
