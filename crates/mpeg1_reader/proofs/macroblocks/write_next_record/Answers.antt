-- `write_next_record` meets its contract: it reads the increment, then the macroblock. Assumes nothing.
use Rattle.std.proofs.Common.{refl}
use Rattle.symbols.proofs.Parsed.{all-at, all_none}
use Rattle.mpeg1_slice.proofs.Laws.Read.{step-read, step-refused, standing}
use Rattle.mpeg1_slice.proofs.Laws.Onward.{increment-ahead}
use Rattle.mpeg1_reader.proofs.Laws.Macroblocks.{no-increment}
use Rattle.mpeg1_reader.proofs.macroblocks.write_next_record.Goals as goal

pub write_macroblock_record-requires : goal.write_macroblock_record-requires
write_macroblock_record-requires c =
    let inside = (all-at (increment-ahead _ (standing c.requires.0)) (step-read _ c.in_ok-increment.ensures refl)).inside in
    (inside, c.requires.1, c.requires.2)

pub returns-in_err-increment-clause-written_at : goal.returns-in_err-increment-clause-written_at
returns-in_err-increment-clause-written_at c = all_none (no-increment c.args.header _ _ (step-refused _ c.in_err-increment.ensures refl))
