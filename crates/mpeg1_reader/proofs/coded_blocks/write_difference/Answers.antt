-- `write_difference` meets its contract: it writes the difference of an intra block, else nothing. Assumes nothing.
use Rattle.std.proofs.Common.{rules, ◌≡◌, refl, w16, to_z, of_z}
use mir.ValLaws.{to_z-of_z}
use Rattle.symbols.proofs.Parsed.{here, all-as}
use Rattle.format3_writer.specs.Bytes.{big_endian_bytes}
use Rattle.format3_writer.specs.Written.{written}
use Rattle.mpeg1_slice.specs.Blocks.{given_difference_at}
use Rattle.mpeg1_slice.proofs.Laws.Read.{step-read}
use Rattle.mpeg1_reader.proofs.Laws.Writing.{unwritten}
use Rattle.mpeg1_reader.proofs.coded_blocks.write_difference.Goals as goal

pub returns-then-not-intra-clause-written_at : goal.returns-then-not-intra-clause-written_at
unfolding given_difference_at written
returns-then-not-intra-clause-written_at c = rw c.if-not-intra.true (here refl)

pub returns-in_err-difference-clause-written_at : goal.returns-in_err-difference-clause-written_at
unfolding given_difference_at
returns-in_err-difference-clause-written_at c = rw c.if-not-intra.false (unwritten _ _ c.in_err-difference.ensures)

pub returns-clause-written_at : goal.returns-clause-written_at
unfolding given_difference_at big_endian_bytes
returns-clause-written_at c =
    let difference = c.in_ok-difference.difference in
    let same : to_z w16 (of_z w16 difference) ≡ difference = to_z-of_z w16 difference (search rules) in
    rw c.if-not-intra.false (all-as (step-read _ c.in_ok-difference.ensures refl) (rw (← same) c.write_i16.ensures))
