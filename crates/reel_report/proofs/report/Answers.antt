-- `report` meets its contract: it makes the test of `report_of`, and the buffer has room for every line of a reel it plays. Assumes nothing.
use native.Mathlib.Omega.{arith}
use Rattle.format3_writer.proofs.Laws.Written.{written-length}
use Rattle.text_writer.proofs.PutLaws.{put, put_whole}
use Rattle.reel_report.specs.Text.{long_text}
use Rattle.reel_report.specs.Report.{lines_of, report_of}
use Rattle.reel_report.proofs.report.Goals as goal

pub returns-then-is_long-clause-text_after : goal.returns-then-is_long-clause-text_after
unfolding report_of
returns-then-is_long-clause-text_after c = rw (← c.is_long.ensures, c.if-is_long.true) ((put_whole {text = long_text} (omega (arith, c.well_formed)) (put c.put_bytes.ensures.value c.put_bytes.ensures.text_after)).1.1)

pub returns-clause-text_after : goal.returns-clause-text_after
unfolding report_of
returns-clause-text_after c = let fits = rw (c.put_lines.ensures.text_after, written-length 0 (lines_of c.args.reel.now) c.args.text.now, c.put_lines.ensures.value) at c.put_lines.ensures.upper_bound in
    rw (← c.is_long.ensures, c.if-is_long.false) ((put_whole {end = c.put_lines.result} fits (put (omega (arith, c.put_lines.ensures.value)) c.put_lines.ensures.text_after)).1.1)
