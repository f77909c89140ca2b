-- `put_cut` meets its contract: it writes a word, then a field. Assumes nothing.
use Prim.Native.Nat.{◌≤◌}
use native.Mathlib.Omega.{arith}
use lib.ListN.{length}
use Rattle.text_writer.specs.Number.{line_end, field, field_bytes}
use Rattle.text_writer.proofs.NumberLaws.{field-most}
use Rattle.text_writer.proofs.PutLaws.{put, put_then}
use Rattle.reel_report.specs.Text.{line_text}
use Rattle.reel_report.proofs.line.put_cut.Goals as goal

pub put_field-requires : goal.put_field-requires
put_field-requires c =
    let short : length (field c.args.offset line_end) ≤ field_bytes = field-most c.args.offset line_end (omega (arith, c.ranges)) in
    omega (arith, short)

pub returns-clause-buffer_after : goal.returns-clause-buffer_after
unfolding line_text
returns-clause-buffer_after c =
    let short : length (field c.args.offset line_end) ≤ field_bytes = field-most c.args.offset line_end (omega (arith, c.ranges)) in
    let whole = put_then (put c.put_bytes-word_end.ensures.value c.put_bytes-word_end.ensures.text_after) (put c.put_field.ensures.value c.put_field.ensures.text_after) in
    whole.lies

pub returns-clause-upper_bound : goal.returns-clause-upper_bound
unfolding line_text
returns-clause-upper_bound c =
    let short : length (field c.args.offset line_end) ≤ field_bytes = field-most c.args.offset line_end (omega (arith, c.ranges)) in
    let whole = put_then (put c.put_bytes-word_end.ensures.value c.put_bytes-word_end.ensures.text_after) (put c.put_field.ensures.value c.put_field.ensures.text_after) in
    omega (arith, c.put_bytes-word_end.ensures.value, c.put_field.ensures.value, short)
