-- `put_picture` meets its contract: it writes the parts of a line in order. Assumes nothing.
use Prim.Native.Nat.{◌≤◌}
use native.Mathlib.Omega.{arith}
use lib.ListN.{length}
use Rattle.text_writer.specs.Number.{space, field, field_bytes}
use Rattle.text_writer.proofs.NumberLaws.{field-most}
use Rattle.text_writer.proofs.PutLaws.{put, put_then}
use Rattle.reel_report.specs.Text.{line_text}
use Rattle.reel_report.proofs.line.put_picture.Goals as goal

pub put_field-number_end-requires : goal.put_field-number_end-requires
put_field-number_end-requires c =
    let short : length (field c.args.played.number space) ≤ field_bytes = field-most c.args.played.number space (omega (arith, c.well_formed)) in
    omega (arith, short)

pub put_bytes-letter_end-requires : goal.put_bytes-letter_end-requires
put_bytes-letter_end-requires c =
    let short : length (field c.args.played.number space) ≤ field_bytes = field-most c.args.played.number space (omega (arith, c.well_formed)) in
    omega (arith, short)

pub put_answer-answer_end-requires : goal.put_answer-answer_end-requires
put_answer-answer_end-requires c =
    let short : length (field c.args.played.number space) ≤ field_bytes = field-most c.args.played.number space (omega (arith, c.well_formed)) in
    omega (arith, short)

pub put_planes-requires-clause-three_fields_bytes_in_bounds : goal.put_planes-requires-clause-three_fields_bytes_in_bounds
put_planes-requires-clause-three_fields_bytes_in_bounds c =
    let short : length (field c.args.played.number space) ≤ field_bytes = field-most c.args.played.number space (omega (arith, c.well_formed)) in
    omega (arith, short)

pub returns-clause-buffer_after : goal.returns-clause-buffer_after
unfolding line_text
returns-clause-buffer_after c =
    let short : length (field c.args.played.number space) ≤ field_bytes = field-most c.args.played.number space (omega (arith, c.well_formed)) in
    let whole = put_then (put c.put_field-number_end.ensures.value c.put_field-number_end.ensures.text_after) (put_then (put c.put_bytes-letter_end.ensures.value c.put_bytes-letter_end.ensures.text_after) (put_then (put c.put_answer-answer_end.ensures.value c.put_answer-answer_end.ensures.buffer_after) (put c.put_planes.ensures.value c.put_planes.ensures.buffer_after))) in
    rw (← c.letter_of-letter.ensures) (whole.lies)

pub returns-clause-upper_bound : goal.returns-clause-upper_bound
unfolding line_text
returns-clause-upper_bound c =
    let short : length (field c.args.played.number space) ≤ field_bytes = field-most c.args.played.number space (omega (arith, c.well_formed)) in
    omega (arith, c.put_field-number_end.ensures.value, short, c.put_bytes-letter_end.ensures.value, c.put_answer-answer_end.ensures.upper_bound, c.put_planes.ensures.upper_bound)
