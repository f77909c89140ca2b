-- `put_answer` meets its contract: it writes three fields in order. Assumes nothing.
use mathlib.Core.Path.{◌≡◌, ◌∙◌}
use Prim.Native.Nat.{◌≤◌}
use native.Mathlib.Omega.{arith}
use lib.ListN.{length}
use Rattle.refusals.specs.Refusal.{number_in}
use Rattle.text_writer.specs.Number.{space, field, field_bytes}
use Rattle.text_writer.proofs.NumberLaws.{field-most}
use Rattle.text_writer.proofs.PutLaws.{put, put_then}
use Rattle.reel_report.proofs.line.put_answer.Goals as goal

pub put_field-number-requires : goal.put_field-number-requires
put_field-number-requires c =
    let first : length (field c.from.result space) ≤ field_bytes = field-most c.from.result space (omega arith) in
    omega (arith, first)

pub put_field-place-requires : goal.put_field-place-requires
put_field-place-requires c =
    let first : length (field c.from.result space) ≤ field_bytes = field-most c.from.result space (omega arith) in
    let second : length (field c.args.answer.place space) ≤ field_bytes = field-most c.args.answer.place space (omega (arith, c.well_formed)) in
    omega (arith, first, second)

pub put_field-requires : goal.put_field-requires
put_field-requires c =
    let first : length (field c.from.result space) ≤ field_bytes = field-most c.from.result space (omega arith) in
    let second : length (field c.args.answer.place space) ≤ field_bytes = field-most c.args.answer.place space (omega (arith, c.well_formed)) in
    let third : length (field c.args.answer.made space) ≤ field_bytes = field-most c.args.answer.made space (omega (arith, c.well_formed)) in
    omega (arith, first, second, third)

pub returns-clause-value : goal.returns-clause-value
returns-clause-value c =
    let told : c.from.result ≡ number_in c.args.answer.verdict = c.from.ensures ∙ c.number.ensures in
    let whole = put_then (put c.put_field-number.ensures.value c.put_field-number.ensures.text_after) (put_then (put c.put_field-place.ensures.value c.put_field-place.ensures.text_after) (put c.put_field.ensures.value c.put_field.ensures.text_after)) in
    rw (← told) whole.ends

pub returns-clause-buffer_after : goal.returns-clause-buffer_after
returns-clause-buffer_after c =
    let told : c.from.result ≡ number_in c.args.answer.verdict = c.from.ensures ∙ c.number.ensures in
    let whole = put_then (put c.put_field-number.ensures.value c.put_field-number.ensures.text_after) (put_then (put c.put_field-place.ensures.value c.put_field-place.ensures.text_after) (put c.put_field.ensures.value c.put_field.ensures.text_after)) in
    rw (← told) whole.lies

pub returns-clause-upper_bound : goal.returns-clause-upper_bound
returns-clause-upper_bound c =
    let first : length (field c.from.result space) ≤ field_bytes = field-most c.from.result space (omega arith) in
    let second : length (field c.args.answer.place space) ≤ field_bytes = field-most c.args.answer.place space (omega (arith, c.well_formed)) in
    let third : length (field c.args.answer.made space) ≤ field_bytes = field-most c.args.answer.made space (omega (arith, c.well_formed)) in
    omega (arith, first, second, third, c.put_field-number.ensures.value, c.put_field-place.ensures.value, c.put_field.ensures.value)
