-- `put_sums` meets its contract: it writes three fields in order. Assumes nothing.
use Prim.Native.Nat.{◌≤◌}
use native.Mathlib.Omega.{arith}
use lib.ListN.{length}
use Rattle.text_writer.specs.Number.{space, line_end, field, field_bytes}
use Rattle.text_writer.proofs.NumberLaws.{field-most}
use Rattle.text_writer.proofs.PutLaws.{put, put_then}
use Rattle.reel_report.proofs.line.put_sums.Goals as goal

pub put_field-luma-requires : goal.put_field-luma-requires
put_field-luma-requires c =
    let short : (length (field c.args.sums.y space) ≤ field_bytes) × (length (field c.args.sums.cb space) ≤ field_bytes) × (length (field c.args.sums.cr line_end) ≤ field_bytes) = (field-most c.args.sums.y space (omega (arith, c.well_formed)), field-most c.args.sums.cb space (omega (arith, c.well_formed)), field-most c.args.sums.cr line_end (omega (arith, c.well_formed))) in
    omega (arith, short)

pub put_field-chroma-requires : goal.put_field-chroma-requires
put_field-chroma-requires c =
    let short : (length (field c.args.sums.y space) ≤ field_bytes) × (length (field c.args.sums.cb space) ≤ field_bytes) × (length (field c.args.sums.cr line_end) ≤ field_bytes) = (field-most c.args.sums.y space (omega (arith, c.well_formed)), field-most c.args.sums.cb space (omega (arith, c.well_formed)), field-most c.args.sums.cr line_end (omega (arith, c.well_formed))) in
    omega (arith, short)

pub put_field-requires : goal.put_field-requires
put_field-requires c =
    let short : (length (field c.args.sums.y space) ≤ field_bytes) × (length (field c.args.sums.cb space) ≤ field_bytes) × (length (field c.args.sums.cr line_end) ≤ field_bytes) = (field-most c.args.sums.y space (omega (arith, c.well_formed)), field-most c.args.sums.cb space (omega (arith, c.well_formed)), field-most c.args.sums.cr line_end (omega (arith, c.well_formed))) in
    omega (arith, short)

pub returns-clause-buffer_after : goal.returns-clause-buffer_after
returns-clause-buffer_after c =
    let short : (length (field c.args.sums.y space) ≤ field_bytes) × (length (field c.args.sums.cb space) ≤ field_bytes) × (length (field c.args.sums.cr line_end) ≤ field_bytes) = (field-most c.args.sums.y space (omega (arith, c.well_formed)), field-most c.args.sums.cb space (omega (arith, c.well_formed)), field-most c.args.sums.cr line_end (omega (arith, c.well_formed))) in
    let whole = put_then (put c.put_field-luma.ensures.value c.put_field-luma.ensures.text_after) (put_then (put c.put_field-chroma.ensures.value c.put_field-chroma.ensures.text_after) (put c.put_field.ensures.value c.put_field.ensures.text_after)) in
    whole.lies

pub returns-clause-upper_bound : goal.returns-clause-upper_bound
returns-clause-upper_bound c =
    let short : (length (field c.args.sums.y space) ≤ field_bytes) × (length (field c.args.sums.cb space) ≤ field_bytes) × (length (field c.args.sums.cr line_end) ≤ field_bytes) = (field-most c.args.sums.y space (omega (arith, c.well_formed)), field-most c.args.sums.cb space (omega (arith, c.well_formed)), field-most c.args.sums.cr line_end (omega (arith, c.well_formed))) in
    let whole = put_then (put c.put_field-luma.ensures.value c.put_field-luma.ensures.text_after) (put_then (put c.put_field-chroma.ensures.value c.put_field-chroma.ensures.text_after) (put c.put_field.ensures.value c.put_field.ensures.text_after)) in
    omega (arith, c.put_field-luma.ensures.value, c.put_field-chroma.ensures.value, c.put_field.ensures.value, short)
