-- `put_field` meets its contract: it writes as many digits as the number has. Assumes nothing.
use mathlib.Core.Path.{◌≡◌, ap, ◌∙◌}
use Prim.Native.Nat.{ℕ, ◌+◌, ◌≤◌}
use native.Mathlib.Omega.{arith}
use lib.IntN.{pos}
use lib.ListN.{length, take}
use Rattle.io.specs.Digits.{last_digits}
use Rattle.text_writer.specs.Number.{decimal}
use Rattle.text_writer.proofs.NumberLaws.{fewest, field-length}
use Rattle.text_writer.proofs.PutLaws.{put, put_then}
use Rattle.text_writer.proofs.put_field.Goals as goal

pub put_bytes-end-requires : goal.put_bytes-end-requires
put_bytes-end-requires c =
    let digits_are : take c.decimal-length.result c.decimal-length.new.out ≡ decimal c.args.number = c.decimal-length.ensures.digits ∙ ap (λ (k : ℕ). last_digits 10 k c.args.number) (fewest c.args.number c.decimal-length.result c.decimal-length.ensures.len) in
    let digits-fit : c.args.at + length (take c.decimal-length.result c.decimal-length.new.out) + 1 ≤ length c.args.text.now = omega (arith, c.requires, ap length digits_are, field-length (pos c.args.number) c.args.after) in
    omega (arith, digits-fit)

pub put_bytes-requires : goal.put_bytes-requires
put_bytes-requires c =
    let digits_are : take c.decimal-length.result c.decimal-length.new.out ≡ decimal c.args.number = c.decimal-length.ensures.digits ∙ ap (λ (k : ℕ). last_digits 10 k c.args.number) (fewest c.args.number c.decimal-length.result c.decimal-length.ensures.len) in
    let digits-fit : c.args.at + length (take c.decimal-length.result c.decimal-length.new.out) + 1 ≤ length c.args.text.now = omega (arith, c.requires, ap length digits_are, field-length (pos c.args.number) c.args.after) in
    omega (arith, digits-fit, c.put_bytes-end.ensures.value)

pub returns-clause-value : goal.returns-clause-value
returns-clause-value c =
    let digits_are : take c.decimal-length.result c.decimal-length.new.out ≡ decimal c.args.number = c.decimal-length.ensures.digits ∙ ap (λ (k : ℕ). last_digits 10 k c.args.number) (fewest c.args.number c.decimal-length.result c.decimal-length.ensures.len) in
    let whole = put_then (put c.put_bytes-end.ensures.value c.put_bytes-end.ensures.text_after) (put c.put_bytes.ensures.value c.put_bytes.ensures.text_after) in
    let same = digits_are in
    rw (← same) (whole.ends)

pub returns-clause-text_after : goal.returns-clause-text_after
returns-clause-text_after c =
    let digits_are : take c.decimal-length.result c.decimal-length.new.out ≡ decimal c.args.number = c.decimal-length.ensures.digits ∙ ap (λ (k : ℕ). last_digits 10 k c.args.number) (fewest c.args.number c.decimal-length.result c.decimal-length.ensures.len) in
    let whole = put_then (put c.put_bytes-end.ensures.value c.put_bytes-end.ensures.text_after) (put c.put_bytes.ensures.value c.put_bytes.ensures.text_after) in
    let same = digits_are in
    rw (← same) (whole.lies)
