-- `put_signed_field` meets its contract: the sign is written first, then the absolute value as a field. Assumes nothing.
use mathlib.Core.List.{[], ◌∷◌, ◌++◌}
use mathlib.Core.Path.{◌≡◌, ap, sym, ◌∙◌}
use lib.IntN.{pos, nat_abs}
use Rattle.math.proofs.Bound.{within-mag}
use Rattle.math.proofs.Machine.{Held, parameter, literal, tested}
use Rattle.text_writer.specs.Number.{minus, field, signed_field}
use Rattle.text_writer.proofs.NumberLaws.{field_below}
use Rattle.text_writer.proofs.PutLaws.{put, put_then}
use Rattle.text_writer.proofs.put_signed_field.Goals as goal

pub returns-then-number-lt0-clause-text_after : goal.returns-then-number-lt0-clause-text_after
returns-then-number-lt0-clause-text_after c =
    let number : Held c.args.number = parameter c.ranges.number (within-mag c.ranges.number.sfits) in
    let size-field : field c.from-size.result c.args.after ≡ field (nat_abs c.args.number) c.args.after = ap (λ n. field n c.args.after) (c.from-size.ensures ∙ c.unsigned_abs.ensures.value ∙ ap nat_abs number.is) in
    let negative : signed_field c.args.number c.args.after ≡ (minus ∷ []) ++ field c.from-size.result c.args.after = field_below c.args.number c.args.after (tested number (literal (pos 0)) c.if-number-lt0.true) ∙ ap (λ l. (minus ∷ []) ++ l) (sym size-field) in
    let whole = put_then (put c.put_bytes-sign_end.ensures.value c.put_bytes-sign_end.ensures.text_after) (put c.put_field.ensures.value c.put_field.ensures.text_after) in
    rw negative (whole.lies)
