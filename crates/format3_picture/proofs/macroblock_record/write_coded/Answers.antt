-- `macroblock_record::write_coded` meets its contract: if all fit, it writes the skipped macroblocks, then its own. Assumes nothing.
use mathlib.Core.Path.{◌≡◌, sym, ◌∙◌}
use Rattle.std.proofs.Common.{rules}
use Rattle.std.specs.Prelude.{Ok, Err}
use Rattle.decode_coefficients.specs.BlockArray.{six_blocks}
use Rattle.decode_idct.specs.Transform.{inverse_transform}
use Rattle.decode_macroblock.specs.Compensation.{references}
use Rattle.decode_macroblock.proofs.BlocksLaws.{macroblocks-none}
use Rattle.decode_macroblock.proofs.RowLaws.{macroblock-rows-most}
use Rattle.format3_picture.proofs.WriteLaws.{all_fit, each_fits, misfit, plan-rows, made, own-last}
use Rattle.format3_picture.proofs.macroblock_record.write_coded.Goals as goal

pub returns-in_err-fits-clause-value : goal.returns-in_err-fits-clause-value
returns-in_err-fits-clause-value c =
    let refused : c.args.fits ≡ Err c.in_err-fits.field-0.0 = search rules in
    let answer : c.from_residual.result ≡ Err c.in_err-fits.field-0.0 = search rules in
    let e = misfit c.args.picture c.args.plan (six_blocks c.args.coefficients.now) (sym c.requires.1 ∙ refused) in
    rw (answer, e)

pub returns-in_err-fits-clause-output_after : goal.returns-in_err-fits-clause-output_after
returns-in_err-fits-clause-output_after c =
    let refused : c.args.fits ≡ Err c.in_err-fits.field-0.0 = search rules in
    let e = misfit c.args.picture c.args.plan (six_blocks c.args.coefficients.now) (sym c.requires.1 ∙ refused) in
    rw e (macroblocks-none _ _ _ _)

pub write_macroblock-rows-requires : goal.write_macroblock-rows-requires
write_macroblock-rows-requires c =
    let passed : c.args.fits ≡ Ok tt = search rules in
    let fit = all_fit _ c.args.plan (sym c.requires.1 ∙ passed) in (
      record {
        size = c.requires.0.planned.within;
        inside = c.requires.0.planned.inside;
        small = c.requires.0.planned.own-within;
        fits = (each_fits _ _ fit).1;
        lent = record { forward-whole = c.requires.0.lent.own-lent.forward-whole; backward-whole = c.requires.0.lent.own-lent.backward-whole; output-whole = c.write_skipped.auto.output ∙ c.requires.0.lent.own-lent.output-whole };
      },
      c.requires.2,
    )

pub state_after-requires : goal.state_after-requires
state_after-requires c =
    (c.requires.0.follows, rw c.write_macroblock-rows.ensures.value (macroblock-rows-most c.args.plan.pattern (six_blocks c.args.coefficients.now)))

pub returns-clause-value : goal.returns-clause-value
returns-clause-value c =
    let passed : c.args.fits ≡ Ok tt = search rules in
    let coefficients = six_blocks c.args.coefficients.now in
    let e = made c.args.picture c.args.plan coefficients (sym c.requires.1 ∙ passed) in
    rw (e, c.state_after.ensures, c.write_macroblock-rows.ensures.value, plan-rows c.args.plan coefficients)

pub returns-clause-output_after : goal.returns-clause-output_after
returns-clause-output_after c =
    let passed : c.args.fits ≡ Ok tt = search rules in
    let r = references c.args.forward.now c.args.backward.now in
    let coefficients = six_blocks c.args.coefficients.now in
    let e = made c.args.picture c.args.plan coefficients (sym c.requires.1 ∙ passed) in
    rw e (c.write_macroblock-rows.ensures.output_after ∙ rw c.write_skipped.ensures (own-last c.args.picture c.args.plan inverse_transform r coefficients c.args.output.now))
