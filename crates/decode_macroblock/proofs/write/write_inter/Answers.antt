-- `write::write_inter` meets its contract: before block b, the first b blocks have their residues, and their rows are counted. Assumes nothing.
-- The other blocks are still only predictions.
use mathlib.Core.Path.{◌≡◌, refl, sym, ◌∙◌}
use native.Mathlib.Omega.{arith}
use Rattle.math.proofs.Total.{total-tab-none}
use Rattle.decode_coefficients.specs.BlockArray.{six_blocks}
use Rattle.decode_idct.specs.Transform.{inverse_transform}
use Rattle.decode_macroblock.specs.Compensation.{references}
use Rattle.decode_macroblock.proofs.RowLaws.{rows_more, rows_few}
use Rattle.decode_macroblock.proofs.ResidueLaws.{added_none, added_more, added-all}
use Rattle.decode_macroblock.proofs.write.write_inter.Goals as goal

pub loop-block-init : goal.loop-block-init
loop-block-init c = (omega arith, (λ m l long e. e ∙ added_none _ _ _ _ _ _ l), refl, sym (total-tab-none _))

pub overflow_add-rows : goal.overflow_add-rows
overflow_add-rows c =
    omega (arith, rows_few c.args.pattern (six_blocks c.args.coefficients.now) c.loop-block.block c.loop-block.rows c.add_residue_at-rows.result c.loop-block.invariant.3 c.add_residue_at-rows.ensures.value)

pub loop-block-preserved : goal.loop-block-preserved
loop-block-preserved c =
    let r = references c.args.forward.now c.args.backward.now in (
      omega arith,
      (λ m entry long e. c.add_residue_at-rows.ensures.output_after ∙ rw (c.loop-block.invariant.1 m entry long e) (added_more inverse_transform r c.args.position m c.args.pattern (six_blocks c.args.coefficients.now) c.requires.0.inside c.loop-block.block c.loop-block-test.true entry long)),
      c.add_residue_at-rows.auto.output ∙ c.loop-block.invariant.2,
      rows_more c.args.pattern (six_blocks c.args.coefficients.now) c.loop-block.block c.loop-block.rows c.add_residue_at-rows.result c.loop-block.invariant.3 c.add_residue_at-rows.ensures.value,
    )

pub returns-clause-output_after : goal.returns-clause-output_after
returns-clause-output_after c = let all : c.loop-block.block ≡ 6 = omega arith in
    c.loop-block.invariant.1 c.args.motion c.args.output.now c.requires.0.lent.output-whole c.predict_blocks.ensures
    ∙ added-all inverse_transform (references c.args.forward.now c.args.backward.now) c.args.position c.args.motion c.args.pattern (six_blocks c.args.coefficients.now) c.loop-block.block c.args.output.now (omega arith)
