-- `write::write_intra` meets its contract: before block b, the first b blocks are written, and their rows counted. Assumes nothing.
use mathlib.Core.Path.{refl, sym, ap, ◌∙◌}
use mathlib.Core.List.{List}
use Prim.Native.Nat.{ℕ}
use native.Mathlib.Omega.{arith}
use lib.ListN.{replicate}
use Rattle.math.proofs.Total.{total-tab-none}
use Rattle.decode_coefficients.specs.BlockArray.{six_blocks}
use Rattle.decode_idct.specs.Transform.{inverse_transform}
use Rattle.decode_macroblock.specs.Location.{block_location, put_at}
use Rattle.decode_macroblock.specs.Block.{with_residue}
use Rattle.decode_macroblock.proofs.RowLaws.{rows_more, rows_few}
use Rattle.decode_macroblock.proofs.BlocksLaws.{blocks-none, blocks_more}
use Rattle.decode_macroblock.proofs.write.write_intra.Goals as goal

pub loop-block-init : goal.loop-block-init
loop-block-init c = (omega arith, blocks-none _ _ _, refl, sym (total-tab-none _))

pub overflow_add-rows : goal.overflow_add-rows
overflow_add-rows c =
    omega (arith, rows_few c.args.pattern (six_blocks c.args.coefficients.now) c.loop-block.block c.loop-block.rows c.write_intra_block-rows.result c.loop-block.invariant.3 c.write_intra_block-rows.ensures.value)

pub loop-block-preserved : goal.loop-block-preserved
loop-block-preserved c =
    let pels : ℕ → List ℕ = λ b. with_residue inverse_transform c.args.pattern (six_blocks c.args.coefficients.now) b (replicate 64 0) in (
      omega arith,
      c.write_intra_block-rows.ensures.output_after ∙ ap (put_at (block_location c.args.position c.loop-block.block) (pels c.loop-block.block)) c.loop-block.invariant.1 ∙ blocks_more c.args.position pels c.loop-block.block c.args.output.now,
      c.write_intra_block-rows.auto.output ∙ c.loop-block.invariant.2,
      rows_more c.args.pattern (six_blocks c.args.coefficients.now) c.loop-block.block c.loop-block.rows c.write_intra_block-rows.result c.loop-block.invariant.3 c.write_intra_block-rows.ensures.value,
    )
