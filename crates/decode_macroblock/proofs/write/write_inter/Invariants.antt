-- `write::write_inter` meets its contract: before block b, the first b blocks have their residues, and their rows are counted. Assumes nothing.
-- The other blocks are still only predictions.
use mathlib.Core.Path.{◌≡◌}
use mathlib.Core.List.{List, []}
use Prim.Native.Nat.{ℕ, ◌-◌, ◌≤◌}
use lib.ListN.{length}
use Rattle.math.specs.Tab.{tab}
use Rattle.math.specs.Total.{total}
use Rattle.symbols.specs.Size.{picture_bytes}
use Rattle.decode_coefficients.specs.BlockArray.{six_blocks}
use Rattle.decode_idct.specs.Transform.{inverse_transform}
use Rattle.decode_macroblock.specs.declared.compensation.Motion.{Motion}
use Rattle.decode_macroblock.specs.Compensation.{references}
use Rattle.decode_macroblock.specs.Block.{pels_of}
use Rattle.decode_macroblock.specs.Macroblock.{with_blocks}
use Rattle.decode_macroblock.specs.Rows.{block_rows}
use Rattle.decode_macroblock.proofs.ResidueLaws.{partly_added}
use Rattle.decode_macroblock.proofs.write.write_inter.Given as goal

abbrev pub invariant-loop-block : goal.invariant-loop-block
invariant-loop-block v =
    let r = references v.forward v.backward in
    (v.block ≤ 6)
    × ((m : Motion) (l : List ℕ) → length l ≡ picture_bytes v.position.size → v.initial.output ≡ with_blocks v.position (pels_of inverse_transform r v.position m 0 []) 6 l → v.output ≡ with_blocks v.position (partly_added inverse_transform r v.position m v.pattern (six_blocks v.coefficients) v.block) 6 l)
    × (length v.output ≡ length v.initial.output)
    × (v.rows ≡ total (tab v.block (block_rows v.pattern (six_blocks v.coefficients))))

abbrev pub decreases-loop-block : goal.decreases-loop-block
decreases-loop-block l = 6 - l.block
