-- `write::write_intra` meets its contract: before block b, the first b blocks are written, and their rows counted. Assumes nothing.
use mathlib.Core.Path.{◌≡◌}
use Prim.Native.Nat.{◌-◌, ◌≤◌}
use lib.ListN.{length, replicate}
use Rattle.math.specs.Tab.{tab}
use Rattle.math.specs.Total.{total}
use Rattle.decode_coefficients.specs.BlockArray.{six_blocks}
use Rattle.decode_idct.specs.Transform.{inverse_transform}
use Rattle.decode_macroblock.specs.Block.{with_residue}
use Rattle.decode_macroblock.specs.Macroblock.{with_blocks}
use Rattle.decode_macroblock.specs.Rows.{block_rows}
use Rattle.decode_macroblock.proofs.write.write_intra.Given as goal

abbrev pub invariant-loop-block : goal.invariant-loop-block
invariant-loop-block l =
    (l.block ≤ 6) × (l.output ≡ with_blocks l.position (λ b. with_residue inverse_transform l.pattern (six_blocks l.coefficients) b (replicate 64 0)) l.block l.initial.output) × (length l.output ≡ length l.initial.output) × (l.rows ≡ total (tab l.block (block_rows l.pattern (six_blocks l.coefficients))))

abbrev pub decreases-loop-block : goal.decreases-loop-block
decreases-loop-block l = 6 - l.block
