-- `read_blocks` meets its contract: the array holds the blocks read so far. Assumes nothing.
-- The loop's invariant adds that these blocks plus those still to be read are all six.
use Prim.Native.Nat.{◌-◌}
use Rattle.decode_coefficients.specs.Marks.{BlocksMarked}
use Rattle.format3_macroblock.proofs.Laws.BlockArray.{BetweenBlocks}
use Rattle.format3_macroblock.proofs.blocks.read_blocks.Given as goal

abbrev pub invariant-loop-block : goal.invariant-loop-block
invariant-loop-block l =
    BetweenBlocks l.coding l.matrix (record { pasts = l.initial.running; coefficients = l.initial.coefficients }) l.rest l.block l.at (record { pasts = l.running; coefficients = l.coefficients }) × BlocksMarked l.coefficients l.marks

abbrev pub decreases-loop-block : goal.decreases-loop-block
decreases-loop-block l =
    6 - l.block
