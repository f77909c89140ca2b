-- `block::reconstruct_block` meets its contract: before pel k, the first k are computed. Assumes nothing.
use Prim.Native.Nat.{◌-◌, ◌≤◌}
use lib.ListN.{get_or}
use Rattle.math.proofs.Tab.{Filled}
use Rattle.math.specs.Bound.{at}
use Rattle.decode_macroblock.specs.Pel.{reconstructed_pel}
use Rattle.decode_macroblock.proofs.block.reconstruct_block.Given as goal

abbrev pub invariant-loop-k : goal.invariant-loop-k
invariant-loop-k l = Filled 64 (λ j. reconstructed_pel (get_or l.predicted j 0) (at l.residue j)) 0 l.k l.block × (l.k ≤ 64)

abbrev pub decreases-loop-k : goal.decreases-loop-k
decreases-loop-k l = 64 - l.k
