-- `residue::block_coefficients` meets its contract: before coefficient k, the first k are copied. Assumes nothing.
use Prim.Native.Nat.{◌+◌, ◌-◌, ◌*◌, ◌≤◌}
use lib.IntN.{pos}
use Rattle.math.specs.Bound.{at}
use Rattle.math.proofs.Tab.{Filled}
use Rattle.decode_macroblock.proofs.residue.block_coefficients.Given as goal

abbrev pub invariant-loop-k : goal.invariant-loop-k
invariant-loop-k l = Filled 64 (λ j. at l.coefficients (64 * l.block + j)) (pos 0) l.k l.own × (l.k ≤ 64)

abbrev pub decreases-loop-k : goal.decreases-loop-k
decreases-loop-k l = 64 - l.k
