-- `write::predict_blocks` meets its contract: before block b, the first b blocks are written; the first ones were copied. Assumes nothing.
use mathlib.Core.Path.{◌≡◌}
use mathlib.Core.List.{List, []}
use Prim.Native.Nat.{ℕ, ◌-◌, ◌≤◌}
use lib.ListN.{length}
use Rattle.decode_idct.specs.Transform.{inverse_transform}
use Rattle.decode_macroblock.specs.Compensation.{references}
use Rattle.decode_macroblock.specs.Block.{pels_of}
use Rattle.decode_macroblock.specs.Macroblock.{with_blocks}
use Rattle.decode_macroblock.proofs.write.predict_blocks.Given as goal

abbrev pub invariant-loop-block : goal.invariant-loop-block
invariant-loop-block v =
    let pels = pels_of inverse_transform (references v.forward v.backward) v.position v.motion 0 [] in
    (v.block ≤ 6) × ((l : List ℕ) → v.initial.output ≡ with_blocks v.position pels v.initial.block l → v.output ≡ with_blocks v.position pels v.block l) × (length v.output ≡ length v.initial.output)

abbrev pub decreases-loop-block : goal.decreases-loop-block
decreases-loop-block l = 6 - l.block
