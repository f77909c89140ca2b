-- `block::put_pels` meets its contract: before pel i of line j, the first j * SIDE + i pels are put. Assumes nothing.
use mathlib.Core.Path.{◌∙◌, sym, ap}
use Prim.Native.Nat.{ℕ, ◌+◌, ◌*◌}
use native.Mathlib.Omega.{arith}
use lib.ListN.{get_or, set}
use Rattle.math.proofs.Scatter.{scatter-none, scatter-to, scatter-next}
use Rattle.decode_macroblock.specs.Pel.{pel_index}
use Rattle.decode_macroblock.proofs.PelLaws.{line-index}
use Rattle.decode_macroblock.proofs.block.put_pels.Goals as goal

pub loop-j-init : goal.loop-j-init
loop-j-init g c = sym (scatter-to _ _ (0 * g.row.SIDE) 0 c.args.plane.now (omega arith) ∙ scatter-none _ _ _)

pub loop-i-preserved : goal.loop-i-preserved
loop-i-preserved g c =
    let a = c.args in
    let n = g.row.SIDE in
    let k = c.loop-j.j * n + c.loop-i.i in
    λ l e. ap (λ (m : ℕ). set c.loop-i.plane m (get_or a.pels k 0)) (line-index n a.stride a.x a.y c.loop-j.j c.loop-i.i c.loop-i-test.true)
    ∙ scatter-next (pel_index n a.stride a.x a.y) (λ m. get_or a.pels m 0) k (c.loop-j.j * n + (c.loop-i.i + 1)) l c.loop-i.plane (c.loop-i.invariant l e) (omega arith)
