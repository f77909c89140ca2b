-- `prediction::copy_pels` meets its contract: before pel i of line j, the first j * SIDE + i pels are copied. Assumes nothing.
use Prim.Native.Nat.{◌/◌}
use native.Mathlib.Nat.{mul-le-mul_right}
use native.Mathlib.Omega.{arith}
use Rattle.math.proofs.Tab.{filled_more, filled-to, filled-all}
use Rattle.decode_prediction.proofs.LineLaws.{line-within, line-pel}
use Rattle.decode_prediction.proofs.prediction.copy_pels.Goals as goal

pub loop-i-preserved : goal.loop-i-preserved
loop-i-preserved g c =
    let a = c.args in
    let j = c.loop-j.j in
    let i = c.loop-i.i in
    let n = g.row.SIDE in
    filled-to (filled_more c.loop-i.invariant (omega (arith, line-within j n n c.loop-j-test.true)) (line-pel a.plane.now a.stride (a.px / 2) (a.py / 2) n j i c.loop-i-test.true)) (omega arith)

pub returns : goal.returns
returns g c = filled-all c.loop-j.invariant (mul-le-mul_right g.row.SIDE c.loop-j-test.false)
