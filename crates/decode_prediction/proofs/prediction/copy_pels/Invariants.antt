-- `prediction::copy_pels` meets its contract: before pel i of line j, the first j * SIDE + i pels are copied. Assumes nothing.
use Prim.Native.Nat.{ℕ, ◌+◌, ◌*◌, ◌/◌, ◌%◌}
use mathlib.Core.List.{List}
use Rattle.math.proofs.Tab.{Filled}
use Rattle.decode_prediction.specs.Prediction.{pel_at}
use Rattle.decode_prediction.proofs.prediction.copy_pels.Given as goal

-- pel k of `side` by `side` pels
abbrev pub copied_pel : ℕ → List ℕ → ℕ → ℕ → ℕ → ℕ → ℕ
copied_pel side plane stride px py k = pel_at plane stride (px / 2 + k % side) (py / 2 + k / side)

abbrev pub invariant-loop-i : goal.invariant-loop-i
invariant-loop-i g l = Filled (g.row.SIDE * g.row.SIDE) (copied_pel g.row.SIDE l.plane l.stride l.px l.py) 0 (l.j * g.row.SIDE + l.i) l.pels

abbrev pub invariant-loop-j : goal.invariant-loop-j
invariant-loop-j g l = Filled (g.row.SIDE * g.row.SIDE) (copied_pel g.row.SIDE l.plane l.stride l.px l.py) 0 (l.j * g.row.SIDE) l.pels
