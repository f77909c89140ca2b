-- `block::put_pels` meets its contract: before pel i of line j, the first j * SIDE + i pels are put. Assumes nothing.
use mathlib.Core.Path.{◌≡◌}
use mathlib.Core.List.{List}
use Prim.Native.Nat.{ℕ, ◌+◌, ◌*◌}
use lib.ListN.{get_or}
use Rattle.math.specs.Scatter.{scatter}
use Rattle.decode_macroblock.specs.Pel.{pel_index}
use Rattle.decode_macroblock.proofs.block.put_pels.Given as goal

-- the plane with the first n pels
abbrev pub put : ℕ → ℕ → ℕ → ℕ → List ℕ → ℕ → List ℕ → List ℕ
put side stride x y pels n plane = scatter (pel_index side stride x y) (λ k. get_or pels k 0) n plane

abbrev pub invariant-loop-i : goal.invariant-loop-i
invariant-loop-i g v = ((l : List ℕ) → v.initial.plane ≡ put g.row.SIDE v.stride v.x v.y v.pels (v.j * g.row.SIDE) l → v.plane ≡ put g.row.SIDE v.stride v.x v.y v.pels (v.j * g.row.SIDE + v.i) l)

abbrev pub invariant-loop-j : goal.invariant-loop-j
invariant-loop-j g l = l.plane ≡ put g.row.SIDE l.stride l.x l.y l.pels (l.j * g.row.SIDE) l.initial.plane
