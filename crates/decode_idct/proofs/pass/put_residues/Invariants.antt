-- `pass::put_residues` meets its contract: before number u, the residues of the first u of the line are stored in the column. Assumes nothing.
use Prim.Native.Nat.{◌-◌, ◌≤◌}
use mathlib.Core.Path.{◌≡◌}
use Rattle.math.specs.Bound.{at}
use Rattle.math.specs.Scatter.{scatter}
use Rattle.decode_idct.specs.Line.{column_index, residue_of}
use Rattle.decode_idct.proofs.pass.put_residues.Given as goal

abbrev pub invariant-loop-u : goal.invariant-loop-u
invariant-loop-u l = (l.t ≡ scatter (column_index l.v) (λ k. residue_of (at l.y k)) l.u l.initial.t) × (l.u ≤ 8)

abbrev pub decreases-loop-u : goal.decreases-loop-u
decreases-loop-u l = 8 - l.u
