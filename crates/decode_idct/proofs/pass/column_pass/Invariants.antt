-- `pass::column_pass` meets its contract: before row v, the first v columns hold the residues of the transformed rows. Assumes nothing.
use Prim.Native.Nat.{◌-◌, ◌≤◌}
use lib.IntN.{pos}
use Rattle.decode_idct.proofs.Columns.{Columns}
use Rattle.decode_idct.specs.Line.{pass_result, residue_of}
use Rattle.decode_idct.proofs.pass.column_pass.Given as goal

abbrev pub invariant-loop-v : goal.invariant-loop-v
invariant-loop-v l = Columns (λ k. residue_of (pass_result l.t k)) (pos 0) l.v l.residues × (l.v ≤ 8)

abbrev pub decreases-loop-v : goal.decreases-loop-v
decreases-loop-v l = 8 - l.v
