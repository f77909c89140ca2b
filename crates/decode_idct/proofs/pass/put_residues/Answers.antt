-- `pass::put_residues` meets its contract: before number u, the residues of the first u of the line are stored in the column. Assumes nothing.
use Prim.Native.Nat.{◌+◌, ◌*◌}
use mathlib.Core.Path.{◌≡◌, sym, ap, ◌∙◌}
use native.Mathlib.Omega.{arith}
use lib.ListN.{set}
use mir.Syntax.{w16, w64}
use mir.Val.{to_z, of_z}
use Rattle.math.proofs.Machine.{number, kept, returned}
use Rattle.math.specs.Bound.{at}
use Rattle.math.proofs.Scatter.{scatter-none, scatter-more}
use Rattle.decode_idct.specs.Line.{column_index, residue_of}
use Rattle.decode_idct.proofs.pass.put_residues.Goals as goal

pub loop-u-init : goal.loop-u-init
loop-u-init c = (sym (scatter-none _ _ _), omega arith)

pub loop-u-preserved : goal.loop-u-preserved
loop-u-preserved c =
    let value : to_z w16 (of_z w16 c.residue.result) ≡ residue_of (at c.args.y c.loop-u.u) = returned w16 c.residue.type_inv (c.residue.ensures ∙ ap residue_of (kept w64 (number (c.requires.1.all c.loop-u.u)) tt).is) in
    ((λ i. set (c.loop-u.invariant.0 i) (8 * c.loop-u.u + c.args.v) (value i)) ∙ scatter-more (column_index c.args.v) (λ k. residue_of (at c.args.y k)) c.loop-u.u c.args.t.now, omega arith)
