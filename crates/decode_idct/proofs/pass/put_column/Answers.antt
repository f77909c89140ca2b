-- `pass::put_column` meets its contract: before number u, the first u of the line are stored in the column. Assumes nothing.
use Prim.Native.Nat.{◌+◌, ◌*◌}
use mathlib.Core.Path.{◌≡◌, sym, ◌∙◌}
use native.Mathlib.Omega.{arith}
use lib.ListN.{set}
use mir.Syntax.{w64}
use mir.Val.{to_z, of_z}
use borrow.Author.Rules.{rules}
use Rattle.math.specs.Bound.{at}
use Rattle.math.proofs.Scatter.{scatter-none, scatter-more}
use Rattle.decode_idct.specs.Line.{column_index}
use Rattle.decode_idct.proofs.pass.put_column.Goals as goal

pub loop-u-init : goal.loop-u-init
loop-u-init c = (sym (scatter-none _ _ _), omega arith)

pub loop-u-preserved : goal.loop-u-preserved
loop-u-preserved c =
    let value : to_z w64 (of_z w64 (at c.args.y c.loop-u.u)) ≡ at c.args.y c.loop-u.u = search rules in
    ((λ i. set (c.loop-u.invariant.0 i) (8 * c.loop-u.u + c.args.v) (value i)) ∙ scatter-more (column_index c.args.v) (at c.args.y) c.loop-u.u c.args.t.now, omega arith)
