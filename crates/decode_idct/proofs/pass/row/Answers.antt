-- `pass::row` meets its contract: before number u, the first u of the row are in the line. Assumes nothing.
use Prim.Native.Nat.{◌+◌, ◌*◌}
use mathlib.Core.Path.{refl, sym, ◌∙◌, subst}
use native.Mathlib.Omega.{arith}
use lib.IntN.{pos}
use lib.ListN.{get_or, length-set}
use mir.Syntax.{w64}
use Rattle.std.proofs.lemmas.List.{get_or_default}
use Rattle.math.proofs.Machine.{returned}
use Rattle.math.proofs.Tab.{stored_more}
use Rattle.decode_idct.proofs.pass.row.Goals as goal

pub loop-u-preserved : goal.loop-u-preserved
loop-u-preserved g c = record {
  long = length-set _ _ _ ∙ c.loop-u.invariant.long;
  stored = λ d.
      let element = get_or_default c.args.block.now (8 * c.args.v + c.loop-u.u) c.index-block-v.result d (omega arith) in
      let converted = subst (λ x. g.T.Into.converts x c.into.result) element c.into.ensures in
      stored_more (λ k z. g.T.Into.converts (get_or c.args.block.now (8 * c.args.v + k) d) z) (pos 0) c.loop-u.line (omega (arith, c.loop-u.invariant.long)) (c.loop-u.invariant.stored d)
      (subst (g.T.Into.converts (get_or c.args.block.now (8 * c.args.v + c.loop-u.u) d)) (sym (returned w64 c.into.type_inv refl)) converted);
}

pub returns : goal.returns
returns g c = λ d u h. c.loop-u.invariant.stored d u (omega arith)
