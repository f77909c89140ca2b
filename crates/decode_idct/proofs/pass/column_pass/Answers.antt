-- `pass::column_pass` meets its contract: before row v, the first v columns hold the residues of the transformed rows. Assumes nothing.
use Prim.Native.Nat.{◌+◌, ◌^◌, ◌≤◌}
use mathlib.Core.Path.{sym, ap, subst}
use native.Mathlib.Omega.{arith}
use lib.IntN.{pos}
use Rattle.math.specs.Bound.{AllWithin}
use Rattle.decode_idct.proofs.Columns.{Columns, columns-none, columns-more, columns-all}
use Rattle.decode_idct.proofs.Passes.{line-within, row_within, row-is, line_at}
use Rattle.decode_idct.specs.Line.{pass_result, residue_of}
use Rattle.decode_idct.proofs.pass.column_pass.Goals as goal

pub loop-v-init : goal.loop-v-init
loop-v-init c = (columns-none, omega arith)

pub transform_line-y-requires : goal.transform_line-y-requires
transform_line-y-requires c =
    let row-read = row-is c.args.t c.loop-v.v (omega arith) (c.row-x.ensures (pos 0)) in
    subst (AllWithin (2 ^ 34)) (sym row-read) (row_within c.args.t c.loop-v.v c.requires)

pub put_residues-requires : goal.put_residues-requires
put_residues-requires c =
    let row-read = row-is c.args.t c.loop-v.v (omega arith) (c.row-x.ensures (pos 0)) in
    (c.loop-v-test.true, subst (AllWithin (2 ^ 57)) (sym c.transform_line-y.ensures) (line-within (subst (AllWithin (2 ^ 34)) (sym row-read) (row_within c.args.t c.loop-v.v c.requires))))

pub loop-v-preserved : goal.loop-v-preserved
loop-v-preserved c =
    let next : c.loop-v.v + 1 ≤ 8 = omega arith in
    let row-read = row-is c.args.t c.loop-v.v (omega arith) (c.row-x.ensures (pos 0)) in
    let line = line_at c.args.t c.row-x.result c.transform_line-y.result c.loop-v.v c.loop-v-test.true row-read c.transform_line-y.ensures in
    let column = columns-more c.loop-v.invariant.0 c.loop-v-test.true (λ u b. ap residue_of (line u b)) in
    (subst (Columns (λ k. residue_of (pass_result c.args.t k)) (pos 0) (c.loop-v.v + 1)) (sym c.put_residues.ensures) column, next)

pub returns : goal.returns
returns c = columns-all c.loop-v.invariant.0 (omega arith)
