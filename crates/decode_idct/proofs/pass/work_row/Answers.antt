-- `pass::work_row` meets its contract: the line of the row is stored in its column. Assumes nothing.
use mathlib.Core.Path.{sym, subst, ◌∙◌}
use native.Mathlib.Omega.{arith}
use lib.Dec.{lit≤}
use lib.IntN.{pos}
use Rattle.math.proofs.Bound.{all_more}
use Rattle.math.proofs.Scatter.{scatter-ext}
use Rattle.math.specs.Bound.{AllWithin}
use Rattle.decode_idct.proofs.Passes.{row_within, row-is, line_at}
use Rattle.decode_idct.proofs.pass.work_row.Goals as goal

pub transform_line-y-requires : goal.transform_line-y-requires
transform_line-y-requires c =
    let row-read = row-is c.args.c.now c.args.v (omega arith) (c.row-x.ensures (pos 0)) in
    all_more (subst (AllWithin 2048) (sym row-read) (row_within c.args.c.now c.args.v c.requires.1)) (lit≤ tt)

pub returns : goal.returns
returns c =
    let row-read = row-is c.args.c.now c.args.v (omega arith) (c.row-x.ensures (pos 0)) in
    c.put_column.ensures
    ∙ scatter-ext _ _ _ 8 _ (line_at c.args.c.now c.row-x.result c.transform_line-y.result c.args.v c.requires.0 row-read c.transform_line-y.ensures)
