-- Request No. 6: each theorem cites its law; the worked blocks and files are computed. Assumes nothing.
use mathlib.Core.Bool.{Bool, true, false, cond}
use mathlib.Core.Path.{◌≡◌, refl, sym}
use native.Mathlib.Omega.{arith}
use Rattle.math.specs.Tab.{tab}
use Rattle.math.specs.Test.{all_below, count_below}
use Rattle.math.specs.Total.{total}
use Rattle.refusals.specs.Refusal.{accepted, number_of}
use Rattle.refusals.specs.declared.Refusal.TheVariants.{NumberOutOfRange}
use Rattle.symbols.specs.Pattern.{is_coded}
use Rattle.decode_coefficients.specs.Rows.{is_zero_row, rows_worked}
use Rattle.decode_coefficients.proofs.MarkLaws.{rows-marked}
use Rattle.decode_idct.specs.Answer.{transform_entry_in_range}
use Rattle.decode_idct.proofs.Passes.{zero-row-adds-0}
use Rattle.decode_macroblock.proofs.RowLaws.{rows-most, macroblock-rows-most, none-coded-rows, predicted-rows}
use Rattle.theorems_picture.proofs.PassingLaws.{stops, stopped}
use Rattle.theorems_picture.proofs.Request6 as Laws
use Rattle.theorems_picture.proofs.Worked.{worked-files}
use Rattle.theorems.specs.Request6.{ZeroRow, AtMost8, RowsMarked, NoneWith22, AtMost48, NoneIfNotCoded, PictureRows, AnyTransform, WorkedRows}

pub zero_row : ZeroRow
zero_row c v e q p = zero-row-adds-0 c v q p e

pub at-most-8 : AtMost8
at-most-8 = rows-most

pub rows-are-marked : RowsMarked
rows-are-marked c marks p = rows-marked p

pub none-with-22 : NoneWith22
none-with-22 c = go (transform_entry_in_range c)
  where
    go : (legal : Bool) → cond legal accepted (number_of NumberOutOfRange) ≡ number_of NumberOutOfRange → cond legal (rows_worked c) 0 ≡ 0
    go true e = absurd (omega arith)
    go false e = refl

pub at-most-48 : AtMost48
at-most-48 = macroblock-rows-most

pub none-if-not-coded : NoneIfNotCoded
none-if-not-coded = record { no-block = none-coded-rows; skipped = predicted-rows }

pub picture-rows : PictureRows
picture-rows limit transform file forward backward output = record {
  sum = λ h end e. let s = stopped file h end in record {
    reached = s.reached;
    passing = s.passing;
    count = Laws.made-reached limit transform file forward backward output e s.passing s.stop;
    rows = Laws.rows-reached limit transform file forward backward output e s.passing s.stop;
    of-symbols = sym (stops file h end s.passing s.stop).macroblocks;
  };
  refused = Laws.rows-refused limit transform file forward backward output;
  no_header = λ refusal place e. Laws.rows-no-header limit transform file forward backward output e;
  most = Laws.rows-most limit transform file forward backward output;
}

pub any-transform : AnyTransform
any-transform = Laws.any-transform

pub worked-rows : WorkedRows
unfolding rows_worked is_zero_row count_below all_below transform_entry_in_range total tab is_coded
worked-rows = record {
  zeros = refl;
  dc = refl;
  last = refl;
  one-row = refl;
  one-column = refl;
  in-range = refl;
  out_of_range = refl;
  all_coded = refl;
  two-coded = refl;
  files = worked-files.3;
}
