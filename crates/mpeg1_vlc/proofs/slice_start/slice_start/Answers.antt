-- `slice_start` meets its contract: 24 bits are the prefix if they form the number 1, and the next eight are the row. Assumes nothing.
use mathlib.Core.Path.{sym}
use mathlib.Core.Logic.{inl, inr}
use native.Mathlib.Omega.{arith}
use Rattle.mpeg1_vlc.proofs.Laws.SliceStart.{start_none, start-short, row_outside, row-inside}
use Rattle.mpeg1_vlc.proofs.slice_start.slice_start.Goals as goal
use Rattle.mpeg1_vlc.proofs.slice_start.slice_start.Goals.{then-row-lt1-via-then-row-lt1, then-row-lt1-via-else-row-lt1+then-from-row}

pub returns-then-first-ne1 : goal.returns-then-first-ne1
returns-then-first-ne1 c = sym (start_none c.args.height c.args.next c.requires.0 c.requires.1 (omega arith) c.if-first-ne1.true)

pub returns-then-next-lt32 : goal.returns-then-next-lt32
returns-then-next-lt32 c = sym (start-short c.args.height c.args.next c.requires.0 c.requires.1 (omega arith) c.if-first-ne1.false c.if-next-lt32.true)

pub returns-then-row-lt1 : goal.returns-then-row-lt1
returns-then-row-lt1 c =
    sym (row_outside c.args.height c.args.next c.requires.0 c.requires.1 (omega arith) c.if-first-ne1.false c.if-next-lt32.false (elim c.then-row-lt1.branch [
      | then-row-lt1-via-then-row-lt1 w ↦ inl w.if-row-lt1.true
      | then-row-lt1-via-else-row-lt1+then-from-row w ↦ inr (omega (arith, w.from.ensures, w.if-from-row.true))
    ]))

pub returns : goal.returns
returns c = sym (row-inside c.args.height c.args.next c.requires.0 c.requires.1 (omega arith) c.if-first-ne1.false c.if-next-lt32.false c.if-row-lt1.false (omega (arith, c.from.ensures, c.if-from-row.false)))
