-- `look_up_word` meets its contract: each row decides the words that it is used for. Assumes nothing.
use mathlib.Core.Path.{◌∙◌}
use native.Mathlib.Omega.{arith}
use borrow.Author.Rules.{rules}
use Rattle.mpeg1_tables.specs.AnnexB.{next_coefficients}
use Rattle.mpeg1_tables.proofs.Laws.Prefix.{code-take}
use Rattle.mpeg1_vlc.specs.Requires.{LookUpFits}
use Rattle.mpeg1_vlc.proofs.Laws.Level.{row-whole, row-settles}
use Rattle.mpeg1_vlc.proofs.Laws.Word.{coefficients-settle, six-zeros-settle, coefficients-no-longer}
use Rattle.mpeg1_vlc.proofs.coefficient.look_up_word.Goals as goal
use Rattle.mpeg1_vlc.proofs.coefficient.look_up_word.Goals.{then-next-lt8-via-then-next-lt8, then-next-lt8-via-else-next-lt8+then-next-ge-PAST_SIX_ZEROS}

pub returns-then-next-lt8 : goal.returns-then-next-lt8
returns-then-next-lt8 c =
    let fits : LookUpFits 13 0 c.args.next = search rules in
    c.look_up.ensures
    ∙ elim c.then-next-lt8.branch [
      | then-next-lt8-via-then-next-lt8 w ↦ row-whole 13 0 _ fits (omega (arith, w.if-next-lt8.true))
      | then-next-lt8-via-else-next-lt8+then-next-ge-PAST_SIX_ZEROS w ↦ row-settles 13 0 _ fits 4 coefficients-settle (omega (arith, w.if-next-ge-PAST_SIX_ZEROS.true))
    ]

pub returns-then-next-ge-PAST_EIGHT_ZEROS : goal.returns-then-next-ge-PAST_EIGHT_ZEROS
returns-then-next-ge-PAST_EIGHT_ZEROS c =
    let fits : LookUpFits 14 6 c.args.next = search rules in
    c.look_up-then-next-ge-PAST_EIGHT_ZEROS.ensures ∙ row-settles 14 6 _ fits 64 six-zeros-settle (omega arith)

pub returns : goal.returns
returns c = c.look_up-2.ensures ∙ code-take next_coefficients 16 _ coefficients-no-longer
