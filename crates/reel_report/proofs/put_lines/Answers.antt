-- `put_lines` meets its contract: in each round, writing the remaining lines gives the whole report. Assumes nothing.
use mathlib.Core.Path.{sym, ◌∙◌}
use Prim.Native.Nat.{◌+◌, ◌≤◌}
use native.Mathlib.Omega.{arith}
use lib.ListN.{length}
use Rattle.reel_player.proofs.ItemLaws.{PictureNext, next-picture}
use Rattle.text_writer.proofs.PutLaws.{put}
use Rattle.reel_report.proofs.ReportLaws.{printed-all, line-fits, printed-cut, printed-more}
use Rattle.reel_report.proofs.put_lines.Goals as goal

pub returns-in_default-clause-value : goal.returns-in_default-clause-value
returns-in_default-clause-value c =
    let room : c.loop-position.end + 149 ≤ length c.loop-position.text = line-fits _ _ _ _ _ _ _ c.loop-position.invariant.0 c.loop-position-test.true (omega (arith, c.requires, c.loop-position.invariant.3)) in
    let cut = printed-cut _ _ _ _ _ _ _ c.loop-position.invariant.0 c.loop-position.output c.loop-position-test.true c.loop-position.invariant.1 (sym c.play_next-next.ensures.value ∙ c.in_default.is) (put c.put_cut.ensures.value c.put_cut.ensures.buffer_after) in
    cut.0

pub returns-in_default-clause-text_after : goal.returns-in_default-clause-text_after
returns-in_default-clause-text_after c =
    let room : c.loop-position.end + 149 ≤ length c.loop-position.text = line-fits _ _ _ _ _ _ _ c.loop-position.invariant.0 c.loop-position-test.true (omega (arith, c.requires, c.loop-position.invariant.3)) in
    let cut = printed-cut _ _ _ _ _ _ _ c.loop-position.invariant.0 c.loop-position.output c.loop-position-test.true c.loop-position.invariant.1 (sym c.play_next-next.ensures.value ∙ c.in_default.is) (put c.put_cut.ensures.value c.put_cut.ensures.buffer_after) in
    cut.1

pub loop-position-smaller : goal.loop-position-smaller
loop-position-smaller c =
    let Found : Type 0 = PictureNext 0 c.args.reel.now c.loop-position.position c.loop-position.older c.loop-position.newer c.loop-position.output c.loop-position-test.true c.loop-position.invariant.1 c.in-Some.picture.played c.in-Some.picture.length c.in-Some.picture.position in
    let found : Found = next-picture _ _ _ _ _ _ _ _ (sym c.play_next-next.ensures.value ∙ c.in-Some.is) in
    omega (arith, found.moved, c.loop-position-test.true)

pub loop-position-preserved : goal.loop-position-preserved
loop-position-preserved c =
    let Found : Type 0 = PictureNext 0 c.args.reel.now c.loop-position.position c.loop-position.older c.loop-position.newer c.loop-position.output c.loop-position-test.true c.loop-position.invariant.1 c.in-Some.picture.played c.in-Some.picture.length c.in-Some.picture.position in
    let found : Found = next-picture _ _ _ _ _ _ _ _ (sym c.play_next-next.ensures.value ∙ c.in-Some.is) in
    let one = found in
    let line = rw (c.first-pels.ensures, c.play_next-next.ensures.output_after) at c.put_picture-end.ensures in
    let more = printed-more _ _ _ _ _ _ _ c.loop-position.invariant.0 c.loop-position.output c.loop-position-test.true c.loop-position.invariant.1 (sym c.play_next-next.ensures.value ∙ c.in-Some.is) line.upper_bound (put line.value line.buffer_after) in
    rw (c.play_next-next.ensures.older_after, c.play_next-next.ensures.newer_after, c.play_next-next.ensures.output_after) (more, one.buffers, one.within, c.text-in-loop-position-1.given ∙ c.loop-position.invariant.3)

pub returns-clause-text_after : goal.returns-clause-text_after
returns-clause-text_after c = let all = printed-all _ _ _ _ _ _ _ c.loop-position.invariant.0 (omega arith) in
    all.1

pub returns-clause-value : goal.returns-clause-value
returns-clause-value c = let all = printed-all _ _ _ _ _ _ _ c.loop-position.invariant.0 (omega arith) in
    all.0
