-- `after_stuffing` meets its contract: after each stuffing, reading on gives the same result, with fewer bits left. Assumes nothing.
use native.Mathlib.Omega.{arith}
use Rattle.mpeg1_slice.proofs.Laws.Read.{step-read, step-refused, exits}
use Rattle.mpeg1_slice.proofs.Laws.Increment.{stuffed-refused, stuffed-read, stuffed-again, increment-ahead}
use Rattle.mpeg1_slice.proofs.increment.after_stuffing.Goals as goal

pub returns-in_err-value : goal.returns-in_err-value
returns-in_err-value c =
    exits _ _ c.from_residual.ensures.1 (stuffed-refused _ _ c.loop-value.invariant (step-refused _ c.next_word.ensures c.in_err-value.was))

pub returns-then-value-ne-STUFFING : goal.returns-then-value-ne-STUFFING
returns-then-value-ne-STUFFING c =
    rw (stuffed-read _ _ c.loop-value.invariant (step-read _ c.next_word.ensures c.in_ok-value.was) c.if-value-ne-STUFFING.true)

pub loop-value-smaller : goal.loop-value-smaller
loop-value-smaller c =
    let ahead = increment-ahead _ _ c.loop-value.invariant (step-read _ c.next_word.ensures c.in_ok-value.was) in
    omega (arith, ahead.further, ahead.inside.not_past)

pub loop-value-preserved : goal.loop-value-preserved
loop-value-preserved c =
    stuffed-again _ _ c.loop-value.invariant (step-read _ c.next_word.ensures c.in_ok-value.was) c.if-value-ne-STUFFING.false
