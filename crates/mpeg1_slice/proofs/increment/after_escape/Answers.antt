-- `after_escape` meets its contract: after each escape, reading on gives the same result, with the sum 33 larger. Assumes nothing.
use Rattle.mpeg1_slice.proofs.Laws.Read.{step-read, step-refused, exits}
use Rattle.mpeg1_slice.proofs.Laws.Increment.{escaped-refused, escaped-past, escaped-read, escaped-again, escaped-closer}
use Rattle.mpeg1_slice.proofs.increment.after_escape.Goals as goal

pub returns-in_err-value : goal.returns-in_err-value
returns-in_err-value c =
    exits _ _ c.from_residual.ensures.1 (escaped-refused _ _ _ c.loop-value.invariant (step-refused _ c.next_word.ensures c.in_err-value.was))

pub returns-then-sum-more : goal.returns-then-sum-more
returns-then-sum-more c =
    rw (escaped-past _ _ _ c.loop-value.invariant (step-read _ c.next_word.ensures c.in_ok-value.was) c.amount-more.ensures c.if-sum-more.true)

pub returns-then-value-ne-INCREMENT_ESCAPE : goal.returns-then-value-ne-INCREMENT_ESCAPE
returns-then-value-ne-INCREMENT_ESCAPE c =
    rw (escaped-read _ _ _ c.loop-value.invariant (step-read _ c.next_word.ensures c.in_ok-value.was) c.amount-more.ensures c.if-sum-more.false c.if-value-ne-INCREMENT_ESCAPE.true)

pub loop-value-smaller : goal.loop-value-smaller
loop-value-smaller c = escaped-closer _ _ _ c.loop-value.invariant c.amount-more.ensures c.if-sum-more.false c.if-value-ne-INCREMENT_ESCAPE.false

pub loop-value-preserved : goal.loop-value-preserved
loop-value-preserved c =
    escaped-again _ _ _ c.loop-value.invariant (step-read _ c.next_word.ensures c.in_ok-value.was) c.amount-more.ensures c.if-sum-more.false c.if-value-ne-INCREMENT_ESCAPE.false
