-- `skip_extra` meets its contract: after each byte, reading on gives the same result, with fewer bits left. Assumes nothing.
use mathlib.Core.Path.{◌≡◌}
use native.Mathlib.Omega.{arith}
use Rattle.symbols.specs.Parsed.{parsed}
use Rattle.mpeg1_slice.specs.Read.{field_at}
use Rattle.mpeg1_slice.proofs.Laws.Read.{step-read, step-refused, exits}
use Rattle.mpeg1_slice.proofs.Laws.Extra.{extra-refused, extra-read, extra-cut, extra-again, bit-ahead, byte-ahead}
use Rattle.mpeg1_slice.proofs.extra.skip_extra.Goals as goal

pub returns-in_err-more : goal.returns-in_err-more
returns-in_err-more c =
    exits _ _ c.from_residual.ensures.1 (extra-refused _ _ c.loop-more.invariant (step-refused _ c.next_field.ensures c.in_err-more.was))

pub returns-then-more-eq0 : goal.returns-then-more-eq0
returns-then-more-eq0 c =
    rw (extra-read _ _ c.loop-more.invariant (step-read _ c.next_field.ensures c.in_ok-more.was) c.if-more-eq0.true)

pub next_field-requires-in-loop-more : goal.next_field-requires-in-loop-more
next_field-requires-in-loop-more c =
    ((bit-ahead _ _ c.loop-more.invariant (step-read _ c.next_field.ensures c.in_ok-more.was)).inside, omega arith)

pub returns-in_err-next : goal.returns-in_err-next
returns-in_err-next c =
    exits _ _ c.from_residual-in_err-next.ensures.1
    (extra-cut _ _ c.loop-more.invariant (step-read _ c.next_field.ensures c.in_ok-more.was) c.if-more-eq0.false (step-refused _ c.next_field-in-loop-more.ensures c.in_err-next.was))

pub loop-more-smaller : goal.loop-more-smaller
loop-more-smaller c =
    let bit : field_at 1 c.args.bytes.now c.loop-more.at ≡ parsed c.in_ok-more.more c.in_ok-more.information = step-read _ c.next_field.ensures c.in_ok-more.was in
    let first = bit-ahead _ _ c.loop-more.invariant bit in
    let second = byte-ahead _ _ c.loop-more.invariant bit (step-read _ c.next_field-in-loop-more.ensures c.in_ok-next.was) in
    omega (arith, first.further, second.further, second.inside.not_past)

pub loop-more-preserved : goal.loop-more-preserved
loop-more-preserved c =
    extra-again _ _ c.loop-more.invariant (step-read _ c.next_field.ensures c.in_ok-more.was) c.if-more-eq0.false (step-read _ c.next_field-in-loop-more.ensures c.in_ok-next.was)
