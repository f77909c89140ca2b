-- `read_next_pair` meets its contract: each arm is a clause of `next_pair_of`, and the code ends within the bytes. Assumes nothing.
use mathlib.Core.Path.{◌≡◌}
use native.Mathlib.Omega.{arith}
use borrow.Author.Tests.{le-leb, lt-leb}
use mir.Syntax.{w16}
use mir.Val.{to_z, of_z}
use mir.ValLaws.{to_z-of_z}
use Rattle.math.proofs.Bound.{within-fits}
use Rattle.symbols.specs.Guard.{require◌else◌then◌}
use Rattle.mpeg1_bits.proofs.Rest.{rest-length}
use Rattle.mpeg1_slice.specs.Blocks.{next_pair_of}
use Rattle.mpeg1_slice.proofs.Laws.Coefficient.{pair_read, end_read}
use Rattle.mpeg1_slice.proofs.coefficient.read_next_pair.Goals as goal

pub returns-then-position-gt-LAST_POSITION : goal.returns-then-position-gt-LAST_POSITION
unfolding next_pair_of require◌else◌then◌
returns-then-position-gt-LAST_POSITION c =
    let past = rw c.from.ensures at c.if-position-gt-LAST_POSITION.true in
    rw (← c.in-Ok-Pair.ensures, c.in-Ok-Pair.field-0-is, lt-leb _ _ past)

pub skip-requires : goal.skip-requires
skip-requires c =
    let known = pair_read _ _ _ c.in-Ok-Pair.ensures c.in-Ok-Pair.field-0-is in
    (omega (arith, known.few), c.requires.0.bit_small, omega (arith, known.inside, rest-length c.args.bytes.now c.args.at, c.requires.0.not_past))

pub skip-requires-in-Ok-EndOfBlock : goal.skip-requires-in-Ok-EndOfBlock
skip-requires-in-Ok-EndOfBlock c =
    let known = end_read _ _ _ c.in-Ok-EndOfBlock.ensures c.in-Ok-EndOfBlock.field-0-is in
    (omega (arith, known.few), c.requires.0.bit_small, omega (arith, known.inside, rest-length c.args.bytes.now c.args.at, c.requires.0.not_past))

pub returns-else-position-gt-LAST_POSITION : goal.returns-else-position-gt-LAST_POSITION
unfolding next_pair_of require◌else◌then◌
returns-else-position-gt-LAST_POSITION c =
    let known = pair_read _ _ _ c.in-Ok-Pair.ensures c.in-Ok-Pair.field-0-is in
    let same : to_z w16 (of_z w16 c.in-Ok-Pair.level) ≡ c.in-Ok-Pair.level = to_z-of_z w16 c.in-Ok-Pair.level (within-fits known.small tt) in
    let inside = rw c.from.ensures at c.if-position-gt-LAST_POSITION.false in
    rw (← c.in-Ok-Pair.ensures, c.in-Ok-Pair.field-0-is, le-leb _ _ inside, ← c.skip.ensures, same)
