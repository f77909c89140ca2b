-- `pairs::read_pair` meets its contract: it tests the position before it reads the level, as `pair_of` does. Assumes nothing.
use borrow.Author.Tests.{lt-leb}
use Rattle.symbols.specs.Guard.{require◌else◌then◌}
use Rattle.format3_macroblock.specs.Pairs.{pair_of}
use Rattle.format3_macroblock.proofs.pairs.read_pair.Goals as goal

pub returns-then-next-from-gt-LAST_POSITION : goal.returns-then-next-from-gt-LAST_POSITION
unfolding pair_of require◌else◌then◌
returns-then-next-from-gt-LAST_POSITION c =
    rw (c.in-Some.ensures.0, ← c.from.ensures, lt-leb _ 63 c.if-next-from-gt-LAST_POSITION.true)
