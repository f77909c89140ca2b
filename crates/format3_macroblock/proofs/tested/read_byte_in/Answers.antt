-- `read_byte_in` meets its contract: it makes the same test as `byte_in`. Assumes nothing.
use Rattle.std.proofs.Common.{arith}
use Rattle.std.proofs.lemmas.Grind.{common_steps}
use Rattle.symbols.specs.Guard.{require◌else◌then◌}
use Rattle.format3_macroblock.proofs.tested.read_byte_in.Goals as goal

pub returns-then-not-contains : goal.returns-then-not-contains
unfolding require◌else◌then◌
returns-then-not-contains c = grind (arith, common_steps)

pub returns : goal.returns
unfolding require◌else◌then◌
returns c = grind (arith, common_steps)
