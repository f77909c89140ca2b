-- `pairs::read_pairs` meets its contract: between any two pairs the block holds those read so far. Assumes nothing.
-- The loop's invariant adds that these pairs plus those still to be read are all pairs.
use Rattle.format3_macroblock.proofs.Laws.Landing.{BetweenPairs}
use Rattle.format3_macroblock.proofs.pairs.read_pairs.Given as goal

abbrev pub invariant-loop : goal.invariant-loop
invariant-loop l = BetweenPairs l.coding.scaling l.coding.matrix.now l.count l.rest l.initial.block l.block l.marks l.counter l.next l.at
