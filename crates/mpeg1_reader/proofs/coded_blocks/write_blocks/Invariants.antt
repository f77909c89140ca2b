-- `write_blocks` meets its contract: it writes each block after the previous ones. Assumes nothing.
use Rattle.mpeg1_slice.specs.Blocks.{blocks_from}
use Rattle.mpeg1_reader.proofs.Laws.Blocks.{Passed}
use Rattle.mpeg1_reader.proofs.coded_blocks.write_blocks.Given as goal

abbrev pub invariant-loop-block : goal.invariant-loop-block
invariant-loop-block l =
    Passed l.bytes l.intra l.pattern (blocks_from l.intra l.pattern 6 0 l.bytes l.initial.at) l.offset l.initial.buffer l.buffer l.at l.size l.block
