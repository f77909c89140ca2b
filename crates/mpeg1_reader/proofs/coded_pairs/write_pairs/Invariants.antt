-- `write_pairs` meets its contract: it writes each pair after the previous ones, and finally the count in front of them. Assumes nothing.
use Prim.Native.Nat.{◌-◌}
use Rattle.mpeg1_slice.specs.Blocks.{pairs_at}
use Rattle.mpeg1_reader.proofs.Laws.Pairs.{Begun}
use Rattle.mpeg1_reader.proofs.coded_pairs.write_pairs.Given as goal

abbrev pub invariant-loop-found : goal.invariant-loop-found
invariant-loop-found l =
    Begun l.bytes (pairs_at l.intra l.bytes l.initial.at) l.offset l.initial.buffer l.buffer l.at l.first l.next l.count l.end

abbrev pub decreases-loop-found : goal.decreases-loop-found
decreases-loop-found l =
    64 - l.next
