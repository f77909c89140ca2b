-- `after_stuffing` meets its contract: after each stuffing, reading on gives the same result, with fewer bits left. Assumes nothing.
use Prim.Native.Nat.{◌+◌, ◌*◌, ◌-◌}
use lib.ListN.{length}
use Rattle.mpeg1_bits.specs.Bits.{bits_from, bit_offset}
use Rattle.mpeg1_slice.specs.Increment.{after_stuffing}
use Rattle.mpeg1_slice.proofs.Laws.Increment.{Stuffed}
use Rattle.mpeg1_slice.proofs.increment.after_stuffing.Given as goal

abbrev pub invariant-loop-value : goal.invariant-loop-value
invariant-loop-value l = Stuffed l.bytes (after_stuffing (1 + length (bits_from l.bytes l.initial.at)) l.bytes l.initial.at) l.at

abbrev pub decreases-loop-value : goal.decreases-loop-value
decreases-loop-value l = 8 * length l.bytes - bit_offset l.at
