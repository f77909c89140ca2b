-- `skip_extra` meets its contract: after each byte, reading on gives the same result, with fewer bits left. Assumes nothing.
use Prim.Native.Nat.{◌+◌, ◌*◌, ◌-◌}
use lib.ListN.{length}
use Rattle.mpeg1_bits.specs.Bits.{bits_from, bit_offset}
use Rattle.mpeg1_slice.specs.Slice.{after_extra}
use Rattle.mpeg1_slice.proofs.Laws.Extra.{Extra}
use Rattle.mpeg1_slice.proofs.extra.skip_extra.Given as goal

abbrev pub invariant-loop-more : goal.invariant-loop-more
invariant-loop-more l = Extra l.bytes (after_extra (1 + length (bits_from l.bytes l.initial.at)) l.bytes l.initial.at) l.at

abbrev pub decreases-loop-more : goal.decreases-loop-more
decreases-loop-more l = 8 * length l.bytes - bit_offset l.at
