-- `write_macroblock_records` meets its contract: it writes each record after the previous ones until only zero bits are left. Assumes nothing.
use Prim.Native.Nat.{◌*◌, ◌-◌}
use lib.ListN.{length}
use Rattle.mpeg1_bits.specs.Bits.{bit_offset}
use Rattle.mpeg1_reader.proofs.Laws.Macroblocks.{Passed}
use Rattle.mpeg1_reader.proofs.macroblocks.write_macroblock_records.Given as goal

abbrev pub invariant-loop-header : goal.invariant-loop-header
invariant-loop-header l = Passed l.bytes l.header l.initial.at l.offset l.initial.buffer l.buffer l.at l.end l.whole

abbrev pub decreases-loop-header : goal.decreases-loop-header
decreases-loop-header l = 8 * length l.bytes - bit_offset l.at
