-- `reader::read_records` meets its contract: the macroblocks made so far plus those still in the file make up the picture.
-- The measure is the number of bytes left. Assumes nothing.
use Prim.Native.Nat.{◌-◌}
use lib.ListN.{length}
use Rattle.decode_idct.specs.Transform.{inverse_transform}
use Rattle.decode_macroblock.specs.Compensation.{references}
use Rattle.format3_picture.proofs.ReaderLaws.{Whole}
use Rattle.format3_picture.proofs.reader.read_records.Given as goal

abbrev pub invariant-loop-at : goal.invariant-loop-at
invariant-loop-at l = Whole inverse_transform (references l.forward l.backward) l.file l.start l.initial.picture.header l.initial.output l.output l.at l.picture l.matrices

abbrev pub decreases-loop-at : goal.decreases-loop-at
decreases-loop-at l = length l.file - l.at
