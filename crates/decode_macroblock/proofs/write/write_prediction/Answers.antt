-- `write::write_prediction` meets its contract: it writes the six predictions at the address. Assumes nothing.
use Rattle.decode_macroblock.proofs.RunLaws.{blocks-drawable}
use Rattle.decode_macroblock.proofs.write.write_prediction.Goals as goal

pub predict_blocks-requires : goal.predict_blocks-requires
predict_blocks-requires c = rw c.macroblock_position.ensures (blocks-drawable c.requires)
