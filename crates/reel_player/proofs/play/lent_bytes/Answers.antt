-- `lent_bytes` meets its contract: it has the cases and the test of `lent_bytes`. Assumes nothing.
use Rattle.reel_player.proofs.play.lent_bytes.Goals as goal

pub macroblocks-requires : goal.macroblocks-requires
macroblocks-requires c = c.requires.size _ c.in-Ok.is
