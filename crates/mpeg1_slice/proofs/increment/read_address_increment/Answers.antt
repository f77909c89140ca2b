-- `read_address_increment` meets its contract: the first code after stuffing is an increment or an escape. Assumes nothing.
use Rattle.symbols.proofs.Parsed.{all-at}
use Rattle.mpeg1_slice.proofs.Laws.Read.{step-read, standing}
use Rattle.mpeg1_slice.proofs.Laws.Onward.{first-code-ahead}
use Rattle.mpeg1_slice.proofs.increment.read_address_increment.Goals as goal

pub after_escape-requires : goal.after_escape-requires
after_escape-requires c =
    (all-at (first-code-ahead c.args.bytes.now (standing c.requires)) (step-read _ c.after_stuffing.ensures c.in_ok-value.was)).inside
