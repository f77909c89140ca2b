-- `read_coefficient` meets its contract: the next 32 bits decide the coefficient. Assumes nothing.
use mathlib.Core.Path.{◌∙◌}
use Rattle.mpeg1_vlc.proofs.Laws.CoefficientRest.{rest-words}
use Rattle.mpeg1_vlc.proofs.coefficient.read_coefficient.Goals as goal

pub returns : goal.returns
returns c =
    c.coefficient_in.ensures ∙ rest-words c.args.bytes.now c.args.at c.peek-next.result c.peek-next.ensures c.args.first
