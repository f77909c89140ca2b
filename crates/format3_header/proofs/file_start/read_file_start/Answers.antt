-- `read_file_start` meets its contract: a header that is found is legal. Assumes nothing.
use mathlib.Core.Path.{sym, ◌∙◌}
use Rattle.format3_header.proofs.Laws.FileStart.{begun}
use Rattle.format3_header.proofs.file_start.read_file_start.Goals as goal

pub caller_verdict-verdict-requires : goal.caller_verdict-verdict-requires
caller_verdict-verdict-requires c = (begun _ (sym c.first_header.ensures ∙ c.in_ok-start.was)).header.size
