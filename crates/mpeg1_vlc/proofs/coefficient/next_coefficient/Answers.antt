-- `next_coefficient` meets its contract: it reads the word, then what follows it. Assumes nothing.
use mathlib.Core.Path.{sym, ◌∙◌}
use Rattle.mpeg1_vlc.proofs.Laws.Coefficient.{word-found}
use Rattle.mpeg1_vlc.proofs.coefficient.next_coefficient.Goals as goal

pub finished-requires : goal.finished-requires
finished-requires c = (word-found c.args.next c.requires (sym c.look_up_word.ensures ∙ c.in_ok-word.was), c.requires)
