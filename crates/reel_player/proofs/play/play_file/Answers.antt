-- `play_file` meets its contract: the lent part fits the buffer, and its old bytes don't matter. Assumes nothing.
use Rattle.reel_player.specs.Next.{output_after}
use Rattle.reel_player.proofs.PlayLaws.{start-within, file-played}
use Rattle.reel_player.proofs.play.play_file.Goals as goal

pub lent_bytes-lent-requires : goal.lent_bytes-lent-requires
lent_bytes-lent-requires c = rw c.first_header-start.ensures (start-within _)

pub returns-clause-value : goal.returns-clause-value
unfolding output_after
returns-clause-value c = let same = file-played c.args.number c.args.file.now c.args.kept c.args.older.now c.args.newer.now c.args.output.now c.requires.max_lent_bytes_in_bounds in
    rw (← same, ← c.first_header-start.ensures, ← c.lent_bytes-lent.ensures) (c.play_into.ensures.value)

pub returns-clause-older_after : goal.returns-clause-older_after
unfolding output_after
returns-clause-older_after c = let same = file-played c.args.number c.args.file.now c.args.kept c.args.older.now c.args.newer.now c.args.output.now c.requires.max_lent_bytes_in_bounds in
    rw (← same, ← c.first_header-start.ensures, ← c.lent_bytes-lent.ensures) (c.play_into.ensures.older_after)

pub returns-clause-newer_after : goal.returns-clause-newer_after
unfolding output_after
returns-clause-newer_after c = let same = file-played c.args.number c.args.file.now c.args.kept c.args.older.now c.args.newer.now c.args.output.now c.requires.max_lent_bytes_in_bounds in
    rw (← same, ← c.first_header-start.ensures, ← c.lent_bytes-lent.ensures) (c.play_into.ensures.newer_after)
