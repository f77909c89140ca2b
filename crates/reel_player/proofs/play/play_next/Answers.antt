-- `play_next` meets its contract: the file it finds lies within the reel. Assumes nothing.
use mathlib.Core.Path.{◌≡◌, sym, ◌∙◌}
use native.Mathlib.Omega.{arith}
use Rattle.std.specs.Prelude.{Some}
use Rattle.reel_parts.specs.Part.{part_at}
use Rattle.reel_parts.proofs.PartLaws.{inside}
use Rattle.reel_player.proofs.play.play_next.Goals as goal

pub overflow_add-number : goal.overflow_add-number
overflow_add-number c =
    let found : part_at c.args.reel.now c.args.position.at ≡ Some c.in_ok-part.part = sym c.part_at.ensures ∙ c.in_ok-part.was in
    let within = (inside _ _).fits _ found in
    omega (arith, within.0, within.1, c.requires)

pub overflow_add-end : goal.overflow_add-end
overflow_add-end c =
    let found : part_at c.args.reel.now c.args.position.at ≡ Some c.in_ok-part.part = sym c.part_at.ensures ∙ c.in_ok-part.was in
    let within = (inside _ _).fits _ found in
    omega (arith, within.1)

pub slice_bounds-play_file-end : goal.slice_bounds-play_file-end
slice_bounds-play_file-end c =
    let found : part_at c.args.reel.now c.args.position.at ≡ Some c.in_ok-part.part = sym c.part_at.ensures ∙ c.in_ok-part.was in
    let within = (inside _ _).fits _ found in
    within.1
