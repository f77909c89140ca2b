-- `large_level` meets its contract: the window shifted by 20 bits holds the bits after them. Assumes nothing.
use mathlib.Core.Path.{refl, ◌∙◌}
use native.Mathlib.Omega.{arith}
use mir.Syntax.{w16}
use Rattle.std.proofs.lemmas.Result.{err_from_is_err_and}
use Rattle.math.proofs.Machine.{returned}
use Rattle.mpeg1_tables.proofs.Laws.Table.{Sized}
use Rattle.mpeg1_vlc.specs.Coefficient.{large_of}
use Rattle.mpeg1_vlc.proofs.Laws.Large.{large-sized, large-after, less-added}
use Rattle.mpeg1_vlc.proofs.coefficient.large_level.Goals as goal

pub returns-in_err-code : goal.returns-in_err-code
unfolding large_of
returns-in_err-code c =
    let answer = err_from_is_err_and c.from_residual.result c.from_residual.ensures.1 in
    rw (answer.1, answer.2, large-after c.args.levels c.args.next c.requires.1 c.requires.0 c.large_code.ensures ∙ c.in_err-code.was) refl

pub lessened-level-requires : goal.lessened-level-requires
lessened-level-requires c =
    let known : Sized c.in_ok-code.code.value c.in_ok-code.code.length = large-sized c.args.levels _ (large-after c.args.levels c.args.next c.requires.1 c.requires.0 c.large_code.ensures ∙ c.in_ok-code.was) in
    (known.value, rw c.added.ensures (less-added c.args.levels))

pub overflow_add-result : goal.overflow_add-result
overflow_add-result c =
    let known : Sized c.in_ok-code.code.value c.in_ok-code.code.length = large-sized c.args.levels _ (large-after c.args.levels c.args.next c.requires.1 c.requires.0 c.large_code.ensures ∙ c.in_ok-code.was) in
    omega (arith, known.long)

pub returns : goal.returns
unfolding large_of
returns c =
    rw (large-after c.args.levels c.args.next c.requires.1 c.requires.0 c.large_code.ensures ∙ c.in_ok-code.was, ← c.added.ensures, ← c.lessened-level.ensures, returned w16 c.lessened-level.type_inv refl)
