-- `scaling::scale_doubled` meets its contract: the three steps in order, after which the limited result fits. Assumes nothing.
use mathlib.Core.Path.{ap, ◌∙◌}
use lib.IntN.{pos, negsuc}
use mir.Syntax.{w16, w32}
use mir.Val.{to_z, of_z}
use Rattle.math.specs.Bound.{Between}
use Rattle.math.proofs.Bound.{within-literal}
use Rattle.math.proofs.Limit.{clamp-limited, between-within}
use Rattle.math.proofs.Machine.{Held, fits, kept, parameter, bound, result, returned}
use Rattle.decode_coefficients.proofs.Ranges.{scaled-within, quotient-within}
use Rattle.decode_coefficients.specs.Scaling.{quotient_over, moved_to_odd, limited_coefficient, scaled}
use Rattle.decode_coefficients.proofs.scaling.scale_doubled.Goals as goal

abbrev quotient : (c : goal.After-divide-divided) → Held (quotient_over 16 c.args.doubled c.args.scale c.args.weight)
quotient c =
    let first : Held c.args.doubled = parameter c.ranges.doubled c.requires.0 in
    let second : Held c.args.scale = parameter c.ranges.scale c.requires.1 in
    let third : Held c.args.weight = parameter c.ranges.weight c.requires.2 in
    result w32 (c.divide-divided.ensures ∙ (λ i. quotient_over 16 (first.is i) (second.is i) (third.is i))) (quotient-within 16 tt c.requires.0 c.requires.1 c.requires.2) tt

pub move_to_odd-odd-requires : goal.move_to_odd-odd-requires
move_to_odd-odd-requires c = bound (quotient c) tt

pub overflow_cast-result : goal.overflow_cast-result
overflow_cast-result c =
    let limits : Between (negsuc 2047) (pos 2047) c.clamp.result = record { lower = c.clamp.ensures.lower_bound; upper = c.clamp.ensures.upper_bound } in
    fits (parameter {w = w32} (record { sfits = c.clamp.type_inv }) (between-within limits (within-literal {b = 2048} tt) (within-literal tt))) tt

pub returns : goal.returns
unfolding scaled
returns c =
    let odd = returned w32 c.move_to_odd-odd.type_inv (c.move_to_odd-odd.ensures ∙ ap moved_to_odd (quotient c.before.before).is) in
    let is-limited = c.clamp.ensures.value ∙ clamp-limited (negsuc 2047) (pos 2047) (to_z w32 (of_z w32 c.move_to_odd-odd.result)) (record { le = tt }) ∙ ap limited_coefficient odd in
    let limited : Held (scaled c.args.doubled c.args.scale c.args.weight) = result w32 is-limited (scaled-within c.args.doubled c.args.scale c.args.weight) tt in
    (kept w16 limited tt).is
