-- `vector::vector_difference` meets its contract: the size of the difference gets the sign of the code, and no step overflows. Assumes nothing.
use mathlib.Core.Path.{ap, ◌∙◌}
use lib.IntN.{ℤ, pos, nat_abs, ◌+ℤ◌, ◌-ℤ◌, ◌*ℤ◌}
use mir.Syntax.{w32}
use Rattle.math.specs.Limit.{sign_of}
use Rattle.math.proofs.Limit.{sign-within, signum-is}
use Rattle.math.proofs.Machine.{Held, parameter, literal, result, fits, kept, ◌⊞◌, ◌⊟◌, ◌⊠◌}
use Rattle.decode_vectors.specs.Vector.{vector_difference_of}
use Rattle.decode_vectors.proofs.vector.vector_difference.Goals as goal

abbrev code-size : (c : goal.After-abs) → Held (pos (nat_abs c.args.code))
code-size c = result w32 (c.abs.ensures.value ∙ ap (λ (z : ℤ). pos (nat_abs z)) (parameter c.ranges.code c.requires.1).is) (record { within = c.requires.1.within }) tt

abbrev scaled : (c : goal.After-abs) → Held ((pos (nat_abs c.args.code) -ℤ pos 1) *ℤ c.args.f)
scaled c = kept w32 (code-size c ⊟ literal (pos 1)) tt ⊠ parameter c.ranges.f c.requires.0

abbrev with-residual : (c : goal.After-abs) → Held ((pos (nat_abs c.args.code) -ℤ pos 1) *ℤ c.args.f +ℤ c.args.residual)
with-residual c = kept w32 (scaled c) tt ⊞ parameter c.ranges.residual c.requires.2

abbrev size : (c : goal.After-abs) → Held ((pos (nat_abs c.args.code) -ℤ pos 1) *ℤ c.args.f +ℤ c.args.residual +ℤ pos 1)
size c = kept w32 (with-residual c) tt ⊞ literal (pos 1)

abbrev difference : (c : goal.After-abs) → Held (sign_of c.args.code *ℤ ((pos (nat_abs c.args.code) -ℤ pos 1) *ℤ c.args.f +ℤ c.args.residual +ℤ pos 1))
difference c = result w32 (c.signum.ensures.value ∙ signum-is _ ∙ ap sign_of (parameter c.ranges.code c.requires.1).is) (sign-within c.args.code) tt ⊠ kept w32 (size c) tt

pub overflow_add-result : goal.overflow_add-result
overflow_add-result c = fits (with-residual c) tt

pub overflow_add-result-2 : goal.overflow_add-result-2
overflow_add-result-2 c = fits (size c) tt

pub overflow_mul-result-2 : goal.overflow_mul-result-2
overflow_mul-result-2 c = fits (difference c) tt

pub returns : goal.returns
unfolding vector_difference_of
returns c = (kept w32 (difference c) tt).is
