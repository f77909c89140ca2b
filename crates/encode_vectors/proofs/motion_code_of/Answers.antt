-- `motion_code_of` meets its contract: the quotient plus 1 gets the sign of the difference. Assumes nothing.
use mathlib.Core.Path.{◌≡◌, ap, ◌∙◌}
use Prim.Native.Nat.{ℕ, ◌+◌, ◌-◌, ◌/◌, ◌<◌}
use native.Mathlib.Nat.{div-le_self}
use native.Mathlib.Omega.{arith}
use lib.IntN.{ℤ, pos, nat_abs, ◌*ℤ◌}
use mir.Syntax.{w32}
use Rattle.math.specs.Limit.{sign_of}
use Rattle.math.proofs.Limit.{sign-within, signum-is}
use Rattle.math.proofs.Machine.{Held, parameter, unsigned, result, kept, ◌⊠◌}
use Rattle.encode_vectors.specs.Encoding.{motion_code_of}
use Rattle.encode_vectors.proofs.motion_code_of.Goals as goal

pub returns : goal.returns
unfolding motion_code_of
returns c =
    let difference : Held c.args.difference = parameter c.ranges.difference c.requires.1 in
    let size-is : let a = c.args in c.size_less_one.result / a.f + 1 ≡ (nat_abs a.difference - 1) / a.f + 1 = ap (λ (n : ℕ). n / c.args.f + 1) (c.size_less_one.ensures ∙ ap (λ (z : ℤ). nat_abs z - 1) difference.is) in
    let size_below : c.size_less_one.result / c.args.f + 1 < 8192 = omega (arith, size-is, div-le_self (nat_abs c.args.difference - 1) c.args.f, c.requires.1.within) in
    let size : Held (pos (c.size_less_one.result / c.args.f + 1)) = unsigned w32 _ size_below tt in
    let sign : Held (sign_of c.args.difference) = result w32 (c.signum.ensures.value ∙ signum-is _ ∙ ap sign_of difference.is) (sign-within c.args.difference) tt in
    (kept w32 (sign ⊠ size) tt).is ∙ ap (λ (n : ℕ). sign_of c.args.difference *ℤ pos n) size-is
