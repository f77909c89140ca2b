-- `encode_vector` meets its contract: the test bounds the numbers for what it calls. Assumes nothing.
use mathlib.Core.Path.{◌≡◌, sym, ap, ◌∙◌}
use mathlib.Core.Bool.{true}
use Prim.Native.Nat.{◌≤◌}
use native.Mathlib.Nat.{lt_of_le_of_lt}
use lib.Dec.{lit<}
use lib.IntN.{pos}
use mir.Syntax.{w32}
use mir.ValLaws.{to_z-of_z}
use Rattle.math.proofs.Machine.{Held, parameter, unsigned-most, result, returned, bound}
use Rattle.decode_vectors.proofs.VectorLaws.{factor-most, factor-least}
use Rattle.decode_vectors.proofs.WrapLaws.{inside-within}
use Rattle.encode_vectors.specs.Encoding.{motion_code_of, residual_of, needed_difference, vector_reachable}
use Rattle.encode_vectors.proofs.ReachLaws.{InReach, reach-known, needed-within}
use Rattle.encode_vectors.proofs.encode_vector.Goals as goal

abbrev reached : (c : goal.After-f_of_code-f) → vector_reachable c.args.f_code c.args.past c.args.wanted ≡ true
reached c = sym (c.if-not-vector_reachable.ensures ∙ (λ i. vector_reachable c.args.f_code (to_z-of_z w32 c.args.past c.ranges.past i) (to_z-of_z w32 c.args.wanted c.ranges.wanted i)))

abbrev known : (c : goal.After-f_of_code-f) → InReach c.args.f_code c.args.past c.args.wanted
known c = reach-known _ _ _ (reached c)

abbrev f-most : (c : goal.After-f_of_code-f) → c.f_of_code-f.result ≤ 64
f-most c = rw c.f_of_code-f.ensures (factor-most _ (known c).of-past.most)

abbrev f : (c : goal.After-f_of_code-f) → Held (pos c.f_of_code-f.result)
f c = unsigned-most w32 c.f_of_code-f.result (f-most c) tt

abbrev past : (c : goal.After-f_of_code-f) → Held c.args.past
past c = let k = (known c).of-past in parameter c.ranges.past (inside-within _ _ (factor-most _ k.most) k.range)

abbrev wanted : (c : goal.After-f_of_code-f) → Held c.args.wanted
wanted c = parameter c.ranges.wanted (inside-within _ _ (factor-most _ (known c).of-past.most) (known c).wanted-range)

abbrev difference : (c : goal.After-needed_difference-difference) → Held (needed_difference (pos c.f_of_code-f.result) c.args.past c.args.wanted)
difference c =
    let e = c.needed_difference-difference.ensures ∙ (λ i. needed_difference ((f c.before).is i) ((past c.before).is i) ((wanted c.before).is i)) in
    result w32 e (needed-within (f c.before).size (past c.before).size (wanted c.before).size) tt

pub f_of_code-f-requires : goal.f_of_code-f-requires
f_of_code-f-requires c = let k = (reach-known _ _ _ (sym c.if-not-vector_reachable.ensures)).of-past in (k.least, k.most)

pub overflow_cast-f : goal.overflow_cast-f
overflow_cast-f c = record { sfits = lt_of_le_of_lt (f-most c) (lit< tt) }

pub needed_difference-difference-requires : goal.needed_difference-difference-requires
needed_difference-difference-requires c = (bound (f c) tt, bound (past c) tt, bound (wanted c) tt)

pub motion_code_of-requires : goal.motion_code_of-requires
motion_code_of-requires c = (rw c.f_of_code-f.ensures (factor-least _), bound (difference c) tt)

pub residual_of-requires : goal.residual_of-requires
residual_of-requires c = (rw c.f_of_code-f.ensures (factor-least _), bound (difference c.before) tt)

pub returns-clause-code : goal.returns-clause-code
returns-clause-code c =
    let code-is = c.motion_code_of.ensures ∙ ap (motion_code_of c.f_of_code-f.result) (difference c.before.before).is in
    rw (reached c.before.before.before, sym c.f_of_code-f.ensures) (returned w32 c.motion_code_of.type_inv code-is)

pub returns-clause-residual : goal.returns-clause-residual
returns-clause-residual c =
    let residual-is = c.residual_of.ensures ∙ ap (residual_of c.f_of_code-f.result) (difference c.before.before).is in
    rw (reached c.before.before.before, sym c.f_of_code-f.ensures) residual-is
