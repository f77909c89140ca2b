-- `vector::next_vector` meets its contract: it wraps past plus difference, and no step overflows. Assumes nothing.
use mathlib.Core.Path.{◌≡◌, ◌∙◌}
use native.Mathlib.Nat.{le_of_lt}
use lib.IntN.{pos, ◌+ℤ◌}
use mir.Syntax.{w32}
use Rattle.math.proofs.Machine.{Held, parameter, unsigned-most, result, returned, fits, kept, bound, ◌⊞◌}
use Rattle.decode_vectors.specs.Vector.{vector_difference_of, wrapped, vector_of}
use Rattle.decode_vectors.proofs.VectorLaws.{difference-within}
use Rattle.decode_vectors.proofs.vector.next_vector.Goals as goal

pub overflow_add-moved : goal.overflow_add-moved
overflow_add-moved c =
    let f : Held (pos c.args.f) = unsigned-most w32 c.args.f c.requires.0 tt in
    let residual : Held (pos c.args.residual) = unsigned-most w32 c.args.residual (le_of_lt c.requires.3) tt in
    let code : Held c.args.code = parameter c.ranges.code c.requires.2 in
    let difference-is : let a = c.args in c.vector_difference.result ≡ vector_difference_of (pos a.f) a.code (pos a.residual) = c.vector_difference.ensures ∙ (λ i. vector_difference_of (f.is i) (code.is i) (residual.is i)) in
    let moved : let a = c.args in Held (a.past +ℤ vector_difference_of (pos a.f) a.code (pos a.residual)) = parameter c.ranges.past c.requires.1 ⊞ result w32 difference-is (difference-within f.size c.requires.2 residual.size) tt in
    fits moved tt

pub wrap-requires : goal.wrap-requires
wrap-requires c =
    let f : Held (pos c.args.f) = unsigned-most w32 c.args.f c.requires.0 tt in
    let residual : Held (pos c.args.residual) = unsigned-most w32 c.args.residual (le_of_lt c.requires.3) tt in
    let code : Held c.args.code = parameter c.ranges.code c.requires.2 in
    let difference-is : let a = c.args in c.vector_difference.result ≡ vector_difference_of (pos a.f) a.code (pos a.residual) = c.vector_difference.ensures ∙ (λ i. vector_difference_of (f.is i) (code.is i) (residual.is i)) in
    let moved : let a = c.args in Held (a.past +ℤ vector_difference_of (pos a.f) a.code (pos a.residual)) = parameter c.ranges.past c.requires.1 ⊞ result w32 difference-is (difference-within f.size c.requires.2 residual.size) tt in
    (bound f tt, bound (kept w32 moved tt) tt)

pub returns : goal.returns
unfolding vector_of
returns c =
    let f : Held (pos c.args.f) = unsigned-most w32 c.args.f c.requires.0 tt in
    let residual : Held (pos c.args.residual) = unsigned-most w32 c.args.residual (le_of_lt c.requires.3) tt in
    let code : Held c.args.code = parameter c.ranges.code c.requires.2 in
    let difference-is : let a = c.args in c.vector_difference.result ≡ vector_difference_of (pos a.f) a.code (pos a.residual) = c.vector_difference.ensures ∙ (λ i. vector_difference_of (f.is i) (code.is i) (residual.is i)) in
    let moved : let a = c.args in Held (a.past +ℤ vector_difference_of (pos a.f) a.code (pos a.residual)) = parameter c.ranges.past c.requires.1 ⊞ result w32 difference-is (difference-within f.size c.requires.2 residual.size) tt in
    returned w32 c.wrap.type_inv (c.wrap.ensures ∙ (λ i. wrapped (f.is i) ((kept w32 moved tt).is i)))
