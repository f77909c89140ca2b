-- `vector::past_in_range` meets its contract: the ends of the range don't overflow. Assumes nothing.
use mathlib.Core.Path.{◌∙◌}
use lib.IntN.{pos}
use mir.Syntax.{w32}
use Rattle.math.proofs.Machine.{Held, parameter, literal, unsigned-most, kept, ◌⊟◌, ◌⊠◌}
use Rattle.math.proofs.Bound.{within-self}
use Rattle.math.proofs.Limit.{contains-is}
use Rattle.decode_vectors.specs.Vector.{past_in_range, lowest, highest}
use Rattle.decode_vectors.proofs.vector.past_in_range.Goals as goal

pub returns : goal.returns
unfolding past_in_range
returns c =
    let f : Held (pos c.args.f) = unsigned-most w32 c.args.f c.requires tt in
    let low : Held (lowest (pos c.args.f)) = literal (pos 0) ⊟ kept w32 (literal (pos 16) ⊠ f) tt in
    let high : Held (highest (pos c.args.f)) = kept w32 (literal (pos 16) ⊠ f) tt ⊟ literal (pos 1) in
    let start = c.new.ensures.start ∙ (kept w32 low tt).is in
    let end = c.new.ensures.end ∙ (kept w32 high tt).is in
    let past = (parameter c.ranges.past (within-self c.args.past)).is in
    rw (c.contains.ensures.value, c.new.ensures.exhausted, start, end, past) (contains-is (lowest (pos c.args.f)) (highest (pos c.args.f)) c.args.past)
