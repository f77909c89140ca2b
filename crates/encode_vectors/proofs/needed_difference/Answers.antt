-- `needed_difference` meets its contract: it makes the same tests as the definition, and no step overflows. Assumes nothing.
use lib.IntN.{ℤ, pos, ◌+ℤ◌, ◌-ℤ◌, ◌*ℤ◌}
use mir.Syntax.{w32}
use Rattle.math.proofs.Machine.{Held, parameter, literal, fits, kept, tested, ◌⊞◌, ◌⊟◌, ◌⊠◌}
use Rattle.encode_vectors.specs.Encoding.{needed_difference}
use Rattle.encode_vectors.proofs.needed_difference.Goals as goal

pub returns-then-difference-f : goal.returns-then-difference-f
unfolding needed_difference
returns-then-difference-f c =
    let between : Held (c.args.wanted -ℤ c.args.past) = parameter c.ranges.wanted c.requires.2 ⊟ parameter c.ranges.past c.requires.1 in
    let times : (k : ℤ) → Held (k *ℤ c.args.f) = λ k. literal k ⊠ parameter c.ranges.f c.requires.0 in
    let low : Held (pos 1 -ℤ pos 16 *ℤ c.args.f) = literal (pos 1) ⊟ kept w32 (times (pos 16)) tt in
    let raised : Held (c.args.wanted -ℤ c.args.past +ℤ pos 32 *ℤ c.args.f) = kept w32 between tt ⊞ kept w32 (times (pos 32)) tt in
    rw (tested (kept w32 between tt) (kept w32 low tt) c.if-difference-f.true) (kept w32 raised tt).is

pub overflow_sub-result : goal.overflow_sub-result
overflow_sub-result c =
    let times : (k : ℤ) → Held (k *ℤ c.args.f) = λ k. literal k ⊠ parameter c.ranges.f c.requires.0 in
    let between : Held (c.args.wanted -ℤ c.args.past) = parameter c.ranges.wanted c.requires.2 ⊟ parameter c.ranges.past c.requires.1 in
    let lowered : Held (c.args.wanted -ℤ c.args.past -ℤ pos 32 *ℤ c.args.f) = kept w32 between tt ⊟ kept w32 (times (pos 32)) tt in
    fits lowered tt

pub returns-then-f-difference : goal.returns-then-f-difference
unfolding needed_difference
returns-then-f-difference c =
    let times : (k : ℤ) → Held (k *ℤ c.args.f) = λ k. literal k ⊠ parameter c.ranges.f c.requires.0 in
    let between : Held (c.args.wanted -ℤ c.args.past) = parameter c.ranges.wanted c.requires.2 ⊟ parameter c.ranges.past c.requires.1 in
    let low : Held (pos 1 -ℤ pos 16 *ℤ c.args.f) = literal (pos 1) ⊟ kept w32 (times (pos 16)) tt in
    let lowered : Held (c.args.wanted -ℤ c.args.past -ℤ pos 32 *ℤ c.args.f) = kept w32 between tt ⊟ kept w32 (times (pos 32)) tt in
    rw (tested (kept w32 between tt) (kept w32 low tt) c.if-difference-f.false, tested (kept w32 (times (pos 16)) tt) (kept w32 between tt) c.if-f-difference.true)
    (kept w32 lowered tt).is

pub returns : goal.returns
unfolding needed_difference
returns c =
    let times : (k : ℤ) → Held (k *ℤ c.args.f) = λ k. literal k ⊠ parameter c.ranges.f c.requires.0 in
    let between : Held (c.args.wanted -ℤ c.args.past) = parameter c.ranges.wanted c.requires.2 ⊟ parameter c.ranges.past c.requires.1 in
    let low : Held (pos 1 -ℤ pos 16 *ℤ c.args.f) = literal (pos 1) ⊟ kept w32 (times (pos 16)) tt in
    rw (tested (kept w32 between tt) (kept w32 low tt) c.if-difference-f.false, tested (kept w32 (times (pos 16)) tt) (kept w32 between tt) c.if-f-difference.false)
    (kept w32 between tt).is
