-- `vector::wrap` meets its contract: it makes the same tests as the definition, and no step overflows. Assumes nothing.
use lib.IntN.{ℤ, pos, ◌+ℤ◌, ◌-ℤ◌, ◌*ℤ◌}
use mir.Syntax.{w32}
use Rattle.math.proofs.Machine.{Held, parameter, literal, kept, tested, ◌⊞◌, ◌⊟◌, ◌⊠◌}
use Rattle.decode_vectors.specs.Vector.{wrapped, lowest, highest}
use Rattle.decode_vectors.proofs.vector.wrap.Goals as goal

pub returns-then-sum-f : goal.returns-then-sum-f
unfolding wrapped
returns-then-sum-f c =
    let sum : Held c.args.sum = parameter c.ranges.sum c.requires.1 in
    let times : (k : ℤ) → Held (k *ℤ c.args.f) = λ k. literal k ⊠ parameter c.ranges.f c.requires.0 in
    let low : Held (lowest c.args.f) = literal (pos 0) ⊟ kept w32 (times (pos 16)) tt in
    let raised : Held (c.args.sum +ℤ pos 32 *ℤ c.args.f) = sum ⊞ kept w32 (times (pos 32)) tt in
    rw (tested sum (kept w32 low tt) c.if-sum-f.true) (kept w32 raised tt).is

pub returns-then-f-sum : goal.returns-then-f-sum
unfolding wrapped
returns-then-f-sum c =
    let sum : Held c.args.sum = parameter c.ranges.sum c.requires.1 in
    let times : (k : ℤ) → Held (k *ℤ c.args.f) = λ k. literal k ⊠ parameter c.ranges.f c.requires.0 in
    let low : Held (lowest c.args.f) = literal (pos 0) ⊟ kept w32 (times (pos 16)) tt in
    let high : Held (highest c.args.f) = kept w32 (times (pos 16)) tt ⊟ literal (pos 1) in
    let lowered : Held (c.args.sum -ℤ pos 32 *ℤ c.args.f) = sum ⊟ kept w32 (times (pos 32)) tt in
    rw (tested sum (kept w32 low tt) c.if-sum-f.false, tested (kept w32 high tt) sum c.if-f-sum.true) (kept w32 lowered tt).is

pub returns : goal.returns
unfolding wrapped
returns c =
    let sum : Held c.args.sum = parameter c.ranges.sum c.requires.1 in
    let times : (k : ℤ) → Held (k *ℤ c.args.f) = λ k. literal k ⊠ parameter c.ranges.f c.requires.0 in
    let low : Held (lowest c.args.f) = literal (pos 0) ⊟ kept w32 (times (pos 16)) tt in
    let high : Held (highest c.args.f) = kept w32 (times (pos 16)) tt ⊟ literal (pos 1) in
    rw (tested sum (kept w32 low tt) c.if-sum-f.false, tested (kept w32 high tt) sum c.if-f-sum.false) sum.is
