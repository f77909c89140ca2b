-- `line::half_line` meets its contract: the accumulator holds the sum so far. Assumes nothing.
use Prim.Native.Nat.{ℕ, ◌+◌, ◌*◌, ◌^◌}
use mathlib.Core.Path.{sym, ◌∙◌}
use native.Mathlib.Nat.{mul-le-mul_right}
use native.Mathlib.Omega.{arith}
use lib.IntN.{ℤ, ◌+ℤ◌, ◌*ℤ◌}
use mir.Syntax.{w64}
use mir.Val.{to_z}
use Rattle.math.proofs.Bound.{within-mul, within_more}
use Rattle.math.proofs.Machine.{Held, number, fits, kept, ◌⊞◌, ◌⊠◌}
use Rattle.math.proofs.Sum.{sum-none, sum_more, within-sum}
use Rattle.math.specs.Bound.{Within, at}
use Rattle.math.specs.Sum.{sum_to}
use Rattle.decode_idct.proofs.line.half_line.Goals as goal

pub loop-j-init : goal.loop-j-init
loop-j-init c = rw sum-none

pub overflow_add-sum-in-loop-j : goal.overflow_add-sum-in-loop-j
overflow_add-sum-in-loop-j c =
    let term_at : ℕ → ℤ = λ k. at c.args.factors k *ℤ at c.args.x (c.args.first + 2 * k) in
    let so_far : Within (2 ^ 56) (sum_to term_at c.loop-j.j) =
    within_more (within-sum _ (2 ^ 54) c.loop-j.j (λ k h. within-mul (c.requires.0.all k) (c.requires.1.all (c.args.first + 2 * k))))
    (omega (arith, mul-le-mul_right (2 ^ 54) c.loop-j.auto.j-end)) in
    let term : Held (term_at c.loop-j.j) =
    kept w64 (number (c.requires.0.all c.loop-j.j)) tt ⊠ kept w64 (number (c.requires.1.all (c.args.first + 2 * c.loop-j.j))) tt in
    let before : Held (sum_to term_at c.loop-j.j) = record { raw = to_z w64 c.loop-j.sum-bits; cap = 2 ^ 56; is = c.loop-j.invariant; size = so_far } in
    let total : Held (sum_to term_at c.loop-j.j +ℤ term_at c.loop-j.j) = before ⊞ kept w64 term tt in
    fits total tt

pub loop-j-preserved : goal.loop-j-preserved
loop-j-preserved c =
    let term_at : ℕ → ℤ = λ k. at c.args.factors k *ℤ at c.args.x (c.args.first + 2 * k) in
    let so_far : Within (2 ^ 56) (sum_to term_at c.loop-j.j) =
    within_more (within-sum _ (2 ^ 54) c.loop-j.j (λ k h. within-mul (c.requires.0.all k) (c.requires.1.all (c.args.first + 2 * k))))
    (omega (arith, mul-le-mul_right (2 ^ 54) c.loop-j.auto.j-end)) in
    let term : Held (term_at c.loop-j.j) =
    kept w64 (number (c.requires.0.all c.loop-j.j)) tt ⊠ kept w64 (number (c.requires.1.all (c.args.first + 2 * c.loop-j.j))) tt in
    let before : Held (sum_to term_at c.loop-j.j) = record { raw = to_z w64 c.loop-j.sum-bits; cap = 2 ^ 56; is = c.loop-j.invariant; size = so_far } in
    let total : Held (sum_to term_at c.loop-j.j +ℤ term_at c.loop-j.j) = before ⊞ kept w64 term tt in
    (kept w64 total tt).is ∙ sym (sum_more _ c.loop-j.j)
