-- `prediction::predict_pel` meets its contract: a pel at whole pels, elsewhere the definition's mean of two or four. Assumes nothing.
use mathlib.Core.Path.{◌≡◌}
use Prim.Native.Nat.{ℕ, ◌+◌, ◌*◌, ◌/◌, ◌%◌, ◌<◌}
use native.Mathlib.Nat.{add-zero}
use native.Mathlib.Omega.{arith}
use lib.Arith.{digits_lt}
use Rattle.decode_prediction.proofs.MeanLaws.{predicted-whole, predicted-half, predicted-mean}
use Rattle.decode_prediction.proofs.prediction.predict_pel.Goals as goal

-- the index of the pel to the right, below, and both
across : (stride x y right : ℕ) → y * stride + x + right ≡ y * stride + (x + right)
across stride x y right = omega arith

below : (stride x y down : ℕ) → y * stride + x + down * stride ≡ (y + down) * stride + x
below stride x y down = omega arith

farther : (stride x y right down : ℕ) → y * stride + x + down * stride + right ≡ (y + down) * stride + (x + right)
farther stride x y right down = omega arith

pub returns-then-odd-eq0 : goal.returns-then-odd-eq0
returns-then-odd-eq0 c = let a = c.args in predicted-whole a.plane.now a.stride a.px a.py a.k c.if-odd-eq0.true

pub bounds-plane-at-then-odd-eq1 : goal.bounds-plane-at-then-odd-eq1
bounds-plane-at-then-odd-eq1 c =
    let last : let a = c.args in (a.py / 2 + a.k / 8) * a.stride + (a.px / 2 + a.k % 8) + a.py % 2 * a.stride + a.px % 2 < a.lines * a.stride = let a = c.args in rw (farther a.stride (a.px / 2 + a.k % 8) (a.py / 2 + a.k / 8) (a.px % 2) (a.py % 2)) (digits_lt (omega arith) (omega arith)) in
    omega (arith, last)

pub returns-then-odd-eq1 : goal.returns-then-odd-eq1
returns-then-odd-eq1 c =
    let a = c.args in
    rw (c.mean_of_two.ensures, farther a.stride (a.px / 2 + a.k % 8) (a.py / 2 + a.k / 8) (a.px % 2) (a.py % 2))
    (simp add-zero at (predicted-half a.plane.now a.stride a.px a.py a.k c.if-odd-eq1.true))

pub bounds-plane-at-3 : goal.bounds-plane-at-3
bounds-plane-at-3 c =
    let last : let a = c.args in (a.py / 2 + a.k / 8) * a.stride + (a.px / 2 + a.k % 8) + a.py % 2 * a.stride + a.px % 2 < a.lines * a.stride = let a = c.args in rw (farther a.stride (a.px / 2 + a.k % 8) (a.py / 2 + a.k / 8) (a.px % 2) (a.py % 2)) (digits_lt (omega arith) (omega arith)) in
    omega (arith, last)

pub bounds-plane-at-4 : goal.bounds-plane-at-4
bounds-plane-at-4 c =
    let last : let a = c.args in (a.py / 2 + a.k / 8) * a.stride + (a.px / 2 + a.k % 8) + a.py % 2 * a.stride + a.px % 2 < a.lines * a.stride = let a = c.args in rw (farther a.stride (a.px / 2 + a.k % 8) (a.py / 2 + a.k / 8) (a.px % 2) (a.py % 2)) (digits_lt (omega arith) (omega arith)) in
    omega (arith, last)

pub returns : goal.returns
returns c =
    let a = c.args in
    let x = a.px / 2 + a.k % 8 in
    let y = a.py / 2 + a.k / 8 in
    rw (c.mean_of_four.ensures, farther a.stride x y (a.px % 2) (a.py % 2), below a.stride x y (a.py % 2), across a.stride x y (a.px % 2))
    (simp add-zero at (predicted-mean a.plane.now a.stride a.px a.py a.k (omega arith)))
