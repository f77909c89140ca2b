-- Laws of `n` by `n` pels that a loop goes through line by line. Assumes nothing.
use mathlib.Core.Path.{◌≡◌, ap, ◌∙◌, sym}
use mathlib.Core.List.{List}
use Prim.Native.Nat.{ℕ, zero, suc, ◌+◌, ◌*◌, ◌/◌, ◌%◌, ◌≤◌, ◌<◌}
use native.Mathlib.Omega.{arith}
use lib.Arith.{digits_lt, digits_div, digits_mod}
use lib.ListN.{get_or}
use Rattle.decode_prediction.specs.Prediction.{pel_at}

-- line j of m lines is inside them
pub line-within : (j n m : ℕ) → j < m → j * n + n ≤ m * n
line-within j zero m h = omega arith
line-within j (suc n) m h = omega (arith, digits_lt {q = j} {m = m} {r = n} {c = suc n} h (omega arith))

place : (a x i : ℕ) → a + x + i ≡ a + (x + i)
place a x i = omega arith

-- pel i of line j, in a plane
pub line-pel : (plane : List ℕ) (stride x y n j i : ℕ) → i < n → get_or plane ((y + j) * stride + x + i) 0 ≡ pel_at plane stride (x + (j * n + i) % n) (y + (j * n + i) / n)
line-pel plane stride x y n j i h =
    ap (λ (m : ℕ). get_or plane m 0) (place ((y + j) * stride) x i)
    ∙ (λ t. pel_at plane stride (x + sym (digits_mod j h) t) (y + sym (digits_div j h) t))
