-- Prediction at half pels (document 01, "Vectors and prediction"; ISO/IEC 11172-2, 2.4.4.2 and 2.4.4.3).
use Rattle.std.specs.Prelude.{cond, List, ℕ, ◌+◌, ◌*◌, ◌/◌, ◌%◌, eqb, get_or}
use Rattle.math.specs.Tab.{tab}

-- "Means of two and four round halves up": the mean of n pels with this sum
abbrev pub mean_of : ℕ → ℕ → ℕ
mean_of n sum = (sum + n / 2) / n

-- the pel at column x of line y, in a plane whose lines are `stride` long
abbrev pub pel_at : List ℕ → ℕ → ℕ → ℕ → ℕ
pel_at plane stride x y = get_or plane (y * stride + x) 0

-- the odd bits of the coordinates, across and down, choose: the pel itself, its mean with the right neighbour or with the one below,
-- or the mean of all four
abbrev pub interpolated : ℕ → ℕ → ℕ → ℕ → ℕ → ℕ → ℕ
interpolated across down pel right below diagonal =
    cond (eqb across 0)
    (cond (eqb down 0) pel (mean_of 2 (pel + below)))
    (cond (eqb down 0) (mean_of 2 (pel + right)) (mean_of 4 (pel + right + below + diagonal)))

-- pel k of the 8 by 8 block at (px, py), in half pels: the floors of the halves choose the pel, the odd bits the mean
unfoldable pub predicted_pel : List ℕ → ℕ → ℕ → ℕ → ℕ → ℕ
predicted_pel plane stride px py k =
    interpolated (px % 2) (py % 2)
    (pel_at plane stride (px / 2 + k % 8) (py / 2 + k / 8))
    (pel_at plane stride (px / 2 + k % 8 + 1) (py / 2 + k / 8))
    (pel_at plane stride (px / 2 + k % 8) (py / 2 + k / 8 + 1))
    (pel_at plane stride (px / 2 + k % 8 + 1) (py / 2 + k / 8 + 1))

-- the 8 by 8 block
abbrev pub prediction : List ℕ → ℕ → ℕ → ℕ → List ℕ
prediction plane stride px py = tab 64 (predicted_pel plane stride px py)

-- the `side` by `side` pels at (px, py), without averaging: if px and py are even, 8 by 8 are a prediction and 16 by 16 are four
abbrev pub copied_pels : ℕ → List ℕ → ℕ → ℕ → ℕ → List ℕ
copied_pels side plane stride px py = tab (side * side) (λ k. pel_at plane stride (px / 2 + k % side) (py / 2 + k / side))

-- "as does the mean of both directions": the mean of the two predictions, each already rounded
abbrev pub mean_of_both : List ℕ → List ℕ → List ℕ
mean_of_both forward backward = tab 64 (λ k. mean_of 2 (get_or forward k 0 + get_or backward k 0))
