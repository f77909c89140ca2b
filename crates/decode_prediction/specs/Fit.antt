-- Where a vector points, and whether it fits (document 01, "Vectors and prediction").
use Rattle.std.specs.Prelude.{Bool, ◌&&◌, ℕ, ◌*◌, ℤ, pos, nat_abs, ◌+ℤ◌, ◌-ℤ◌, ◌*ℤ◌}
use Rattle.math.specs.Limit.{in_range}

-- "2X + r": where a vector points from pel x, in half pels
abbrev pub signed_coordinate : ℕ → ℤ → ℤ
signed_coordinate x vector = pos (2 * x) +ℤ vector

-- the same as an unsigned coordinate, where it is not before the first pel. Half of it is x plus the floor of half the vector,
-- and its odd bit is the vector's (`coordinate-whole`, `coordinate-odd`)
abbrev pub half_pel_coordinate : ℕ → ℤ → ℕ
half_pel_coordinate x vector = nat_abs (signed_coordinate x vector)

-- "At leftmost pel X in a plane W wide, vector r fits when 0 ≤ 2X + r ≤ 2(W - 16)": `side` is the macroblock's side in that plane, here 16
unfoldable pub vector_fits : ℕ → ℕ → ℕ → ℤ → Bool
vector_fits side x width vector = in_range (pos 0) (pos 2 *ℤ (pos width -ℤ pos side)) (signed_coordinate x vector)

-- "likewise down": for the macroblock in this column and row of a picture of width by height macroblocks
unfoldable pub macroblock_fits : ℕ → ℕ → ℕ → ℕ → ℤ → ℤ → Bool
macroblock_fits width height column row right down =
    vector_fits 16 (16 * column) (16 * width) right && vector_fits 16 (16 * row) (16 * height) down
