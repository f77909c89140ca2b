-- The sum of each plane of a picture (document 01, "The program `panel` reads a reel").
use Rattle.std.specs.Prelude.{List, ℕ, ◌*◌, ◌/◌, length, take, drop}
use Rattle.math.specs.Total.{total}
use Rattle.reel_report.specs.declared.planes.Sums.{Sums}

-- "With N macroblocks it is 384 × N bytes: the Y plane (16 pels by 16 lines a macroblock), then the Cb plane, then the Cr plane"
abbrev pub macroblocks : List ℕ → ℕ
macroblocks picture = length picture / 384

abbrev pub plane_y : List ℕ → List ℕ
plane_y picture = take (256 * macroblocks picture) picture

abbrev pub plane_cb : List ℕ → List ℕ
plane_cb picture = take (64 * macroblocks picture) (drop (256 * macroblocks picture) picture)

abbrev pub plane_cr : List ℕ → List ℕ
plane_cr picture = drop (320 * macroblocks picture) picture

-- "sums of Y, Cb, Cr"
unfoldable pub sums_of : List ℕ → Sums
sums_of picture = record { y = total (plane_y picture); cb = total (plane_cb picture); cr = total (plane_cr picture) }
