-- The picture's size in macroblocks (document 01, "The picture and its size").
use Rattle.std.specs.Prelude.{Bool, ◌&&◌, ℕ, ◌*◌, ◌/◌, ◌%◌, leb, Option, Some, None}
use Rattle.symbols.specs.declared.size.PictureSize.{PictureSize}
use Rattle.symbols.specs.Guard.{require◌else◌then◌}

-- "at most 48 macroblocks wide, 36 high, 396 in all, and at least 1 by 1"
abbrev pub max_width : ℕ
max_width = 48

abbrev pub max_height : ℕ
max_height = 36

abbrev pub max_macroblocks : ℕ
max_macroblocks = 396

unfoldable pub legal_size : ℕ → ℕ → Bool
legal_size width height = leb 1 width && leb width max_width && leb 1 height && leb height max_height && leb (width * height) max_macroblocks

unfoldable pub size_of : ℕ → ℕ → Option PictureSize
size_of width height = require legal_size width height else None then Some (record { width = width; height = height })

-- N, the count of macroblocks
abbrev pub macroblock_count : PictureSize → ℕ
macroblock_count s = s.width * s.height

-- request No. 4: "a panel with memory for 99 macroblocks. The other panels keep 396": the limit of the small reader, beside max_macroblocks
abbrev pub max_macroblocks_small : ℕ
max_macroblocks_small = 99

-- "Both limits hold, each for its caller": whether a size is within a reader's limit, and the size if it is
abbrev pub within_limit : ℕ → PictureSize → Bool
within_limit limit s = leb (macroblock_count s) limit

unfoldable pub size_within : ℕ → PictureSize → Option PictureSize
size_within limit s = require within_limit limit s else None then Some s

-- "With N macroblocks it is 384 × N bytes": 256 of Y, 64 of Cb and 64 of Cr for each macroblock
abbrev pub picture_bytes : PictureSize → ℕ
picture_bytes s = 384 * macroblock_count s

-- where the Y, Cb and Cr planes start
abbrev pub start_of_y : PictureSize → ℕ
start_of_y s = 0

abbrev pub start_of_cb : PictureSize → ℕ
start_of_cb s = 256 * macroblock_count s

abbrev pub start_of_cr : PictureSize → ℕ
start_of_cr s = 320 * macroblock_count s

-- "Addresses count from 0, left to right, top to bottom": the column and the row of an address
abbrev pub column_of_address : PictureSize → ℕ → ℕ
column_of_address s address = address % s.width

abbrev pub row_of_address : PictureSize → ℕ → ℕ
row_of_address s address = address / s.width
