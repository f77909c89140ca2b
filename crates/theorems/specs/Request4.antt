-- Request No. 4, a limit for each caller: "The clinker crane gets a panel with memory for 99 macroblocks. The other panels keep 396. Both limits
-- hold, each for its caller, and a picture within 99 comes out the same on both. The facts about picture size are shown for any limit up to 396, not
-- once per panel." "27 when a header that 8 lets through has more than 99 macroblocks on the cab's panel, before 19."
--
-- `picture_within limit` (crates/format3_picture/specs/Picture.antt) is the picture as given by a reader that takes at most `limit` macroblocks. The
-- contract of `reconstruct` has it with 396 (`picture_of`), that of `reconstruct_small` with 99. Demands 1 and 2 and the theorems of the other
-- requests hold for any limit, and so for both readers. `BeyondLimit` (crates/theorems_picture/specs/Limit.antt) says that a file's header is legal
-- and has more macroblocks than a limit.
use Rattle.std.specs.Prelude.{List, ◌↔◌, ◌≡◌, ℕ, ◌+◌, ◌*◌, ◌^◌, ◌≤◌, ◌<◌, ℤ, length, Err, None, Ok, Some}
use Rattle.refusals.specs.Refusal.{number_of}
use Rattle.refusals.specs.declared.Refusal.TheVariants.{Header as HeaderField, MacroblockLimit, OutputLength}
use Rattle.symbols.specs.Header.{type_i, type_p}
use Rattle.symbols.specs.Requires.{SizeWithin}
use Rattle.symbols.specs.Size.{
  max_width,
  max_height,
  max_macroblocks,
  max_macroblocks_small,
  size_of,
  size_within,
  macroblock_count,
  picture_bytes,
  start_of_y,
  start_of_cb,
  start_of_cr,
  column_of_address,
  row_of_address,
}
use Rattle.symbols.specs.declared.header.Header.{Header}
use Rattle.symbols.specs.declared.size.PictureSize.{PictureSize}
use Rattle.decode_macroblock.specs.Location.{macroblock_position, block_location}
use Rattle.decode_macroblock.specs.Owner.{owner_of}
use Rattle.decode_macroblock.specs.Requires.{BlockInside}
use Rattle.format3_header.specs.FileStart.{file_start_of}
use Rattle.format3_picture.specs.Picture.{refused_at, with_output, picture_within, picture_of}
use Rattle.theorems_picture.specs.Applies.{file_start}
use Rattle.theorems_picture.specs.Limit.{BeyondLimit}
use Rattle.theorems_picture.specs.Worked.{cases, row_cases, intra_header, sized_file, answers_within, expectations, expectations_beyond}

-- "27 when a header that 8 lets through has more than 99 macroblocks": exactly then, whatever was lent
abbrev pub ExactlyBeyond : Type 0
ExactlyBeyond =
    (limit : ℕ) (transform : List ℤ → ℕ → ℤ) (file forward backward output : List ℕ)
    → ((picture_within limit transform file forward backward output).number ≡ number_of MacroblockLimit) ↔ BeyondLimit limit file

-- the whole answer then: the place of the header, nothing made, no row worked, and every byte of the output as it was
abbrev pub RefusedBeyond : Type 0
RefusedBeyond =
    (limit : ℕ) (transform : List ℤ → ℕ → ℤ) (file forward backward output : List ℕ) → BeyondLimit limit file
    → picture_within limit transform file forward backward output ≡ with_output (refused_at MacroblockLimit 1 0 0) output

-- "The other panels keep 396": that reader never gives 27
abbrev pub NeverAt396 : Type 0
NeverAt396 =
    (transform : List ℤ → ℕ → ℤ) (file forward backward output : List ℕ)
    → ¬ ((picture_of transform file forward backward output).number ≡ number_of MacroblockLimit)

-- "a picture within 99 comes out the same on both": unless 8 lets through a header of more than 99 macroblocks, both readers give the same number,
-- place, count and rows, and leave the same bytes
abbrev pub SameOnBoth : Type 0
SameOnBoth =
    (transform : List ℤ → ℕ → ℤ) (file forward backward output : List ℕ) → ¬ BeyondLimit max_macroblocks_small file
    → picture_within max_macroblocks_small transform file forward backward output ≡ picture_of transform file forward backward output

-- and so do readers with any two limits, for every file that is beyond neither
abbrev pub SameWithin : Type 0
SameWithin =
    (limit other : ℕ) (transform : List ℤ → ℕ → ℤ) (file forward backward output : List ℕ) → ¬ BeyondLimit limit file → ¬ BeyondLimit other file
    → picture_within limit transform file forward backward output ≡ picture_within other transform file forward backward output

-- "memory for 99 macroblocks" is enough: once a header is accepted, its size is within the limit, and no lent picture is longer than 384 × the limit
pub record FitsMemory (limit : ℕ) (size : PictureSize) (forward backward output : List ℕ) : Type 0 where
  pub size-within : SizeWithin limit size
  pub output-fits : length output ≤ 384 * limit
  pub forward-fits : length forward ≤ 384 * limit
  pub backward-fits : length backward ≤ 384 * limit

abbrev pub MemoryEnough : Type 0
MemoryEnough =
    (limit : ℕ) (file forward backward output : List ℕ) (h : Header) (end : ℕ) → file_start limit file forward backward output ≡ Ok (record { header = h; end = end })
    → FitsMemory limit h.size forward backward output

-- the constructors of sizes refuse those beyond the limits: `PictureSize::new` beyond the format's; `PictureSize::within` beyond a given one, for a
-- size of at least 1 by 1 and at most 48 × 36 macroblocks
pub record ConstructedWithin : Type 0 where
  pub new : (width height : ℕ) (s : PictureSize) → size_of width height ≡ Some s
      → (1 ≤ s.width) × (s.width ≤ max_width) × (1 ≤ s.height) × (s.height ≤ max_height) × (macroblock_count s ≤ max_macroblocks)
  pub within : (limit : ℕ) (given s : PictureSize) → SizeWithin (max_width * max_height) given → size_within limit given ≡ Some s → SizeWithin limit s

-- "The facts about picture size are shown for any limit up to 396"
pub record SizeFacts (limit : ℕ) (s : PictureSize) : Type 0 where
  -- "384 × N", within the memory for the limit; so no product on the way to it overflows
  pub bytes : picture_bytes s ≤ 384 * limit
  pub small : picture_bytes s < 2 ^ 18
  -- the planes follow one another, and the last ends where the buffer ends
  pub starts : start_of_y s ≡ 0
  pub after-Y : start_of_y s + 256 * macroblock_count s ≡ start_of_cb s
  pub after-Cb : start_of_cb s + 64 * macroblock_count s ≡ start_of_cr s
  pub after-Cr : start_of_cr s + 64 * macroblock_count s ≡ picture_bytes s
  -- an address has a column and a row inside the picture, which lead back to it
  pub column : (address : ℕ) → column_of_address s address < s.width
  pub row : (address : ℕ) → address < macroblock_count s → row_of_address s address < s.height
  pub back : (address : ℕ) → row_of_address s address * s.width + column_of_address s address ≡ address
  -- every pel of each of its six blocks is inside its plane, and the plane is inside the buffer
  pub inside : (address block : ℕ) → address < macroblock_count s → block < 6 → BlockInside (block_location (macroblock_position s address) block) (picture_bytes s)
  -- every byte of the buffer belongs to a macroblock of the picture
  pub owned : (i : ℕ) → i < picture_bytes s → owner_of s i < macroblock_count s

abbrev pub FactsWithin : Type 0
FactsWithin = (limit : ℕ) (s : PictureSize) → limit ≤ max_macroblocks → SizeWithin limit s → SizeFacts limit s

-- ---- worked: headers of 11 by 9, 10 by 10 and 48 by 9 macroblocks, each with the lengths of the output, the forward and the backward reference;
-- whole files; and sizes
pub record WorkedLimits : Type 0 where
  -- 99 macroblocks pass, with 384 × 99 bytes; 100 pass only at 396
  pub ninety-nine : file_start_of max_macroblocks_small (sized_file 11 9 type_i 0) 38016 0 0 ≡ Ok (record { header = intra_header 11 9; end = 11 })
  pub hundred : file_start_of max_macroblocks_small (sized_file 10 10 type_i 0) 38400 0 0 ≡ Err (record { refusal = MacroblockLimit; place = 1 })
  pub hundred-at-396 : file_start_of max_macroblocks (sized_file 10 10 type_i 0) 38400 0 0 ≡ Ok (record { header = intra_header 10 10; end = 11 })
  -- before 19, whatever was lent
  pub wrong-lengths : file_start_of max_macroblocks_small (sized_file 10 10 type_i 0) 0 1 2 ≡ Err (record { refusal = MacroblockLimit; place = 1 })
  pub wrong-lengths-at-396 : file_start_of max_macroblocks (sized_file 10 10 type_i 0) 0 1 2 ≡ Err (record { refusal = OutputLength; place = 1 })
  -- after 8: a size beyond the format's limits, and an f_code of 0 in a P picture
  pub too_large : file_start_of max_macroblocks_small (sized_file 48 9 type_i 0) 0 0 0 ≡ Err (record { refusal = HeaderField; place = 1 })
  pub no-f-code : file_start_of max_macroblocks_small (sized_file 10 10 type_p 0) 0 0 0 ≡ Err (record { refusal = HeaderField; place = 1 })
  -- the files of demand 1 have the same answers with 99; files of 2 macroblocks have them with a limit of 2, and 27 with 1
  pub small-files : answers_within max_macroblocks_small cases ≡ expectations cases
  pub at-limit : answers_within 2 row_cases ≡ expectations row_cases
  pub beyond-limit : answers_within 1 row_cases ≡ expectations_beyond row_cases
  -- sizes that the constructors make or refuse
  pub made : size_of 11 9 ≡ Some (record { width = 11; height = 9 })
  pub not_made : size_of 48 9 ≡ None
  pub within : size_within max_macroblocks_small (record { width = 11; height = 9 }) ≡ Some (record { width = 11; height = 9 })
  pub not_within : size_within max_macroblocks_small (record { width = 10; height = 10 }) ≡ None
  -- a size within 99: its length, and the column and row of its last address
  pub size : SizeWithin max_macroblocks_small (record { width = 11; height = 9 })
  pub bytes : picture_bytes (record { width = 11; height = 9 }) ≡ 38016
  pub last-column : column_of_address (record { width = 11; height = 9 }) 98 ≡ 10
  pub last_row : row_of_address (record { width = 11; height = 9 }) 98 ≡ 8
