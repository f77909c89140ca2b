-- The locations of a macroblock's blocks in a picture (document 01, "The picture and its size").
use Rattle.std.specs.Prelude.{cond, List, ℕ, ◌+◌, ◌-◌, ◌*◌, ◌/◌, ◌%◌, eqb, get_or}
use Rattle.math.specs.Part.{part}
use Rattle.math.specs.Tab.{tab}
use Rattle.symbols.specs.declared.size.PictureSize.{PictureSize}
use Rattle.symbols.specs.Size.{macroblock_count, start_of_y, start_of_cb, start_of_cr, column_of_address, row_of_address}
use Rattle.decode_macroblock.specs.Pel.{pel_index, with_pels}
use Rattle.decode_macroblock.specs.declared.location.MacroblockPosition.{MacroblockPosition}
use Rattle.decode_macroblock.specs.declared.location.BlockLocation.{BlockLocation}

-- the position of an address: its column and row
abbrev pub macroblock_position : PictureSize → ℕ → MacroblockPosition
macroblock_position s address = record { size = s; column = column_of_address s address; row = row_of_address s address }

-- "the Y plane (16 pels by 16 lines a macroblock)": its four blocks, left to right, top to bottom
abbrev pub luma_location : MacroblockPosition → ℕ → BlockLocation
luma_location p block = record {
  from = start_of_y p.size;
  to = start_of_cb p.size;
  stride = 16 * p.size.width;
  lines = 16 * p.size.height;
  x = 16 * p.column + 8 * (block % 2);
  y = 16 * p.row + 8 * (block / 2);
}

-- "Cb and Cr have 8 by 8 a macroblock": the block in the plane that starts at `from`
abbrev pub chroma_location : MacroblockPosition → ℕ → BlockLocation
chroma_location p from = record {
  from = from;
  to = from + 64 * macroblock_count p.size;
  stride = 8 * p.size.width;
  lines = 8 * p.size.height;
  x = 8 * p.column;
  y = 8 * p.row;
}

-- the location of a block: 0 to 3 are Y, 4 is Cb and 5 is Cr
unfoldable pub block_location : MacroblockPosition → ℕ → BlockLocation
block_location p block =
    cond (eqb block 4) (chroma_location p (start_of_cb p.size))
    (cond (eqb block 5) (chroma_location p (start_of_cr p.size)) (luma_location p block))

-- the block at a location of a picture
unfoldable pub read_at : BlockLocation → List ℕ → List ℕ
read_at p picture = tab 64 (λ k. get_or picture (p.from + pel_index 8 p.stride p.x p.y k) 0)

-- the picture with `side` by `side` pels put at a location
unfoldable pub put_pels_at : ℕ → BlockLocation → List ℕ → List ℕ → List ℕ
put_pels_at side p square picture = part p.from (p.to - p.from) (with_pels side p.stride p.x p.y square) picture

-- the picture with a block put at its location
abbrev pub put_at : BlockLocation → List ℕ → List ℕ → List ℕ
put_at p block picture = put_pels_at 8 p block picture

-- ---- what the code uses: a macroblock's first pel, in the plane from `from` to `to` with `side` by `side` pels a macroblock
abbrev pub first_location : MacroblockPosition → ℕ → ℕ → ℕ → BlockLocation
first_location p side from to = record {
  from = from;
  to = to;
  stride = side * p.size.width;
  lines = side * p.size.height;
  x = side * p.column;
  y = side * p.row;
}
