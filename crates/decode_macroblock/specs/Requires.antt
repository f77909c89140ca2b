-- What the code of this crate relies on; no rule of document 01.
use Rattle.std.specs.Prelude.{List, ℕ, ◌+◌, ◌-◌, ◌*◌, ◌^◌, ◌≤◌, ◌<◌, ◌≡◌, true, pos, length, ◌≤ℤ◌, Ok, IfSome, OnSome}
use Rattle.math.specs.Bound.{Within}
use Rattle.symbols.specs.declared.size.PictureSize.{PictureSize}
use Rattle.symbols.specs.Size.{max_macroblocks, macroblock_count, picture_bytes}
use Rattle.symbols.specs.Requires.{SizeWithin}
use Rattle.decode_vectors.specs.Vector.{max_vector}
use Rattle.decode_prediction.specs.Fit.{signed_coordinate}
use Rattle.decode_macroblock.specs.declared.location.MacroblockPosition.{MacroblockPosition}
use Rattle.decode_macroblock.specs.declared.location.BlockLocation.{BlockLocation}
use Rattle.decode_macroblock.specs.Location.{block_location}
use Rattle.decode_macroblock.specs.declared.compensation.Vector.{Vector}
use Rattle.decode_macroblock.specs.declared.compensation.Motion.{Motion}
use Rattle.decode_macroblock.specs.Compensation.{vector_for, half_pels}
use Rattle.decode_macroblock.specs.Fit.{direction_fits, fit_of, first_misfit}

-- a position inside a picture of at most max_macroblocks macroblocks
pub record Inside (p : MacroblockPosition) : Type 0 where
  pub few : macroblock_count p.size ≤ max_macroblocks
  pub across : p.column < p.size.width
  pub below : p.row < p.size.height

-- `side` by `side` pels at a location lie inside a picture of n bytes
pub record PelsInside (side : ℕ) (p : BlockLocation) (n : ℕ) : Type 0 where
  pub order : p.from ≤ p.to
  pub within : p.to ≤ n
  pub across : p.x + side ≤ p.stride
  pub below : (p.y + side) * p.stride ≤ p.to - p.from

-- the same of a block
abbrev pub BlockInside : BlockLocation → ℕ → Type 0
BlockInside p n = PelsInside 8 p n

-- both components of a vector are from -b to b
pub record VectorWithin (b : ℕ) (v : Vector) : Type 0 where
  pub across : Within b v.right
  pub below : Within b v.down

-- the same of the vector of each direction in use
pub record MotionWithin (b : ℕ) (m : Motion) : Type 0 where
  pub forward : IfSome m.forward (VectorWithin b)
  pub backward : IfSome m.backward (VectorWithin b)

-- a vector for the plane points to no pel before the first, and its numbers are small
pub record Pointing (p : BlockLocation) (v : Vector) : Type 0 where
  pub column : p.x ≤ 2 ^ 16
  pub line : p.y ≤ 2 ^ 16
  pub small : VectorWithin max_vector v
  pub left : pos 0 ≤ℤ signed_coordinate p.x v.right
  pub top : pos 0 ≤ℤ signed_coordinate p.y v.down

-- the `side` by `side` pels that a vector for the plane points to lie inside that plane of the reference
pub record PelsReadable (side : ℕ) (p : BlockLocation) (v : Vector) (reference : List ℕ) : Type 0 where
  pub order : p.from ≤ p.to
  pub within : p.to ≤ length reference
  pub whole : p.lines * p.stride ≤ p.to - p.from
  pub pointing : Pointing p v
  pub across : (half_pels p v).px + 2 * side ≤ 2 * p.stride
  pub below : (half_pels p v).py + 2 * side ≤ 2 * p.lines

-- the same of a block
abbrev pub Readable : BlockLocation → Vector → List ℕ → Type 0
Readable p v reference = PelsReadable 8 p v reference

-- the same for each direction in use
pub record Predictable (m : Motion) (p : BlockLocation) (block : ℕ) (forward backward : List ℕ) : Type 0 where
  pub small : MotionWithin max_vector m
  pub forward-readable : IfSome m.forward (λ v. Readable p (vector_for block v) forward)
  pub backward-readable : IfSome m.backward (λ v. Readable p (vector_for block v) backward)

-- lent (borrowed) buffers of the right length: the output, and each reference in use, is as long as the picture
pub record Lent (s : PictureSize) (m : Motion) (forward backward output : List ℕ) : Type 0 where
  pub forward-whole : OnSome m.forward (length forward ≡ picture_bytes s)
  pub backward-whole : OnSome m.backward (length backward ≡ picture_bytes s)
  pub output-whole : length output ≡ picture_bytes s

-- a macroblock that can be written: its address is inside the picture, and its vectors fit
pub record Writable (s : PictureSize) (address : ℕ) (m : Motion) (forward backward output : List ℕ) : Type 0 where
  pub size : SizeWithin max_macroblocks s
  pub inside : address < macroblock_count s
  pub small : MotionWithin max_vector m
  pub fits : fit_of s address m ≡ Ok tt
  pub lent : Lent s m forward backward output

-- a run of macroblocks from an address on that can be written
pub record RunWritable (s : PictureSize) (first skipped : ℕ) (m : Motion) (forward backward output : List ℕ) : Type 0 where
  pub size : SizeWithin max_macroblocks s
  pub inside : first + skipped ≤ macroblock_count s
  pub small : MotionWithin max_vector m
  pub fits : first_misfit s first skipped m ≡ Ok tt
  pub lent : Lent s m forward backward output

-- a macroblock at a position that can be written: each direction fits
pub record BlocksWritable (p : MacroblockPosition) (m : Motion) (forward backward output : List ℕ) : Type 0 where
  pub inside : Inside p
  pub small : MotionWithin max_vector m
  pub forward-fits : direction_fits p m.forward ≡ true
  pub backward-fits : direction_fits p m.backward ≡ true
  pub lent : Lent p.size m forward backward output

-- from each block the vector points inside the reference, and each block is inside the output
pub record Copyable (p : MacroblockPosition) (v : Vector) (reference output : List ℕ) : Type 0 where
  pub inside : Inside p
  pub small : VectorWithin max_vector v
  pub readable : (block : ℕ) → block < 6 → Readable (block_location p block) (vector_for block v) reference
  pub output-whole : length output ≡ picture_bytes p.size
