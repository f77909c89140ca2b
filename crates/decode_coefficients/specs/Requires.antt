-- What the code of this crate relies on; no rule of document 01.
use Rattle.std.specs.Prelude.{List, [], ℕ, ◌≤◌, ℤ, pos, negsuc, get_or}
use Rattle.math.specs.Bound.{AllBetween}
use Rattle.decode_coefficients.specs.declared.block.BlockCoding.{BlockCoding}
use Rattle.decode_coefficients.specs.BlockArray.{six_blocks}
use Rattle.decode_coefficients.specs.Marks.{BlocksMarked}

-- a quantizer scale of at most 31
pub record BlockCodingWithin (c : BlockCoding) : Type 0 where
  pub scale-below : c.scale ≤ 31

-- each coefficient of each block is from -2048 to 2047; the rule is `limited_coefficient` (Scaling)
pub record BlocksInRange (blocks : List (List ℤ)) : Type 0 where
  pub all : (block : ℕ) → AllBetween (negsuc 2047) (pos 2047) (get_or blocks block [])

-- six blocks that can be transformed: each coefficient is in range, and the marks are those of the blocks
pub record Transformable (coefficients : List ℤ) (marks : List ℕ) : Type 0 where
  pub in-range : BlocksInRange (six_blocks coefficients)
  pub marked : BlocksMarked coefficients marks
