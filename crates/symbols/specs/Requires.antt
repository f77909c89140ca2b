-- What the code of this crate relies on; no rule of document 01.
use Rattle.std.specs.Prelude.{Bool, true, ℕ, ◌≤◌, ◌≡◌}
use Rattle.symbols.specs.declared.size.PictureSize.{PictureSize}
use Rattle.symbols.specs.Size.{max_macroblocks, macroblock_count}
use Rattle.symbols.specs.declared.header.VectorCoding.{VectorCoding}
use Rattle.symbols.specs.declared.header.Header.{Header}
use Rattle.symbols.specs.Header.{type_i, type_b, uses_forward, uses_backward}

-- a size of at least 1 by 1 and at most `limit` macroblocks
pub record SizeWithin (limit : ℕ) (s : PictureSize) : Type 0 where
  pub wide : 1 ≤ s.width
  pub high : 1 ≤ s.height
  pub few : macroblock_count s ≤ limit

-- what the code relies on in a legal header; max_width and max_height are not needed
pub record CodingWithin (used : Bool) (c : VectorCoding) : Type 0 where
  pub least : used ≡ true → 1 ≤ c.f_code
  pub most : c.f_code ≤ 7

pub record HeaderWithin (h : Header) : Type 0 where
  pub size : SizeWithin max_macroblocks h.size
  pub first-type : type_i ≤ h.coding_type
  pub last-type : h.coding_type ≤ type_b
  pub forward : CodingWithin (uses_forward h.coding_type) h.forward
  pub backward : CodingWithin (uses_backward h.coding_type) h.backward
