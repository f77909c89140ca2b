-- The symbols of a slice: its header and its macroblocks.
use Rattle.std.specs.Prelude.{List, ℕ}
use Rattle.symbols.specs.Macroblock.{Macroblock}

-- its quantizer scale, the address of its first macroblock, and its macroblocks
pub record Slice : Type 0 where
  pub scale : ℕ
  pub start : ℕ
  pub macroblocks : List Macroblock
