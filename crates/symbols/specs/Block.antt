-- The symbols of a block: not coded, or a DC difference and pairs.
use Rattle.std.specs.Prelude.{List, ℤ}
use Rattle.symbols.specs.declared.pair.Pair.{Pair}

-- a coded block has its DC difference, 0 if it is not intra, and its pairs
pub data Block : Type 0 where
  uncoded : Block
  coded : ℤ → List Pair → Block
