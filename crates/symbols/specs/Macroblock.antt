-- The symbols of a macroblock: those before its blocks, and its blocks.
use Rattle.std.specs.Prelude.{List, ℕ}
use Rattle.symbols.specs.declared.vector_codes.Vectors.{Vectors}
use Rattle.symbols.specs.declared.macroblock.MacroblockHead.{MacroblockHead}
use Rattle.symbols.specs.declared.macroblock.MacroblockSymbols.{MacroblockSymbols}
use Rattle.symbols.specs.Block.{Block}

-- the symbols before the blocks, and the six blocks
pub record Macroblock : Type 0 where
  pub symbols : MacroblockSymbols
  pub blocks : List Block

-- the symbols before the blocks, put together from head, vectors and pattern
abbrev pub symbols_with : MacroblockHead → Vectors → ℕ → MacroblockSymbols
symbols_with head vectors pattern = record {
  macroblock_type = head.macroblock_type;
  increment = head.increment;
  scale = head.scale;
  forward = vectors.forward;
  backward = vectors.backward;
  pattern = pattern;
}
