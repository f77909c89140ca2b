-- The state of a slice after a macroblock (document 01, "Coefficients" and "Vectors and prediction").
use Rattle.std.specs.Prelude.{false}
use Rattle.symbols.specs.declared.header.Header.{Header}
use Rattle.symbols.specs.MacroblockType.{is_intra}
use Rattle.decode_coefficients.specs.Macroblock.{scale_after}
use Rattle.decode_coefficients.specs.declared.macroblock.SymbolsWithDc.{SymbolsWithDc}
use Rattle.decode_state.specs.Vectors.{own_motion, next_vector_pasts}
use Rattle.decode_state.specs.declared.state.SliceState.{SliceState}

-- the scale in effect, the DC pasts that the macroblock leaves, the vector pasts, and the macroblock's own directions and vectors
abbrev pub slice_after : Header → SymbolsWithDc → SliceState → SliceState
slice_after h m s = record {
  scale = scale_after s.scale m.symbols;
  dc = m.dc;
  pasts = next_vector_pasts h m.symbols s.pasts;
  motion = own_motion h m.symbols.macroblock_type (next_vector_pasts h m.symbols s.pasts);
  intra = is_intra m.symbols.macroblock_type;
  first = false;
}
