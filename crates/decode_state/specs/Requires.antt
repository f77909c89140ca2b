-- What the code of this crate relies on: symbols that were tested, and vectors in their range; no rule of document 01.
use Rattle.std.specs.Prelude.{ℕ, ◌≤◌, ◌<◌}
use Rattle.math.specs.Bound.{Within}
use Rattle.symbols.specs.Size.{max_macroblocks}
use Rattle.symbols.specs.declared.header.Header.{Header}
use Rattle.symbols.specs.declared.header.VectorCoding.{VectorCoding}
use Rattle.symbols.specs.declared.vector_codes.VectorCode.{VectorCode}
use Rattle.symbols.specs.declared.vector_codes.VectorCodes.{VectorCodes}
use Rattle.symbols.specs.declared.macroblock.MacroblockSymbols.{MacroblockSymbols}
use Rattle.decode_coefficients.specs.declared.macroblock.SymbolsWithDc.{SymbolsWithDc}
use Rattle.decode_vectors.specs.Vector.{max_past, f_of}
use Rattle.decode_macroblock.specs.Requires.{VectorWithin}
use Rattle.decode_macroblock.specs.declared.compensation.Vector.{Vector}
use Rattle.decode_state.specs.declared.state.VectorPasts.{VectorPasts}
use Rattle.decode_state.specs.declared.state.SliceState.{SliceState}

-- ---- legal codes, and pasts in range
pub record CodeWithin (f : ℕ) (c : VectorCode) : Type 0 where
  pub code : Within 16 c.code
  pub residual : c.residual < f

pub record CodesWithin (f : ℕ) (c : VectorCodes) : Type 0 where
  pub across : CodeWithin f c.horizontal
  pub down : CodeWithin f c.vertical

pub record Decodable (coding : VectorCoding) (past : Vector) (codes : VectorCodes) : Type 0 where
  pub few : coding.f_code ≤ 7
  pub small : VectorWithin max_past past
  pub legal : CodesWithin (f_of coding.f_code) codes

pub record VectorPastsWithin (pasts : VectorPasts) : Type 0 where
  pub forward : VectorWithin max_past pasts.forward
  pub backward : VectorWithin max_past pasts.backward

-- the codes of both directions can be decoded, with any pasts in range
pub record SymbolsWithin (h : Header) (m : MacroblockSymbols) : Type 0 where
  pub forward-few : h.forward.f_code ≤ 7
  pub backward-few : h.backward.f_code ≤ 7
  pub forward : CodesWithin (f_of h.forward.f_code) m.forward
  pub backward : CodesWithin (f_of h.backward.f_code) m.backward

-- what updating a slice's state needs: legal codes, and pasts in range
pub record Updatable (h : Header) (m : SymbolsWithDc) (s : SliceState) : Type 0 where
  pub symbols : SymbolsWithin h m.symbols
  pub pasts : VectorPastsWithin s.pasts

-- what planning a macroblock needs: also an increment of at least 1, and a next address of at most 396
pub record Plannable (h : Header) (next : ℕ) (slice : SliceState) (m : SymbolsWithDc) : Type 0 where
  pub updatable : Updatable h m slice
  pub some : 1 ≤ m.symbols.increment
  pub near : next ≤ max_macroblocks
