-- The symbols of a slice's record and of a macroblock's, each within its range (document 01, kinds 3 and 4). The tests are those of the reader.
use Rattle.std.specs.Prelude.{Bool, true, List, [], ◌∷◌, ◌≡◌, ℕ, ◌+◌, leb, eqb, ℤ, pos, length}
use Rattle.std.specs.Int.{w16}
use Rattle.std.proofs.Common.{Fits}
use Rattle.symbols.specs.declared.slice.SliceHeader.{SliceHeader}
use Rattle.symbols.specs.declared.vector_codes.VectorCode.{VectorCode}
use Rattle.symbols.specs.declared.vector_codes.VectorCodes.{VectorCodes}
use Rattle.symbols.specs.MacroblockType.{has_scale, has_forward, has_backward, is_intra, legal_type}
use Rattle.symbols.specs.Pattern.{coded_pattern}
use Rattle.symbols.specs.declared.pair.Pair.{Pair}
use Rattle.symbols.specs.Pair.{first_position, last_position, pair_position, after_pair}
use Rattle.symbols.specs.Block.{Block, uncoded, coded}
use Rattle.symbols.specs.declared.macroblock.MacroblockSymbols.{MacroblockSymbols}
use Rattle.symbols.specs.VectorCodes.{no_codes}
use Rattle.symbols.specs.Macroblock.{Macroblock}
use Rattle.decode_coefficients.specs.Scaling.{intra_dc}
use Rattle.decode_coefficients.specs.declared.dc.DcPasts.{DcPasts}
use Rattle.decode_coefficients.specs.Dc.{dc_past_of, dc_pasts_after, starting_dc_pasts}
use Rattle.decode_vectors.specs.Vector.{code_in_range, residual_in_range}
use Rattle.format3_macroblock.specs.Pairs.{legal_level}
use Rattle.format3_macroblock.specs.Blocks.{legal_difference, legal_dc, legal_count}
use Rattle.format3_macroblock.specs.Slice.{legal_scale}
use Rattle.format3_macroblock.specs.MacroblockHead.{legal_increment}
use Rattle.format3_macroblock.specs.declared.macroblock.MacroblockContext.{MacroblockContext}
use Rattle.format3_macroblock.specs.Macroblock.{legal_pattern}
use Rattle.theorems_records.specs.FieldFit.{CodedBy, WhereGiven}

-- "quantizer scale 1..31, 2-byte start address"
pub record LegalSlice (s : SliceHeader) : Type 0 where
  pub scale : legal_scale s.scale ≡ true
  pub two_bytes : Fits w16 s.start

-- "a code is -16..16; its residual is below f, and 0 when the code is 0"
pub record LegalCode (f : ℕ) (v : VectorCode) : Type 0 where
  pub code : code_in_range v.code ≡ true
  pub residual : residual_in_range f v.code v.residual ≡ true

pub record LegalCodes (f : ℕ) (codes : VectorCodes) : Type 0 where
  pub horizontal : LegalCode f codes.horizontal
  pub vertical : LegalCode f codes.vertical

-- the symbols before the blocks, in their order; a scale or a code that the type doesn't have is 0, and a pattern that isn't read is the
-- one known from the type
pub record LegalSymbols (c : MacroblockContext) (m : MacroblockSymbols) : Type 0 where
  -- "Legal types: .."
  pub type : legal_type c.head.coding_type m.macroblock_type ≡ true
  -- "2-byte address increment": not 0, not past the last address, and 1 where none may be skipped
  pub increment : legal_increment c.head m.increment ≡ true
  pub two_bytes : Fits w16 m.increment
  -- "scale", 1..31
  pub scale : WhereGiven (has_scale m.macroblock_type) (legal_scale m.scale ≡ true) 0 m.scale
  -- "forward codes (..); backward codes"
  pub forward : WhereGiven (has_forward m.macroblock_type) (LegalCodes c.forward_f m.forward) no_codes m.forward
  pub backward : WhereGiven (has_backward m.macroblock_type) (LegalCodes c.backward_f m.backward) no_codes m.backward
  -- "Pattern is 1..63", or the one that is known from the type
  pub pattern : coded_pattern m.macroblock_type (λ known. eqb m.pattern known) (legal_pattern m.pattern) ≡ true

-- not "position past 63", where a run of 0 lands at the position next; and "Levels are -255..-1 and 1..255"
pub record LegalPair (next : ℕ) (pair : Pair) : Type 0 where
  pub position : leb (pair_position next pair) last_position ≡ true
  pub level : legal_level pair.level ≡ true

-- the pairs from the position next on
abbrev pub LegalPairs : ℕ → List Pair → Type 0
LegalPairs next [] = Unit {0}
LegalPairs next (pair ∷ pairs) = LegalPair next pair × LegalPairs (after_pair next pair) pairs

-- not "difference outside -255..255", nor "DC outside 0..2040" with this past DC
pub record LegalDifference (past difference : ℤ) : Type 0 where
  pub small : legal_difference difference ≡ true
  pub dc : legal_dc (intra_dc past difference) ≡ true

-- "intra only, a 2-byte DC difference; a count of pairs (intra 0..63, else 1..64); the pairs"
pub record LegalCoded (intra : Bool) (past z : ℤ) (l : List Pair) : Type 0 where
  pub difference : WhereGiven intra (LegalDifference past z) (pos 0) z
  pub count : legal_count intra (length l) ≡ true
  pub pairs : LegalPairs (first_position intra) l

abbrev pub LegalBlock : Bool → ℤ → Block → Type 0
LegalBlock intra past uncoded = Unit {0}
LegalBlock intra past (coded difference pairs) = LegalCoded intra past difference pairs

-- the blocks from this one on, with the DC pasts before it
abbrev pub LegalBlocks : Bool → DcPasts → ℕ → List Block → Type 0
LegalBlocks intra pasts block [] = Unit {0}
LegalBlocks intra pasts block (b ∷ blocks) = LegalBlock intra (dc_past_of pasts block) b × LegalBlocks intra (dc_pasts_after intra pasts block b) (block + 1) blocks

-- the whole: six blocks, coded as the pattern says
pub record LegalMacroblock (c : MacroblockContext) (m : Macroblock) : Type 0 where
  pub symbols : LegalSymbols c m.symbols
  pub coded : CodedBy m.symbols.pattern 6 0 m.blocks
  pub blocks : LegalBlocks (is_intra m.symbols.macroblock_type) (starting_dc_pasts c.dc m.symbols.increment) 0 m.blocks
