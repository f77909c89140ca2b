-- The macroblocks that a record can hold.
use Rattle.std.specs.Prelude.{Bool, true, false, List, [], ◌∷◌, ◌≡◌, ℕ, suc, ◌+◌, pos}
use Rattle.std.specs.Int.{w8, w16}
use Rattle.std.proofs.Common.{Fits, SFits}
use Rattle.symbols.specs.MacroblockType.{has_scale, has_forward, has_backward, is_intra}
use Rattle.symbols.specs.Pattern.{coded_pattern, is_coded}
use Rattle.symbols.specs.declared.vector_codes.VectorCodes.{VectorCodes}
use Rattle.symbols.specs.declared.pair.Pair.{Pair}
use Rattle.symbols.specs.Block.{Block, uncoded, coded}
use Rattle.symbols.specs.declared.macroblock.MacroblockSymbols.{MacroblockSymbols}
use Rattle.symbols.specs.VectorCodes.{no_codes}
use Rattle.symbols.specs.Macroblock.{Macroblock}

-- ---- its blocks are those that its type and its pattern say
abbrev pub was_coded : Block → Bool
was_coded uncoded = false
was_coded (coded difference pairs) = true

-- n blocks from this one on, each coded where the pattern says so
pub data CodedBy (pattern : ℕ) : ℕ → ℕ → List Block → Type 0 where
  none : {block : ℕ} → CodedBy pattern 0 block []
  more : {n block : ℕ} {b : Block} {blocks : List Block} → was_coded b ≡ is_coded pattern block → CodedBy pattern n (block + 1) blocks → CodedBy pattern (suc n) block (b ∷ blocks)

pub record Matching (m : Macroblock) : Type 0 where
  pub pattern : m.symbols.pattern ≡ coded_pattern m.symbols.macroblock_type (λ known. known) m.symbols.pattern
  pub blocks : CodedBy m.symbols.pattern 6 0 m.blocks

-- ---- its signed numbers and its increment fit their fields, and a field that its type doesn't have is absent. A number of one byte
-- that isn't signed is written as it is and needs no bound to be read back
abbrev pub WhereGiven : {A : Type 0} → Bool → Type 0 → A → A → Type 0
WhereGiven true Fit absent field = Fit
WhereGiven false Fit absent field = absent ≡ field

pub record CodesFitFields (codes : VectorCodes) : Type 0 where
  pub across : SFits w8 codes.horizontal.code
  pub down : SFits w8 codes.vertical.code

pub record SymbolsFitFields (m : MacroblockSymbols) : Type 0 where
  pub increment : Fits w16 m.increment
  pub scale : WhereGiven (has_scale m.macroblock_type) (Unit {0}) 0 m.scale
  pub forward : WhereGiven (has_forward m.macroblock_type) (CodesFitFields m.forward) no_codes m.forward
  pub backward : WhereGiven (has_backward m.macroblock_type) (CodesFitFields m.backward) no_codes m.backward

abbrev pub PairsFitFields : List Pair → Type 0
PairsFitFields [] = Unit {0}
PairsFitFields (pair ∷ pairs) = SFits w16 pair.level × PairsFitFields pairs

abbrev pub BlockFitsFields : Bool → Block → Type 0
BlockFitsFields intra uncoded = Unit {0}
BlockFitsFields intra (coded difference pairs) = WhereGiven intra (SFits w16 difference) (pos 0) difference × PairsFitFields pairs

abbrev pub BlocksFitFields : Bool → List Block → Type 0
BlocksFitFields intra [] = Unit {0}
BlocksFitFields intra (block ∷ blocks) = BlockFitsFields intra block × BlocksFitFields intra blocks

pub record MacroblockFitsFields (m : Macroblock) : Type 0 where
  pub symbols : SymbolsFitFields m.symbols
  pub blocks : BlocksFitFields (is_intra m.symbols.macroblock_type) m.blocks
