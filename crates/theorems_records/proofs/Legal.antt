-- What is within its range fits its field. Assumes nothing.
use mathlib.Core.Bool.{Bool, true, false}
use mathlib.Core.List.{List, [], ◌∷◌}
use mathlib.Core.Path.{◌≡◌}
use Prim.Native.Nat.{◌+◌, ℕ}
use lib.IntN.{ℤ, pos}
use mir.Syntax.{w8, w16}
use mir.Val.{SFits}
use Rattle.decode_coefficients.specs.Dc.{dc_pasts_after}
use Rattle.symbols.specs.Pair.{after_pair}
use Rattle.math.proofs.Bound.{within-fits}
use Rattle.symbols.specs.declared.vector_codes.VectorCodes.{VectorCodes}
use Rattle.symbols.specs.MacroblockType.{has_scale, has_forward, has_backward, is_intra}
use Rattle.symbols.specs.declared.pair.Pair.{Pair}
use Rattle.symbols.specs.Block.{Block, uncoded, coded}
use Rattle.symbols.specs.declared.macroblock.MacroblockSymbols.{MacroblockSymbols}
use Rattle.symbols.specs.VectorCodes.{no_codes}
use Rattle.symbols.specs.Macroblock.{Macroblock}
use Rattle.decode_coefficients.specs.declared.dc.DcPasts.{DcPasts}
use Rattle.decode_vectors.specs.Vector.{code_in_range}
use Rattle.decode_vectors.proofs.VectorLaws.{code-known}
use Rattle.format3_macroblock.specs.Pairs.{legal_level}
use Rattle.format3_macroblock.proofs.Laws.Pairs.{level-within}
use Rattle.format3_macroblock.specs.Blocks.{legal_difference}
use Rattle.format3_macroblock.proofs.Laws.Blocks.{difference-within}
use Rattle.format3_macroblock.specs.declared.macroblock.MacroblockContext.{MacroblockContext}
use Rattle.theorems_records.specs.FieldFit.{WhereGiven, CodesFitFields, SymbolsFitFields, PairsFitFields, BlockFitsFields, BlocksFitFields, MacroblockFitsFields}
use Rattle.theorems_records.specs.Legal.{LegalCodes, LegalSymbols, LegalPairs, LegalBlock, LegalBlocks, LegalMacroblock}

pub code_fits : (code : ℤ) → code_in_range code ≡ true → SFits w8 code
code_fits code legal = within-fits (code-known code legal) tt

pub level-fits : (level : ℤ) → legal_level level ≡ true → SFits w16 level
level-fits level legal = within-fits (level-within level legal) tt

pub difference-fits : (difference : ℤ) → legal_difference difference ≡ true → SFits w16 difference
difference-fits difference legal = within-fits (difference-within difference legal) tt

pub codes-fit : {f : ℕ} {codes : VectorCodes} → LegalCodes f codes → CodesFitFields codes
codes-fit legal = record { across = within-fits (code-known _ legal.horizontal.code) tt; down = within-fits (code-known _ legal.vertical.code) tt }

-- what holds of a field that is given
pub given-more : {A : Type 0} {Fit Legal : Type 0} (present : Bool) (absent field : A) → (Legal → Fit) → WhereGiven present Legal absent field → WhereGiven present Fit absent field
given-more true absent field fits legal = fits legal
given-more false absent field fits same = same

pub symbols-fit : {c : MacroblockContext} {m : MacroblockSymbols} → LegalSymbols c m → SymbolsFitFields m
symbols-fit {m = m} legal = record {
  increment = legal.two_bytes;
  scale = given-more (has_scale m.macroblock_type) 0 m.scale (λ inside. tt) legal.scale;
  forward = given-more (has_forward m.macroblock_type) no_codes m.forward codes-fit legal.forward;
  backward = given-more (has_backward m.macroblock_type) no_codes m.backward codes-fit legal.backward;
}

pub pairs-fit : (next : ℕ) (pairs : List Pair) → LegalPairs next pairs → PairsFitFields pairs
pairs-fit next [] legal = tt
pairs-fit next (pair ∷ pairs) legal = (level-fits pair.level legal.0.level, pairs-fit (after_pair next pair) pairs legal.1)

pub block-fits : (intra : Bool) (past : ℤ) (b : Block) → LegalBlock intra past b → BlockFitsFields intra b
block-fits intra past uncoded legal = tt
block-fits intra past (coded difference pairs) legal = (given-more intra (pos 0) difference (λ inside. difference-fits difference inside.small) legal.difference, pairs-fit _ pairs legal.pairs)

blocks-fit : (intra : Bool) (pasts : DcPasts) (block : ℕ) (blocks : List Block) → LegalBlocks intra pasts block blocks → BlocksFitFields intra blocks
blocks-fit intra pasts block [] legal = tt
blocks-fit intra pasts block (b ∷ blocks) legal = (block-fits intra _ b legal.0, blocks-fit intra (dc_pasts_after intra pasts block b) (block + 1) blocks legal.1)

pub macroblock-fits : {c : MacroblockContext} {m : Macroblock} → LegalMacroblock c m → MacroblockFitsFields m
macroblock-fits {m = m} legal = record { symbols = symbols-fit legal.symbols; blocks = blocks-fit (is_intra m.symbols.macroblock_type) _ 0 m.blocks legal.blocks }
