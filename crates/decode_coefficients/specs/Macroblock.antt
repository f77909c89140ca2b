-- From a macroblock's symbols to the coefficients of its six blocks, and the scale and the DC pasts that it leaves (document 01, "Coefficients").
use Rattle.std.specs.Prelude.{List, [], ◌∷◌, ℕ, ◌+◌, ℤ, cond}
use Rattle.symbols.specs.Block.{Block}
use Rattle.symbols.specs.MacroblockType.{has_scale, is_intra}
use Rattle.symbols.specs.declared.macroblock.MacroblockSymbols.{MacroblockSymbols}
use Rattle.symbols.specs.Macroblock.{Macroblock}
use Rattle.decode_coefficients.specs.declared.block.BlockCoding.{BlockCoding}
use Rattle.decode_coefficients.specs.Block.{coefficients_of}
use Rattle.decode_coefficients.specs.declared.dc.DcPasts.{DcPasts}
use Rattle.decode_coefficients.specs.Dc.{dc_past_of, dc_pasts_after, dc_pasts_through, starting_dc_pasts, dc_pasts_left}
use Rattle.decode_coefficients.specs.Matrices.{matrix_for}
use Rattle.decode_coefficients.specs.declared.matrices.Matrices.{Matrices}
use Rattle.decode_coefficients.specs.declared.macroblock.SymbolsWithDc.{SymbolsWithDc}

-- the coefficients of consecutive blocks from one on, with the pasts before it
unfoldable pub coefficients_from : BlockCoding → List ℕ → DcPasts → ℕ → List Block → List (List ℤ)
coefficients_from c matrix pasts block [] = []
coefficients_from c matrix pasts block (b ∷ blocks) =
    coefficients_of c matrix (dc_past_of pasts block) b ∷ coefficients_from c matrix (dc_pasts_after c.intra pasts block b) (block + 1) blocks

-- "A scale holds until the next one given"
abbrev pub scale_after : ℕ → MacroblockSymbols → ℕ
scale_after before m = cond (has_scale m.macroblock_type) m.scale before

abbrev pub block_coding : MacroblockSymbols → ℕ → BlockCoding
block_coding m scale = record { intra = is_intra m.macroblock_type; scale = scale }

-- the coefficients of the six blocks, with the scale and the DC pasts that apply to the macroblock
abbrev pub macroblock_coefficients : Matrices → ℕ → DcPasts → Macroblock → List (List ℤ)
macroblock_coefficients matrices scale pasts m =
    coefficients_from (block_coding m.symbols scale) (matrix_for (is_intra m.symbols.macroblock_type) matrices) pasts 0 m.blocks

-- the symbols, and the DC pasts that the macroblock leaves
abbrev pub symbols_with_dc_left : MacroblockSymbols → DcPasts → SymbolsWithDc
symbols_with_dc_left m running = record { symbols = m; dc = dc_pasts_left (is_intra m.macroblock_type) running }

abbrev pub symbols_with_dc : DcPasts → Macroblock → SymbolsWithDc
symbols_with_dc before m =
    symbols_with_dc_left m.symbols (dc_pasts_through (is_intra m.symbols.macroblock_type) (starting_dc_pasts before m.symbols.increment) 0 m.blocks)
