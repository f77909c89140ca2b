-- A macroblock record (document 01, kind 4, and refusals 6, 10 and 12 to 17): how its symbols are parsed.
use Rattle.std.specs.Prelude.{Bool, ◌&&◌, List, [], ◌∷◌, ℕ, leb}
use Rattle.refusals.specs.declared.Refusal.{Refusal}
use Rattle.symbols.specs.Guard.{require◌else◌then◌}
use Rattle.symbols.specs.Parsed.{Parser, parsed, refused, ◌then◌, give, refuse}
use Rattle.symbols.specs.MacroblockType.{is_intra}
use Rattle.symbols.specs.Pattern.{all_blocks, coded_pattern}
use Rattle.symbols.specs.Block.{Block}
use Rattle.symbols.specs.declared.macroblock.MacroblockSymbols.{MacroblockSymbols}
use Rattle.symbols.specs.Macroblock.{Macroblock, symbols_with}
use Rattle.decode_coefficients.specs.declared.dc.DcPasts.{DcPasts}
use Rattle.decode_coefficients.specs.Dc.{starting_dc_pasts}
use Rattle.format3_records.specs.Field.{byte}
use Rattle.format3_macroblock.specs.Blocks.{six_blocks_of}
use Rattle.format3_macroblock.specs.MacroblockHead.{head_of}
use Rattle.format3_macroblock.specs.declared.macroblock.MacroblockContext.{MacroblockContext}
use Rattle.format3_macroblock.specs.Vectors.{vectors_of}

-- "Pattern is 1..63"
abbrev pub legal_pattern : ℕ → Bool
legal_pattern pattern = leb 1 pattern && leb pattern all_blocks

unfoldable pub pattern_of : Parser ℕ
pattern_of =
    byte then λ pattern.
    require legal_pattern pattern else refuse Refusal.Pattern then
    give pattern

-- "pattern byte", if the type has one
abbrev pub coded_pattern_of : ℕ → Parser ℕ
coded_pattern_of type = coded_pattern type give pattern_of

-- "type byte, 2-byte address increment, then as the type says: scale; forward codes ..; backward codes; pattern byte"
unfoldable pub macroblock_symbols_of : MacroblockContext → Parser MacroblockSymbols
macroblock_symbols_of c =
    head_of c.head then λ head.
    vectors_of head.macroblock_type c.forward_f c.backward_f then λ vectors.
    coded_pattern_of head.macroblock_type then λ pattern.
    give (symbols_with head vectors pattern)

-- "Bytes left over: 6"
abbrev pub at_end : {A : Type 0} → A → Parser A
at_end a [] = parsed a []
at_end a (b ∷ rest) = refused Refusal.BodyLength

-- "blocks", up to the end of the body
unfoldable pub blocks_to_end_of : MacroblockSymbols → DcPasts → Parser (List Block)
blocks_to_end_of m pasts =
    six_blocks_of (is_intra m.macroblock_type) m.pattern pasts then λ blocks.
    at_end blocks

-- the whole macroblock, once the symbols before its blocks and the pasts are known
abbrev pub macroblock_with_symbols : DcPasts → MacroblockSymbols → Parser Macroblock
macroblock_with_symbols before m =
    blocks_to_end_of m (starting_dc_pasts before m.increment) then λ blocks.
    give (record { symbols = m; blocks = blocks })

unfoldable pub macroblock_of : MacroblockContext → Parser Macroblock
macroblock_of c =
    macroblock_symbols_of c then λ m.
    macroblock_with_symbols c.dc m
