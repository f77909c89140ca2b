-- A slice's header, and a macroblock worked by the definition: its symbols, what they are read against, and its record's body.
use Rattle.std.specs.Prelude.{false, List, [], ◌∷◌, ℕ, pos, negsuc, replicate}
use Rattle.symbols.specs.Header.{type_p}
use Rattle.symbols.specs.declared.slice.SliceHeader.{SliceHeader}
use Rattle.symbols.specs.Block.{uncoded, coded}
use Rattle.symbols.specs.VectorCodes.{no_code, no_codes}
use Rattle.symbols.specs.Macroblock.{Macroblock}
use Rattle.decode_coefficients.specs.Dc.{reset_dc_pasts}
use Rattle.format3_macroblock.specs.declared.macroblock.MacroblockContext.{MacroblockContext}

-- scale 8, from address 0
abbrev pub worked_slice : SliceHeader
worked_slice = record { scale = 8; start = 0 }

-- a macroblock with every symbol except a backward vector, and with the pairs of one block
abbrev pub worked : Macroblock
worked = record {
  symbols = record {
    macroblock_type = 11;
    increment = 2;
    scale = 5;
    forward = record { horizontal = record { code = negsuc 2; residual = 1 }; vertical = no_code };
    backward = no_codes;
    pattern = 32;
  };
  blocks = coded (pos 0) (record { run = 1; level = negsuc 254 } ∷ record { run = 61; level = pos 1 } ∷ []) ∷ replicate 5 uncoded;
}

-- it is read in a P picture with f = 2
abbrev pub predicted_context : MacroblockContext
predicted_context = record { head = record { coding_type = type_p; macroblocks = 4; next = 1; first = false; intra = false }; forward_f = 2; backward_f = 0; dc = reset_dc_pasts }

abbrev pub worked_body : List ℕ
worked_body = 11 ∷ 0 ∷ 2 ∷ 5 ∷ 253 ∷ 1 ∷ 0 ∷ 0 ∷ 32 ∷ 2 ∷ 1 ∷ 255 ∷ 1 ∷ 61 ∷ 0 ∷ 1 ∷ []
