-- The codes of motion vectors that are not given: all zeros.
use Rattle.std.specs.Prelude.{pos}
use Rattle.symbols.specs.declared.vector_codes.VectorCode.{VectorCode}
use Rattle.symbols.specs.declared.vector_codes.VectorCodes.{VectorCodes}

abbrev pub no_code : VectorCode
no_code = record { code = pos 0; residual = 0 }

abbrev pub no_codes : VectorCodes
no_codes = record { horizontal = no_code; vertical = no_code }
