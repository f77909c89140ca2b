-- The codes of a macroblock's vectors (document 01, kind 4: "forward codes ..; backward codes").
use Rattle.std.specs.Prelude.{Bool, ℕ}
use Rattle.symbols.specs.Parsed.{Parser, ◌then◌, give, optional◌default◌read◌}
use Rattle.symbols.specs.declared.vector_codes.VectorCodes.{VectorCodes}
use Rattle.symbols.specs.MacroblockType.{has_forward, has_backward}
use Rattle.symbols.specs.declared.vector_codes.Vectors.{Vectors}
use Rattle.symbols.specs.VectorCodes.{no_codes}
use Rattle.format3_macroblock.specs.VectorCodes.{vector_codes_of}

-- the codes of one direction, zeros if they are not given
abbrev pub given_vector_codes_of : Bool → ℕ → Parser VectorCodes
given_vector_codes_of present f = optional present default no_codes read vector_codes_of f

-- "forward codes (..); backward codes"
unfoldable pub vectors_of : ℕ → ℕ → ℕ → Parser Vectors
vectors_of type forward_f backward_f =
    given_vector_codes_of (has_forward type) forward_f then λ forward.
    given_vector_codes_of (has_backward type) backward_f then λ backward.
    give (record { forward = forward; backward = backward })
