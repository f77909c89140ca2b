-- The codes of a motion vector (document 01, kind 4, "Vectors and prediction", and refusals 6 and 14).
use Rattle.std.specs.Prelude.{ℕ}
use Rattle.refusals.specs.declared.Refusal.{Refusal}
use Rattle.symbols.specs.Guard.{require◌else◌then◌}
use Rattle.symbols.specs.Parsed.{Parser, ◌then◌, give, refuse}
use Rattle.symbols.specs.declared.vector_codes.VectorCode.{VectorCode}
use Rattle.symbols.specs.declared.vector_codes.VectorCodes.{VectorCodes}
use Rattle.decode_vectors.specs.Vector.{code_in_range, residual_in_range}
use Rattle.format3_records.specs.Field.{byte, signed_byte}

-- a code and its residual, "each tested when read"
unfoldable pub vector_code_of : ℕ → Parser VectorCode
vector_code_of f =
    signed_byte then λ code.
    require code_in_range code else refuse Refusal.VectorCode then
    byte then λ residual.
    require residual_in_range f code residual else refuse Refusal.VectorCode then
    give (record { code = code; residual = residual })

-- "horizontal code, residual, vertical code, residual, a byte each"
unfoldable pub vector_codes_of : ℕ → Parser VectorCodes
vector_codes_of f =
    vector_code_of f then λ horizontal.
    vector_code_of f then λ vertical.
    give (record { horizontal = horizontal; vertical = vertical })
