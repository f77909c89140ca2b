-- Codes that were read are legal. Assumes nothing.
use mathlib.Core.Path.{◌≡◌}
use mathlib.Core.Bool.{true}
use mathlib.Core.List.{List}
use Prim.Native.Nat.{ℕ}
use Rattle.refusals.specs.declared.Refusal.TheVariants as Refusal
use Rattle.symbols.specs.declared.vector_codes.VectorCode.{VectorCode}
use Rattle.symbols.specs.declared.vector_codes.VectorCodes.{VectorCodes}
use Rattle.symbols.proofs.Parsed.{All, here, all_then, all-require, all_any}
use Rattle.decode_vectors.specs.Vector.{code_in_range, residual_in_range}
use Rattle.format3_records.specs.Field.{byte, signed_byte}
use Rattle.format3_macroblock.specs.VectorCodes.{vector_code_of, vector_codes_of}

pub record LegalCode (f : ℕ) (v : VectorCode) : Type 0 where
  pub code : code_in_range v.code ≡ true
  pub residual : residual_in_range f v.code v.residual ≡ true

pub record LegalCodes (f : ℕ) (v : VectorCodes) : Type 0 where
  pub across : LegalCode f v.horizontal
  pub down : LegalCode f v.vertical

code-legal : (f : ℕ) (bytes : List ℕ) → All (λ code rest. LegalCode f code) (vector_code_of f bytes)
unfolding vector_code_of
code-legal f bytes =
    all_then (all_any (signed_byte bytes)) λ code rest u.
    all-require (code_in_range code) Refusal.VectorCode _ rest λ h.
    all_then (all_any (byte rest)) λ residual end v.
    all-require (residual_in_range f code residual) Refusal.VectorCode _ end λ k.
    here (record { code = h; residual = k })

pub codes-legal : (f : ℕ) (bytes : List ℕ) → All (λ codes rest. LegalCodes f codes) (vector_codes_of f bytes)
unfolding vector_codes_of
codes-legal f bytes =
    all_then (code-legal f bytes) λ horizontal rest h.
    all_then (code-legal f rest) λ vertical end k.
    here (record { across = h; down = k })
