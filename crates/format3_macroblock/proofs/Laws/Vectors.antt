-- The codes of a macroblock's vectors, given or not, are in -16..16, and their residuals below f. Assumes nothing.
use mathlib.Core.Path.{refl}
use mathlib.Core.Bool.{Bool, true, false}
use mathlib.Core.List.{List}
use Prim.Native.Nat.{ℕ, ◌≤◌, ◌<◌}
use Rattle.math.specs.Bound.{Within}
use Rattle.symbols.specs.declared.vector_codes.VectorCode.{VectorCode}
use Rattle.symbols.specs.declared.vector_codes.VectorCodes.{VectorCodes}
use Rattle.symbols.specs.MacroblockType.{has_forward, has_backward}
use Rattle.symbols.specs.declared.vector_codes.Vectors.{Vectors}
use Rattle.symbols.specs.VectorCodes.{no_code}
use Rattle.symbols.proofs.Parsed.{All, here, all_then, all_more}
use Rattle.decode_vectors.specs.Vector.{code_in_range, residual_in_range}
use Rattle.decode_vectors.proofs.VectorLaws.{code-known, residual-known}
use Rattle.format3_macroblock.specs.Vectors.{given_vector_codes_of, vectors_of}
use Rattle.format3_macroblock.proofs.Laws.VectorCodes.{LegalCode, codes-legal}

-- a code is in -16..16, and its residual is below f, if f is not 0
pub record CodeKnown (f : ℕ) (c : VectorCode) : Type 0 where
  pub small : Within 16 c.code
  pub below : 1 ≤ f → c.residual < f

pub record CodesKnown (f : ℕ) (c : VectorCodes) : Type 0 where
  pub across : CodeKnown f c.horizontal
  pub down : CodeKnown f c.vertical

known : {f : ℕ} {c : VectorCode} → LegalCode f c → CodeKnown f c
known {f} {c} p = record { small = code-known c.code p.code; below = λ h. residual-known f c.code c.residual h p.residual }

no_code_lem : (f : ℕ) → LegalCode f no_code
unfolding code_in_range residual_in_range
no_code_lem f = record { code = refl; residual = refl }

given-known : (given : Bool) (f : ℕ) (bytes : List ℕ) → All (λ codes rest. CodesKnown f codes) (given_vector_codes_of given f bytes)
given-known true f bytes = all_more (codes-legal f bytes) λ codes rest p. record { across = known p.across; down = known p.down }
given-known false f bytes = here (record { across = known (no_code_lem f); down = known (no_code_lem f) })

pub record VectorsKnown (forward_f backward_f : ℕ) (vectors : Vectors) : Type 0 where
  pub forward : CodesKnown forward_f vectors.forward
  pub backward : CodesKnown backward_f vectors.backward

pub vectors-known : (type forward_f backward_f : ℕ) (bytes : List ℕ) → All (λ vectors rest. VectorsKnown forward_f backward_f vectors) (vectors_of type forward_f backward_f bytes)
unfolding vectors_of
vectors-known type forward_f backward_f bytes =
    all_then (given-known (has_forward type) forward_f bytes) λ forward rest p.
    all_then (given-known (has_backward type) backward_f rest) λ backward end q.
    here (record { forward = p; backward = q })
