-- The vectors of a macroblock, and the vector pasts (predictors) after it (document 01, "Vectors and prediction").
use Rattle.std.specs.Prelude.{Bool, true, false, cond, ◌&&◌, ℕ, eqb, ltb, Option, Some, None}
use Rattle.symbols.specs.Header.{type_p}
use Rattle.symbols.specs.declared.header.Header.{Header}
use Rattle.symbols.specs.declared.header.VectorCoding.{VectorCoding}
use Rattle.symbols.specs.MacroblockType.{has_forward, has_backward, is_intra}
use Rattle.symbols.specs.declared.vector_codes.VectorCodes.{VectorCodes}
use Rattle.symbols.specs.declared.macroblock.MacroblockSymbols.{MacroblockSymbols}
use Rattle.decode_vectors.specs.Vector.{f_of, vector_of, used_vector}
use Rattle.decode_macroblock.specs.declared.compensation.Motion.{Motion}
use Rattle.decode_macroblock.specs.declared.compensation.Vector.{Vector}
use Rattle.decode_state.specs.State.{zero_vector, zero_vector_pasts}
use Rattle.decode_state.specs.declared.state.VectorPasts.{VectorPasts}

-- a vector from its codes: "It is added to the past", across and down
abbrev pub decoded_vector : VectorCoding → Vector → VectorCodes → Vector
decoded_vector coding past codes = record {
  right = vector_of (f_of coding.f_code) past.right codes.horizontal.code codes.horizontal.residual;
  down = vector_of (f_of coding.f_code) past.down codes.vertical.code codes.vertical.residual;
}

-- "in P also after a macroblock .. skipped"; in B a skip keeps them (clearing them is one of "Where panels drift"): the pasts that a macroblock's
-- own codes are added to
unfoldable pub vector_pasts_before : ℕ → ℕ → VectorPasts → VectorPasts
vector_pasts_before coding increment pasts = cond (eqb coding type_p && ltb 1 increment) zero_vector_pasts pasts

-- "in P also after a macroblock without vector .. In B an unused direction keeps its past"
unfoldable pub forward_after : Header → MacroblockSymbols → Vector → Vector
forward_after h m past =
    cond (has_forward m.macroblock_type) (decoded_vector h.forward past m.forward) (cond (eqb h.coding_type type_p) zero_vector past)

unfoldable pub backward_after : Header → MacroblockSymbols → Vector → Vector
backward_after h m past = cond (has_backward m.macroblock_type) (decoded_vector h.backward past m.backward) past

-- "Pasts are 0 .. after intra"
unfoldable pub vector_pasts_after : Header → MacroblockSymbols → VectorPasts → VectorPasts
vector_pasts_after h m pasts =
    cond (is_intra m.macroblock_type) zero_vector_pasts (record { forward = forward_after h m pasts.forward; backward = backward_after h m pasts.backward })

-- "the full-pel flag doubles it afterwards for use"
abbrev pub vector_for_use : VectorCoding → Vector → Vector
vector_for_use coding v = record { right = used_vector coding.full_pel v.right; down = used_vector coding.full_pel v.down }

-- the directions of a macroblock: none if it is intra; "P without vector uses vector 0"
unfoldable pub predicts_forward : ℕ → ℕ → Bool
predicts_forward coding type = cond (is_intra type) false (cond (has_forward type) true (eqb coding type_p))

unfoldable pub predicts_backward : ℕ → Bool
predicts_backward type = cond (is_intra type) false (has_backward type)

-- the vector of a direction: its new past, converted for use; no vector if the macroblock is not predicted from there
abbrev pub own_vector : Bool → VectorCoding → Vector → Option Vector
own_vector predicts coding past = cond predicts (Some (vector_for_use coding past)) None

-- the macroblock's own directions and vectors
unfoldable pub own_motion : Header → ℕ → VectorPasts → Motion
own_motion h type pasts = record {
  forward = own_vector (predicts_forward h.coding_type type) h.forward pasts.forward;
  backward = own_vector (predicts_backward type) h.backward pasts.backward;
}

-- the pasts after a macroblock, with the skipped ones before it
unfoldable pub next_vector_pasts : Header → MacroblockSymbols → VectorPasts → VectorPasts
next_vector_pasts h m pasts = vector_pasts_after h m (vector_pasts_before h.coding_type m.increment pasts)
