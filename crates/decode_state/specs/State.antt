-- A slice's state between macroblocks (document 01, "Coefficients" and "Vectors and prediction").
use Rattle.std.specs.Prelude.{true, false, ℕ, pos, Some, None}
use Rattle.decode_coefficients.specs.Dc.{reset_dc_pasts}
use Rattle.decode_macroblock.specs.declared.compensation.Motion.{Motion}
use Rattle.decode_macroblock.specs.declared.compensation.Vector.{Vector}
use Rattle.decode_state.specs.declared.state.VectorPasts.{VectorPasts}
use Rattle.decode_state.specs.declared.state.SliceState.{SliceState}

-- "Pasts are 0 at a slice's start"
abbrev pub zero_vector : Vector
zero_vector = record { right = pos 0; down = pos 0 }

abbrev pub zero_vector_pasts : VectorPasts
zero_vector_pasts = record { forward = zero_vector; backward = zero_vector }

-- no prediction
abbrev pub no_motion : Motion
no_motion = record { forward = None; backward = None }

-- "P copies with vector 0"
abbrev pub still_motion : Motion
still_motion = record { forward = Some zero_vector; backward = None }

-- the state at a slice's start, from its scale alone
abbrev pub reset_slice : ℕ → SliceState
reset_slice scale = record { scale = scale; dc = reset_dc_pasts; pasts = zero_vector_pasts; motion = no_motion; intra = false; first = true }
