-- Writing a vector: the code and the residual with which reading takes the past to a wanted vector (document 02, No. 12).
use Rattle.std.specs.Prelude.{Bool, cond, ◌&&◌, ℕ, ◌+◌, ◌-◌, ◌/◌, ◌%◌, ℤ, pos, nat_abs, ◌+ℤ◌, ◌-ℤ◌, ◌*ℤ◌}
use Rattle.std.specs.Int.Signed.{lt_z}
use Rattle.math.specs.Limit.{sign_of}
use Rattle.refusals.specs.Refusal.{accepted, number_of}
use Rattle.refusals.specs.declared.Refusal.TheVariants.{VectorUnreachable}
use Rattle.encode_vectors.specs.declared.EncodedVector.{EncodedVector}
use Rattle.decode_vectors.specs.Vector.{f_of, past_in_range, f_code_and_past_in_range}

-- The code and the residual of a difference, from document 01: a difference is "0 for code 0, else (|code| - 1) × f + residual + 1 with the code's
-- sign", and a "residual is below f". So |code| - 1 is the quotient of |difference| - 1 by f, and the residual the remainder; both are 0 for 0
unfoldable pub motion_code_of : ℕ → ℤ → ℤ
motion_code_of f difference = sign_of difference *ℤ pos ((nat_abs difference - 1) / f + 1)

-- 0 - 1 is 0 in ℕ, so this is 0 for a difference of 0
unfoldable pub residual_of : ℕ → ℤ → ℕ
residual_of f difference = (nat_abs difference - 1) % f

-- "Give them so that reading returns the wanted vector": the difference that reading must add to the past. It is wanted - past, or 32f more or less,
-- since reading moves a sum outside -16f..16f-1 by 32f. It must be in -16f..16f, as every pair's difference is; and where both -16f and 16f would do,
-- "the positive code is given", so it is in -16f+1..16f
unfoldable pub needed_difference : ℤ → ℤ → ℤ → ℤ
needed_difference f past wanted =
    cond (lt_z (wanted -ℤ past) (pos 1 -ℤ pos 16 *ℤ f)) (wanted -ℤ past +ℤ pos 32 *ℤ f)
    (cond (lt_z (pos 16 *ℤ f) (wanted -ℤ past)) (wanted -ℤ past -ℤ pos 32 *ℤ f) (wanted -ℤ past))

-- whether the f_code and the past are in range, and so is the wanted vector. That a pair reaches exactly these vectors is a theorem
-- (`ExactlyUnreachable`)
unfoldable pub vector_reachable : ℕ → ℤ → ℤ → Bool
vector_reachable f_code past wanted = f_code_and_past_in_range f_code past && past_in_range (f_of f_code) wanted

-- the code and the residual that stand for a refused vector
abbrev pub no_code : EncodedVector
no_code = record { code = pos 0; residual = 0 }

-- the answer: "33 when no pair reaches the wanted vector, or past or f_code is out of range; both are then 0"
abbrev pub encoded_number : ℕ → ℤ → ℤ → ℕ
encoded_number f_code past wanted = cond (vector_reachable f_code past wanted) accepted (number_of VectorUnreachable)

abbrev pub encoded_code : ℕ → ℤ → ℤ → ℤ
encoded_code f_code past wanted =
    cond (vector_reachable f_code past wanted) (motion_code_of (f_of f_code) (needed_difference (pos (f_of f_code)) past wanted)) (pos 0)

abbrev pub encoded_residual : ℕ → ℤ → ℤ → ℕ
encoded_residual f_code past wanted =
    cond (vector_reachable f_code past wanted) (residual_of (f_of f_code) (needed_difference (pos (f_of f_code)) past wanted)) 0
