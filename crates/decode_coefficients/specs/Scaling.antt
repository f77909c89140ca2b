-- Coefficients from levels (document 01, "Coefficients"; ISO/IEC 11172-2, 2.4.4.1 to 2.4.4.3).
use Rattle.std.specs.Prelude.{Bool, cond, ℕ, ℤ, pos, negsuc, ◌+ℤ◌, ◌-ℤ◌, ◌*ℤ◌}
use Rattle.std.specs.Int.Signed.{quot_z, rem_z}
use Rattle.math.specs.Limit.{limited, sign_of, eq_z}

-- "Division truncates towards zero": a doubled level times scale and weight, over a divisor
abbrev pub quotient_over : ℕ → ℤ → ℤ → ℤ → ℤ
quotient_over divisor doubled scale weight = quot_z (doubled *ℤ scale *ℤ weight) (pos divisor)

-- "an even result moves one towards zero, 0 staying 0"
abbrev pub moved_to_odd : ℤ → ℤ
moved_to_odd z = cond (eq_z (rem_z z (pos 2)) (pos 0)) (z -ℤ sign_of z) z

-- "then it is limited to -2048..2047"
abbrev pub limited_coefficient : ℤ → ℤ
limited_coefficient z = limited (negsuc 2047) (pos 2047) z

-- quotient over 16, move to odd, limit: for a level doubled as intra or as non-intra
unfoldable pub scaled : ℤ → ℤ → ℤ → ℤ
scaled doubled scale weight = limited_coefficient (moved_to_odd (quotient_over 16 doubled scale weight))

-- "Intra AC: 2 × level × ..", "Non-intra: (2 × level + sign) × .."
abbrev pub doubled_level : Bool → ℤ → ℤ
doubled_level intra level = cond intra (pos 2 *ℤ level) (pos 2 *ℤ level +ℤ sign_of level)

-- the coefficient of a level, intra AC or non-intra
unfoldable pub coefficient_of : Bool → ℤ → ℤ → ℤ → ℤ
coefficient_of intra level scale weight = scaled (doubled_level intra level) scale weight

-- "Intra DC: 8 × difference is added to the past DC"; the past is the DC predictor
abbrev pub intra_dc : ℤ → ℤ → ℤ
intra_dc past difference = past +ℤ pos 8 *ℤ difference
