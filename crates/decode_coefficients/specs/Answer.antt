-- The coefficient entry's answer for any three numbers (document 01, refusal 22).
use Rattle.std.specs.Prelude.{Bool, false, cond, ℕ, ℤ, pos, negsuc}
use Rattle.math.specs.Limit.{in_range}
use Rattle.refusals.specs.Refusal.{accepted, number_of}
use Rattle.refusals.specs.declared.Refusal.TheVariants.{NumberOutOfRange}
use Rattle.decode_coefficients.specs.Scaling.{coefficient_of}

-- "A level of 0 is in range there, and a weight is 1..255": level -255..255, scale 1..31
unfoldable pub coefficient_entry_in_range : ℤ → ℤ → ℤ → Bool
coefficient_entry_in_range level scale weight =
    cond (in_range (negsuc 254) (pos 255) level) (cond (in_range (pos 1) (pos 31) scale) (in_range (pos 1) (pos 255) weight) false) false

abbrev pub coefficient_number : ℤ → ℤ → ℤ → ℕ
coefficient_number level scale weight = cond (coefficient_entry_in_range level scale weight) accepted (number_of NumberOutOfRange)

-- the coefficient, or 0 when refused
abbrev pub coefficient_value : Bool → ℤ → ℤ → ℤ → ℤ
coefficient_value intra level scale weight = cond (coefficient_entry_in_range level scale weight) (coefficient_of intra level scale weight) (pos 0)
