-- Limiting (clamping) a number to a range, testing a range, the sign of a number, and equality as a test.
use Rattle.std.specs.Prelude.{Bool, true, false, cond, eqb, ℤ, pos, negsuc}
use Rattle.std.specs.Int.Signed.{lt_z}

-- z limited to low..high
abbrev pub limited : ℤ → ℤ → ℤ → ℤ
limited low high z = cond (lt_z z low) low (cond (lt_z high z) high z)

-- whether z is in low..high
abbrev pub in_range : ℤ → ℤ → ℤ → Bool
in_range low high z = cond (lt_z z low) false (cond (lt_z high z) false true)

-- -1, 0 or 1
abbrev pub sign_of : ℤ → ℤ
sign_of z = cond (lt_z z (pos 0)) (negsuc 0) (cond (lt_z (pos 0) z) (pos 1) (pos 0))

-- whether two numbers are equal
abbrev pub eq_z : ℤ → ℤ → Bool
eq_z (pos a) (pos b) = eqb a b
eq_z (pos a) (negsuc b) = false
eq_z (negsuc a) (pos b) = false
eq_z (negsuc a) (negsuc b) = eqb a b
