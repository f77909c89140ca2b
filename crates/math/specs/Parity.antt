-- Whether an integer is even.
use Rattle.std.specs.Prelude.{Bool, ℤ, pos}
use Rattle.std.specs.Int.Signed.{rem_z}
use Rattle.math.specs.Limit.{eq_z}

abbrev pub is_even : ℤ → Bool
is_even z = eq_z (rem_z z (pos 2)) (pos 0)
