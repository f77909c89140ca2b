-- Two's complement, as the library casts to it; and its bounds. Assumes nothing.
use mathlib.Core.Path.{◌≡◌, refl}
use Prim.Native.Nat.{ℕ, ◌*◌, ◌<◌}
use native.Mathlib.Omega.{arith}
use lib.IntN.{ℤ, pos, negsuc}
use lib.Signed.{mag}
use mir.Syntax.{w8, w16}
use Rattle.std.specs.Int.{cast_unsigned}
use Rattle.format3_writer.specs.Bytes.{complement}

pub byte_cast : (z : ℤ) → cast_unsigned w8 z ≡ complement 128 z
unfolding complement
byte_cast (pos n) = refl
byte_cast (negsuc n) = refl

pub word_cast : (z : ℤ) → cast_unsigned w16 z ≡ complement 32768 z
unfolding complement
word_cast (pos n) = refl
word_cast (negsuc n) = refl

pub complement-below : (half : ℕ) (z : ℤ) → mag z < half → complement half z < 2 * half
unfolding complement
complement-below half (pos n) h = omega arith
complement-below half (negsuc n) h = omega arith
