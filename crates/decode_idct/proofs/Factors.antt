-- The factors are the cosines': one computed test of the rule at every output index and frequency, and one of the order. Assumes nothing.
use Prim.Native.Nat.{ℕ, ◌+◌, ◌^◌, ◌<◌}
use mathlib.Core.Bool.{Bool}
use lib.Dec.{T, leb}
use lib.IntN.{pos, nat_abs, ◌+ℤ◌, ◌-ℤ◌, ◌*ℤ◌}
use lib.Signed.{lt_z, lt_z_yes, ◌<ℤ◌}
use Rattle.math.proofs.Bound.{within-literal}
use Rattle.math.specs.Bound.{Within}
use Rattle.math.proofs.Test.{at-below, at-below₂}
use Rattle.math.specs.Test.{all_below}
use Rattle.decode_idct.specs.Factors.{cosine_at}
use Rattle.decode_idct.specs.Transform.{angle, cosine_factor, factor}

multiple : ℕ → ℕ → Bool
multiple p u = leb (nat_abs (pos (2 ^ 20) *ℤ (cosine_at p (u + 2) +ℤ cosine_at p u) -ℤ pos 2 *ℤ cosine_at p 1 *ℤ cosine_at p (u + 1))) (2 ^ 21)

all-multiples : T (all_below 8 (λ p. all_below 7 (multiple p)))
unfolding all_below multiple factor cosine_factor angle
all-multiples = tt

falls : ℕ → Bool
falls p = lt_z (cosine_at (p + 1) 1) (cosine_at p 1)

all-fall : T (all_below 7 falls)
unfolding all_below falls factor cosine_factor angle
all-fall = tt

-- at each output index cos((u + 2) × x) + cos(u × x) = 2 × cos(x) × cos((u + 1) × x), with an error of at most 2 over 2^20
pub multiples-of-one-angle : (p u : ℕ) → p < 8 → u < 7
    → Within (2 ^ 21) (pos (2 ^ 20) *ℤ (cosine_at p (u + 2) +ℤ cosine_at p u) -ℤ pos 2 *ℤ cosine_at p 1 *ℤ cosine_at p (u + 1))
unfolding multiple
multiples-of-one-angle p u h k = within-literal (at-below₂ 8 7 multiple all-multiples p u h k)

-- cos(x) falls from each output index to the next
pub cosines-fall : (p : ℕ) → p < 7 → cosine_at (p + 1) 1 <ℤ cosine_at p 1
unfolding falls
cosines-fall p h = lt_z_yes (at-below 7 falls all-fall p h)
