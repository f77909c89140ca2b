-- Ranges of what scaling gives, and of the numbers that the entry accepts. Assumes nothing.
use Prim.Native.Nat.{ℕ, ◌*◌, ◌/◌}
use mathlib.Core.Bool.{Bool, true, false, cond}
use mathlib.Core.Path.{◌≡◌, refl, sym, ap, ◌∙◌, subst}
use lib.Dec.{T, ltb, lit≤}
use lib.IntN.{ℤ, pos, negsuc, ◌*ℤ◌, zero-*ℤ}
use mir.Syntax.{w32}
use mir.Val.{SFits}
use Rattle.math.proofs.Bound.{within-add, within-mul, within-literal, within-self, within_more}
use Rattle.math.proofs.Limit.{range-between, sign-within, limited-between, between-within}
use Rattle.math.proofs.Machine.{Held, number, parameter, ◌⊠◌, over}
use Rattle.math.specs.Bound.{Within, Between}
use Rattle.math.specs.Limit.{in_range}
use Rattle.decode_coefficients.specs.Answer.{coefficient_entry_in_range}
use Rattle.decode_coefficients.specs.Scaling.{quotient_over, moved_to_odd, scaled, doubled_level, coefficient_of}

-- any 32-bit number
abbrev pub held : {z : ℤ} → SFits w32 z → Held z
held {z} f = parameter f (within-self z)

-- a scaled coefficient is within the limits
pub scaled-between : (doubled scale weight : ℤ) → Between (negsuc 2047) (pos 2047) (scaled doubled scale weight)
unfolding scaled
scaled-between doubled scale weight = limited-between (negsuc 2047) (pos 2047) (moved_to_odd (quotient_over 16 doubled scale weight)) (record { le = tt })

pub coefficient-between : (intra : Bool) (level scale weight : ℤ) → Between (negsuc 2047) (pos 2047) (coefficient_of intra level scale weight)
unfolding coefficient_of
coefficient-between intra level scale weight = scaled-between (doubled_level intra level) scale weight

-- so its absolute value is at most 2048, as the types in the code need
pub scaled-within : (doubled scale weight : ℤ) → Within 2048 (scaled doubled scale weight)
scaled-within doubled scale weight = between-within (scaled-between doubled scale weight) (within-literal tt) (within-literal tt)

pub coefficient-within : (intra : Bool) (level scale weight : ℤ) → Within 2048 (coefficient_of intra level scale weight)
coefficient-within intra level scale weight = between-within (coefficient-between intra level scale weight) (within-literal tt) (within-literal tt)

pub coefficient-zero : (intra : Bool) (scale weight : ℤ) → coefficient_of intra (pos 0) scale weight ≡ pos 0
unfolding coefficient_of scaled
coefficient-zero intra scale weight = rw (none intra)
  where
    none : (b : Bool) → doubled_level b (pos 0) *ℤ scale *ℤ weight ≡ pos 0
    none true = ap (λ (z : ℤ). z *ℤ weight) (zero-*ℤ scale) ∙ zero-*ℤ weight
    none false = ap (λ (z : ℤ). z *ℤ weight) (zero-*ℤ scale) ∙ zero-*ℤ weight

-- a bound on the quotient for any numbers and any positive divisor: it serves intra and non-intra
pub quotient-within : {a b c : ℕ} {doubled scale weight : ℤ} (divisor : ℕ) → T (ltb 0 divisor) → Within a doubled → Within b scale → Within c weight → Within (a * b * c / divisor) (quotient_over divisor doubled scale weight)
quotient-within divisor t p q r = (over (number p ⊠ number q ⊠ number r) divisor t).size

pub doubled-within : (intra : Bool) (level : ℤ) → Within 255 level → Within 511 (doubled_level intra level)
doubled-within true level h = within_more (within-mul (within-self (pos 2)) h) (lit≤ tt)
doubled-within false level h = within_more (within-add (within-mul (within-self (pos 2)) h) (sign-within level)) (lit≤ tt)

-- ---- what the entry accepts
pub record Ranges (level scale weight : ℤ) : Type 0 where
  pub level-within : Within 255 level
  pub scale-within : Within 31 scale
  pub weight-within : Within 255 weight

pub known-ranges : (level scale weight : ℤ) → coefficient_entry_in_range level scale weight ≡ true → Ranges level scale weight
unfolding coefficient_entry_in_range
known-ranges level scale weight e =
    go (in_range (negsuc 254) (pos 255) level) (in_range (pos 1) (pos 31) scale) (in_range (pos 1) (pos 255) weight) refl refl refl e
  where
    go : (a b c : Bool) → in_range (negsuc 254) (pos 255) level ≡ a → in_range (pos 1) (pos 31) scale ≡ b → in_range (pos 1) (pos 255) weight ≡ c → cond a (cond b c false) false ≡ true → Ranges level scale weight
    go false b c p q r t = absurd (subst T (sym t) tt)
    go true false c p q r t = absurd (subst T (sym t) tt)
    go true true false p q r t = absurd (subst T (sym t) tt)
    go true true true p q r t = record {
      level-within = between-within (range-between (negsuc 254) (pos 255) level p) (within-literal tt) (within-literal tt);
      scale-within = between-within (range-between (pos 1) (pos 31) scale q) (within-literal tt) (within-literal tt);
      weight-within = between-within (range-between (pos 1) (pos 255) weight r) (within-literal tt) (within-literal tt);
    }
