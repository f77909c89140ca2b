-- Laws of means: a mean is the nearest whole number; a predicted pel is one pel, or the mean of two or four. Assumes nothing.
use mathlib.Core.Path.{◌≡◌, refl, ◌∙◌}
use mathlib.Core.List.{List}
use Prim.Native.Nat.{ℕ, zero, suc, ◌+◌, ◌*◌, ◌/◌, ◌%◌, ◌≤◌, ◌<◌}
use native.Mathlib.Nat.{div-add-mod', mod-lt, add-zero}
use native.Mathlib.Omega.{arith}
use Rattle.decode_prediction.specs.Prediction.{mean_of, pel_at, interpolated, predicted_pel}

pub mean-lower : (n sum : ℕ) → 0 < n → 2 * (n * mean_of n sum) ≤ 2 * sum + n
mean-lower n sum h = omega (arith, div-add-mod' (sum + n / 2) n)

pub mean-upper : (n sum : ℕ) → 0 < n → 2 * sum + n < 2 * (n * mean_of n sum) + 2 * n
mean-upper n sum h = omega (arith, div-add-mod' (sum + n / 2) n, mod-lt (sum + n / 2) h)

-- both odd: the mean of four
full-interpolated : (across down : ℕ) (pel : ℕ → ℕ → ℕ) → across + down ≡ 2 → across < 2 → down < 2
    → mean_of 4 (pel 0 0 + pel across 0 + pel 0 down + pel across down) ≡ interpolated across down (pel 0 0) (pel 1 0) (pel 0 1) (pel 1 1)
full-interpolated (suc zero) (suc zero) pel e a d = refl
full-interpolated zero down pel e a d = absurd (omega arith)
full-interpolated (suc zero) zero pel e a d = absurd (omega arith)
full-interpolated (suc zero) (suc (suc down)) pel e a d = absurd (omega arith)
full-interpolated (suc (suc across)) down pel e a d = absurd (omega arith)

-- one of the two odd: the mean of two, whichever it is
half-interpolated : (across down : ℕ) (pel : ℕ → ℕ → ℕ) → across + down ≡ 1
    → mean_of 2 (pel 0 0 + pel across down) ≡ interpolated across down (pel 0 0) (pel 1 0) (pel 0 1) (pel 1 1)
half-interpolated (suc zero) zero pel e = refl
half-interpolated zero (suc zero) pel e = refl
half-interpolated zero zero pel e = absurd (omega arith)
half-interpolated (suc (suc across)) down pel e = absurd (omega arith)
half-interpolated zero (suc (suc down)) pel e = absurd (omega arith)
half-interpolated (suc zero) (suc down) pel e = absurd (omega arith)

-- neither odd, at whole pels: the pel itself
whole-interpolated : (across down pel right below diagonal : ℕ) → across + down ≡ 0 → pel ≡ interpolated across down pel right below diagonal
whole-interpolated zero zero pel right below diagonal e = refl
whole-interpolated (suc across) down pel right below diagonal e = absurd (omega arith)
whole-interpolated zero (suc down) pel right below diagonal e = absurd (omega arith)

-- ---- a predicted pel in the three cases that the code tells apart
module _ (plane : List ℕ) (stride px py k : ℕ) where
  -- the pel at the block's coordinates, or its neighbour to the right or below
  abbrev near : ℕ → ℕ → ℕ
  near right below = pel_at plane stride (px / 2 + k % 8 + right) (py / 2 + k / 8 + below)

  pub predicted-whole : px % 2 + py % 2 ≡ 0 → pel_at plane stride (px / 2 + k % 8) (py / 2 + k / 8) ≡ predicted_pel plane stride px py k
  unfolding predicted_pel
  predicted-whole e = whole-interpolated (px % 2) (py % 2) _ _ _ _ e

  pub predicted-half : px % 2 + py % 2 ≡ 1 → mean_of 2 (near 0 0 + near (px % 2) (py % 2)) ≡ predicted_pel plane stride px py k
  unfolding predicted_pel
  predicted-half e = half-interpolated (px % 2) (py % 2) near e ∙ simp add-zero

  pub predicted-mean : px % 2 + py % 2 ≡ 2 → mean_of 4 (near 0 0 + near (px % 2) 0 + near 0 (py % 2) + near (px % 2) (py % 2)) ≡ predicted_pel plane stride px py k
  unfolding predicted_pel
  predicted-mean e = full-interpolated (px % 2) (py % 2) near e (omega arith) (omega arith) ∙ simp add-zero
