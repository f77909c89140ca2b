-- Document 01, "Where panels drift": "Limiting before the move to odd; an arithmetic shift for chroma's first halving; a doubled vector kept as the
-- past; a B skip that clears the vector pasts; rounding between rows and columns; refusing 2X + r = 2(W - 16)."
--
-- A wrong rule for each drift that shows in a number, and an input at which the definition and the wrong rule give different numbers. The B skip is
-- left out, as it shows in no single number: see `skip-keeps-in-B` (crates/decode_state/proofs/PlanLaws.antt).
use Rattle.std.specs.Prelude.{Bool, true, false, List, ◌≡◌, ℕ, ◌+◌, ◌*◌, ◌/◌, ◌%◌, ◌^◌, ℤ, pos, negsuc, ◌+ℤ◌, ◌-ℤ◌, ◌*ℤ◌, replicate}
use Rattle.std.specs.Int.Signed.{shr_z}
use Rattle.math.specs.Bound.{at}
use Rattle.math.specs.Limit.{in_range}
use Rattle.math.specs.Sum.{sum_to}
use Rattle.decode_coefficients.specs.Scaling.{quotient_over, moved_to_odd, limited_coefficient, doubled_level, coefficient_of}
use Rattle.decode_idct.specs.Transform.{factor, inverse_transform, residues_by, dc_alone}
use Rattle.decode_vectors.specs.Vector.{vector_of, used_vector, chroma_vector}
use Rattle.decode_prediction.specs.Fit.{signed_coordinate, vector_fits}

-- "Limiting before the move to odd"
abbrev pub limited_first : Bool → ℤ → ℤ → ℤ → ℤ
limited_first intra level scale weight = moved_to_odd (limited_coefficient (quotient_over 16 (doubled_level intra level) scale weight))

-- "an arithmetic shift for chroma's first halving"
abbrev pub shifted_chroma : ℤ → ℤ
shifted_chroma vector = shr_z vector 2

-- "a doubled vector kept as the past": the vector of the second of two codes, f 1 and past 0, with the full-pel flag set
abbrev pub second_vector : ℤ → ℤ → ℤ
second_vector first second = used_vector true (vector_of 1 (vector_of 1 (pos 0) first 0) second 0)

abbrev pub doubled_past : ℤ → ℤ → ℤ
doubled_past first second = used_vector true (vector_of 1 (used_vector true (vector_of 1 (pos 0) first 0)) second 0)

-- "rounding between rows and columns": each pass divides by 2^21, to the nearest
abbrev pub rounded : ℤ → ℤ
rounded z = shr_z (z +ℤ pos (2 ^ 20)) (2 ^ 21)

abbrev pub rounded_between : List ℤ → ℕ → ℤ
rounded_between c k = rounded (sum_to (λ v. factor (k / 8) v *ℤ rounded (sum_to (λ u. factor (k % 8) u *ℤ at c (8 * v + u)) 8)) 8)

-- "refusing 2X + r = 2(W - 16)"
abbrev pub last_refused : ℕ → ℕ → ℤ → Bool
last_refused x width vector = in_range (pos 0) (pos 2 *ℤ (pos width -ℤ pos 16) -ℤ pos 1) (signed_coordinate x vector)

pub record DriftsDiffer : Type 0 where
  -- intra, level -255, scale 31, weight 83
  pub limited-last : coefficient_of true (negsuc 254) (pos 31) (pos 83) ≡ negsuc 2047
  pub limited-first : limited_first true (negsuc 254) (pos 31) (pos 83) ≡ negsuc 2046
  -- vector -3
  pub chroma-halved : chroma_vector (negsuc 2) ≡ negsuc 0
  pub chroma-shifted : shifted_chroma (negsuc 2) ≡ negsuc 1
  -- codes 3 and 1
  pub past-kept : second_vector (pos 3) (pos 1) ≡ pos 8
  pub past-doubled : doubled_past (pos 3) (pos 1) ≡ pos 14
  -- DC 28 alone
  pub rounded-once : residues_by inverse_transform (dc_alone 28) ≡ replicate 64 (pos 3)
  pub rounded-twice : residues_by rounded_between (dc_alone 28) ≡ replicate 64 (pos 4)
  -- two macroblocks wide, the left one, vector 32
  pub last_fits : vector_fits 16 0 32 (pos 32) ≡ true
  pub last-refused : last_refused 0 32 (pos 32) ≡ false
