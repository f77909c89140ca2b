-- Demand 3: "Suppose sixty-four coefficients, each from -2048 to 2047, and seven fractions, each between the two ends that document 01 sets around
-- its cosine, the ends included. Then, whatever these are, at each of the sixty-four places the inverse transform's number, before it is limited to
-- -256..255, lies within 9/16 of the cosine sum worked out exactly for that place with those fractions; what the transform gives there is that
-- number, limited; and no step on the way overflows."
--
-- `CoefficientsInRange`, `BetweenEnds`, `exact_sum` and `LiesWithin` (crates/theorems_accuracy/specs/ExactSum.antt) express the words of
-- the demand; its sixty-four places are the raster indices of a block. That no step overflows needs no theorem: the checker accepts no
-- function with an operation that may overflow.
use Rattle.std.specs.Prelude.{true, List, ◌≡◌, ℕ, ◌+◌, ◌/◌, ◌%◌, ◌^◌, ◌≤◌, ◌<◌, ℤ, pos, negsuc, ◌+ℤ◌, ◌-ℤ◌, ◌*ℤ◌, replicate, ◌<ℤ◌, Ok}
use Rattle.math.specs.Each.{Each}
use Rattle.math.specs.Bound.{Within, at}
use Rattle.refusals.specs.Refusal.{accepted}
use Rattle.symbols.specs.Pattern.{is_coded}
use Rattle.symbols.specs.declared.header.Header.{Header}
use Rattle.decode_idct.specs.Answer.{transform_number, transform_residues}
use Rattle.decode_idct.specs.Factors.{cosine_at}
use Rattle.decode_idct.specs.Transform.{inverse_transform, limited_residue, dc_alone}
use Rattle.decode_macroblock.specs.Block.{coefficients_at}
use Rattle.format3_picture.specs.Picture.{symbols_of}
use Rattle.format3_picture.specs.Reconstruction.{macroblocks_of}
use Rattle.theorems_accuracy.specs.Cosines.{Cosines, HeldBetween}
use Rattle.theorems_accuracy.specs.Ends.{low_end, high_end}
use Rattle.theorems_accuracy.specs.ExactSum.{over30, CoefficientsInRange, BetweenEnds, exact_sum, LiesWithin, nine_sixteenths}
use Rattle.theorems_accuracy.specs.Fraction.{Fraction}
use Rattle.theorems_accuracy.specs.OrderedRing.{OrderedRing}
use Rattle.theorems_picture.specs.Applies.{file_start}

-- the coefficients c and the fractions x, at raster index k, in row k / 8 and column k % 8
pub record Demand3At (c : List ℤ) (x : ℕ → Fraction) (k : ℕ) : Type 0 where
  -- "the inverse transform's number, before it is limited to -256..255, lies within 9/16 of the cosine sum worked out exactly for that place with
  -- those fractions"
  pub near : LiesWithin nine_sixteenths (inverse_transform c k) (exact_sum x c (k / 8) (k % 8))
  -- "what the transform gives there is that number, limited": the transform's entry accepts the coefficients and returns it
  pub accepts : transform_number c ≡ accepted
  pub gives : at (transform_residues c) k ≡ limited_residue (inverse_transform c k)

abbrev pub Demand3 : Type 0
Demand3 = (c : List ℤ) → CoefficientsInRange c → (x : ℕ → Fraction) → BetweenEnds x → (k : ℕ) → k < 64 → Demand3At c x k

-- the hypotheses can be met: by coefficients at either end of their range, and by fractions at the ends around their cosines
pub record HypothesesMet : Type 0 where
  pub least : CoefficientsInRange (replicate 64 (negsuc 2047))
  pub greatest : CoefficientsInRange (replicate 64 (pos 2047))
  pub low : BetweenEnds (λ i. over30 (low_end i))
  pub high : BetweenEnds (λ i. over30 (high_end i))

-- every coded block of a picture, accepted or refused, meets the first hypothesis: its coefficients are in range
abbrev pub BlocksMeetDemand3 : Type 0
BlocksMeetDemand3 =
    (limit : ℕ) (file forward backward output : List ℕ) (h : Header) (end : ℕ) → file_start limit file forward backward output ≡ Ok (record { header = h; end = end })
    → Each (λ m. (block : ℕ) → is_coded m.pattern block ≡ true → CoefficientsInRange (coefficients_at m.coefficients block)) (macroblocks_of h (symbols_of file h end))

-- "A transform of zeros misses the 9/16 at DC 2040" (document 01, "Reviewer's checklist"): demand 3 covers that block, and 0 is near the
-- exact sum at none of its raster indices, whichever fractions between the ends stand for the cosines
pub record ZerosMiss : Type 0 where
  pub covered : CoefficientsInRange (dc_alone 2040)
  pub misses :
      (x : ℕ → Fraction) → BetweenEnds x → (k : ℕ) → k < 64
      → ¬ LiesWithin nine_sixteenths (pos 0) (exact_sum x (dc_alone 2040) (k / 8) (k % 8))

-- "The ends around each cosine are whole numbers over 2^30, at most 16 apart" (document 01)
abbrev pub EndsApart : Type 0
EndsApart = (i : ℕ) → i < 7 → high_end i ≤ low_end i + 16

-- "That they hold the cosines is proved by squares of whole numbers, from: all seven are above 0; the square of (2 × the 4th) is 2; .." (document
-- 01): in any linearly ordered commutative ring, as the reals are, the ends are around any seven elements with these properties
abbrev pub EndsHold : Type 1
EndsHold = (S : OrderedRing) (c : ℕ → S.Element) → Cosines S c → (i : ℕ) → i < 7 → HeldBetween S (low_end i) (high_end i) (c i)

-- "The factor for frequency u at place p (0..7) stands for cos((2p+1) × u × pi / 16)" (document 01). With x = (2p+1) × pi / 16, at each
-- output index p cos((u + 2) × x) + cos(u × x) = 2 × cos(x) × cos((u + 1) × x), with an error of at most 2 over 2^20: the factors at p are
-- those of one angle, with their signs, and its cos(8 × x) is 0. There are eight angles from 0 to pi whose cos(8 × x) is 0, and cos(x) falls
-- from each p to the next, so each p has its own
pub record FactorsAreCosines : Type 0 where
  pub multiples :
      (p u : ℕ) → p < 8 → u < 7
      → Within (2 ^ 21) (pos (2 ^ 20) *ℤ (cosine_at p (u + 2) +ℤ cosine_at p u) -ℤ pos 2 *ℤ cosine_at p 1 *ℤ cosine_at p (u + 1))
  pub falling : (p : ℕ) → p < 7 → cosine_at (p + 1) 1 <ℤ cosine_at p 1
