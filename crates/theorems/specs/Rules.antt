-- Sentences of document 01 that follow from its rules: "Coefficients" and "Vectors and prediction".
use Rattle.std.specs.Prelude.{Bool, true, ◌≡◌, List, ℕ, ◌+◌, ◌*◌, ◌/◌, ◌%◌, ◌≤◌, ◌<◌, ℤ, pos, negsuc, ◌+ℤ◌, ◌≤ℤ◌}
use Rattle.math.specs.Bound.{Between}
use Rattle.decode_coefficients.specs.Scaling.{coefficient_of}
use Rattle.decode_vectors.specs.Vector.{f_of, vector_of, past_in_range, vector_entry_in_range, whole_pels, odd_bit, chroma_vector}
use Rattle.decode_prediction.specs.Fit.{signed_coordinate, half_pel_coordinate, vector_fits}
use Rattle.decode_prediction.specs.Prediction.{mean_of, copied_pels, prediction}

-- "A level of 0 gives 0"
abbrev pub ZeroGivesZero : Type 0
ZeroGivesZero = (intra : Bool) (scale weight : ℤ) → coefficient_of intra (pos 0) scale weight ≡ pos 0

-- "then it is limited to -2048..2047". "One fact about scaling serves intra and non-intra": whichever it is, and whatever the level, scale and weight
abbrev pub CoefficientsBetween : Type 0
CoefficientsBetween = (intra : Bool) (level scale weight : ℤ) → Between (negsuc 2047) (pos 2047) (coefficient_of intra level scale weight)

-- "a sum outside -16f..16f-1 moves by 32f back inside": the vector of numbers that the entry accepts is in the range of the next past
abbrev pub VectorsInRange : Type 0
VectorsInRange =
    (f_code : ℕ) (past code : ℤ) (residual : ℕ) → vector_entry_in_range f_code past code residual ≡ true
    → past_in_range (f_of f_code) (vector_of (f_of f_code) past code residual) ≡ true

-- "Luma takes the floor of half and the odd bit": a vector from pel x on points to a coordinate in half pels; half of that coordinate is
-- x plus the floor of half the vector, and its odd bit is the vector's
pub record FloorAndOddBit (x : ℕ) (vector : ℤ) : Type 0 where
  pub whole : pos (half_pel_coordinate x vector / 2) ≡ pos x +ℤ whole_pels vector
  pub odd : half_pel_coordinate x vector % 2 ≡ odd_bit vector

abbrev pub CoordinatesInHalfPels : Type 0
CoordinatesInHalfPels = (x : ℕ) (vector : ℤ) → pos 0 ≤ℤ signed_coordinate x vector → FloorAndOddBit x vector

-- "chroma then fits too": at half the coordinate, in a plane of half the width, with the halved vector
abbrev pub ChromaFits : Type 0
ChromaFits = (x width : ℕ) (vector : ℤ) → vector_fits 16 (2 * x) (2 * width) vector ≡ true → vector_fits 8 x width (chroma_vector vector) ≡ true

-- "Means of two and four round halves up, as does the mean of both directions": the mean of n pels is the whole number nearest
-- to sum / n, and the larger of two equally near
pub record Nearest (n sum mean : ℕ) : Type 0 where
  pub lower : 2 * (n * mean) ≤ 2 * sum + n
  pub upper : 2 * sum + n < 2 * (n * mean) + 2 * n

abbrev pub MeansNearest : Type 0
MeansNearest = (n sum : ℕ) → 0 < n → Nearest n sum (mean_of n sum)

-- "Luma takes the floor of half and the odd bit": where both odd bits are 0, at whole pels, a prediction is a copy
abbrev pub WholePelsCopied : Type 0
WholePelsCopied = (plane : List ℕ) (stride px py : ℕ) → px % 2 + py % 2 ≡ 0 → copied_pels 8 plane stride px py ≡ prediction plane stride px py
