-- Document 01, "Figures to check against": "Proved together as one theorem about the definitions: the rows marked *."
use Rattle.std.specs.Prelude.{true, false, ◌≡◌, ◌+◌, pos, negsuc, replicate}
use Rattle.decode_coefficients.specs.Scaling.{coefficient_of}
use Rattle.decode_idct.specs.Transform.{inverse_transform, residues_by, dc_alone}
use Rattle.decode_vectors.specs.Vector.{f_of, vector_of, whole_pels, odd_bit, chroma_vector}
use Rattle.decode_prediction.specs.Prediction.{mean_of}

pub record StarredFigures : Type 0 where
  -- "intra AC level 1, scale 1, weight 16: 1. weight 1: 0. level -255, scale 31, weight 83: -2048"
  pub intra-16 : coefficient_of true (pos 1) (pos 1) (pos 16) ≡ pos 1
  pub intra-1 : coefficient_of true (pos 1) (pos 1) (pos 1) ≡ pos 0
  pub intra-83 : coefficient_of true (negsuc 254) (pos 31) (pos 83) ≡ negsuc 2047
  -- "non-intra level 1, scale 1, weight 16: 3. level -1, scale 2: -5"
  pub non-intra-1 : coefficient_of false (pos 1) (pos 1) (pos 16) ≡ pos 3
  pub non-intra-2 : coefficient_of false (negsuc 0) (pos 2) (pos 16) ≡ negsuc 4
  -- "f_code 1, past 15, code 1: -16. f_code 2, past 0, code 1, residual 0: 1; code -1, residual 0: -1"
  pub vector-wrapped : vector_of (f_of 1) (pos 15) (pos 1) 0 ≡ negsuc 15
  pub vector-up : vector_of (f_of 2) (pos 0) (pos 1) 0 ≡ pos 1
  pub vector-down : vector_of (f_of 2) (pos 0) (negsuc 0) 0 ≡ negsuc 0
  -- "vector -3: luma -2 and a half; chroma -1 and a half"
  pub luma-whole : whole_pels (negsuc 2) ≡ negsuc 1
  pub luma-half : odd_bit (negsuc 2) ≡ 1
  pub chroma-whole : whole_pels (chroma_vector (negsuc 2)) ≡ negsuc 0
  pub chroma-half : odd_bit (chroma_vector (negsuc 2)) ≡ 1
  -- "mean of 0, 0, 0, 1: 0; of 1, 2: 2"
  pub mean-of-four : mean_of 4 (0 + 0 + 0 + 1) ≡ 0
  pub mean-of-two : mean_of 2 (1 + 2) ≡ 2
  -- "DC 8 alone: all 1. DC 4 alone: all 0"
  pub dc-8 : residues_by inverse_transform (dc_alone 8) ≡ replicate 64 (pos 1)
  pub dc-4 : residues_by inverse_transform (dc_alone 4) ≡ replicate 64 (pos 0)
