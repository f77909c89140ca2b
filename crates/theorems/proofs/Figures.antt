-- Document 01's starred figures: each is computed. Assumes nothing.
use mathlib.Core.Path.{refl}
use Rattle.math.specs.Tab.{tab}
use Rattle.math.specs.Sum.{sum_to}
use Rattle.decode_coefficients.specs.Scaling.{coefficient_of, scaled}
use Rattle.decode_idct.specs.Transform.{angle, cosine_factor, factor, double_sum, inverse_transform, residues_by}
use Rattle.decode_vectors.specs.Vector.{vector_of, vector_difference_of, wrapped}
use Rattle.theorems.specs.Figures.{StarredFigures}

pub figures : StarredFigures
unfolding tab sum_to coefficient_of scaled angle cosine_factor factor double_sum inverse_transform residues_by vector_of vector_difference_of wrapped
figures = record {
  intra-16 = refl;
  intra-1 = refl;
  intra-83 = refl;
  non-intra-1 = refl;
  non-intra-2 = refl;
  vector-wrapped = refl;
  vector-up = refl;
  vector-down = refl;
  luma-whole = refl;
  luma-half = refl;
  chroma-whole = refl;
  chroma-half = refl;
  mean-of-four = refl;
  mean-of-two = refl;
  dc-8 = refl;
  dc-4 = refl;
}
