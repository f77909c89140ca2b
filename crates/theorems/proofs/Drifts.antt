-- Each drift and the definition at the worked input: both are computed. Assumes nothing.
use mathlib.Core.Path.{refl}
use Rattle.math.specs.Tab.{tab}
use Rattle.math.specs.Sum.{sum_to}
use Rattle.decode_coefficients.specs.Scaling.{coefficient_of, scaled}
use Rattle.decode_idct.specs.Transform.{angle, cosine_factor, factor, double_sum, inverse_transform, residues_by}
use Rattle.decode_vectors.specs.Vector.{vector_of, vector_difference_of, wrapped}
use Rattle.decode_prediction.specs.Fit.{vector_fits}
use Rattle.theorems.specs.Drifts.{DriftsDiffer}

pub drifts-differ : DriftsDiffer
unfolding tab sum_to coefficient_of scaled angle cosine_factor factor double_sum inverse_transform residues_by vector_fits vector_of vector_difference_of wrapped
drifts-differ = record {
  limited-last = refl;
  limited-first = refl;
  chroma-halved = refl;
  chroma-shifted = refl;
  past-kept = refl;
  past-doubled = refl;
  rounded-once = refl;
  rounded-twice = refl;
  last_fits = refl;
  last-refused = refl;
}
