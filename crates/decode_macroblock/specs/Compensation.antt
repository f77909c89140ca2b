-- The prediction of a block from the references: motion compensation (document 01, "Vectors and prediction").
use Rattle.std.specs.Prelude.{Bool, cond, ◌&&◌, List, ℕ, ◌-◌, eqb, take, drop, replicate, Option, Some, None, option_map}
use Rattle.symbols.specs.Pattern.{is_luma}
use Rattle.decode_vectors.specs.Vector.{chroma_vector, odd_bit}
use Rattle.decode_prediction.specs.Fit.{half_pel_coordinate}
use Rattle.decode_prediction.specs.Prediction.{prediction, copied_pels, mean_of_both}
use Rattle.decode_macroblock.specs.declared.location.MacroblockPosition.{MacroblockPosition}
use Rattle.decode_macroblock.specs.declared.location.BlockLocation.{BlockLocation}
use Rattle.decode_macroblock.specs.declared.compensation.Vector.{Vector}
use Rattle.decode_macroblock.specs.declared.compensation.HalfPels.{HalfPels}
use Rattle.decode_macroblock.specs.declared.compensation.Motion.{Motion}
use Rattle.decode_macroblock.specs.Location.{block_location}

-- the pictures that a macroblock is predicted from
pub record References : Type 0 where
  pub forward : List ℕ
  pub backward : List ℕ

abbrev pub references : List ℕ → List ℕ → References
references forward backward = record { forward = forward; backward = backward }

-- "Chroma first halves towards zero": the vector for the plane of a block
unfoldable pub vector_for : ℕ → Vector → Vector
vector_for block v = cond (is_luma block) v (record { right = chroma_vector v.right; down = chroma_vector v.down })

-- the plane of a picture that a location belongs to
abbrev pub plane_of : BlockLocation → List ℕ → List ℕ
plane_of p picture = take (p.to - p.from) (drop p.from picture)

-- whether a vector points to whole pels: neither component has an odd bit
abbrev pub is_whole_pel : Vector → Bool
is_whole_pel v = eqb (odd_bit v.right) 0 && eqb (odd_bit v.down) 0

-- where a vector for the plane points from a location, in half pels
abbrev pub half_pels : BlockLocation → Vector → HalfPels
half_pels p v = record { px = half_pel_coordinate p.x v.right; py = half_pel_coordinate p.y v.down }

-- the block that a vector for the plane points to
unfoldable pub predicted_from : List ℕ → BlockLocation → Vector → List ℕ
predicted_from reference p v = prediction (plane_of p reference) p.stride (half_pels p v).px (half_pels p v).py

-- the `side` by `side` pels that it points to, if it points to whole pels
unfoldable pub copied_from : ℕ → List ℕ → BlockLocation → Vector → List ℕ
copied_from side reference p v = copied_pels side (plane_of p reference) p.stride (half_pels p v).px (half_pels p v).py

-- the block that a macroblock's vector points to, from one of its blocks
abbrev pub pointed_block : List ℕ → MacroblockPosition → Vector → ℕ → List ℕ
pointed_block reference p v block = predicted_from reference (block_location p block) (vector_for block v)

-- one direction, "the mean of both directions", or "0 for intra"
abbrev pub combined : Option (List ℕ) → Option (List ℕ) → List ℕ
combined (Some before) (Some after) = mean_of_both before after
combined (Some before) None = before
combined None (Some after) = after
combined None None = replicate 64 0

-- the prediction of a block, from the directions in use
unfoldable pub predicted_block : List ℕ → List ℕ → Motion → BlockLocation → ℕ → List ℕ
predicted_block forward backward m p block =
    combined
    (option_map (λ v. predicted_from forward p (vector_for block v)) m.forward)
    (option_map (λ v. predicted_from backward p (vector_for block v)) m.backward)
