-- A block of pels from prediction and residue, and its location in a plane.
use Rattle.std.specs.Prelude.{List, ℕ, ◌+◌, ◌*◌, ◌/◌, ◌%◌, ℤ, pos, nat_abs, ◌+ℤ◌, get_or}
use Rattle.math.specs.Tab.{tab}
use Rattle.math.specs.Scatter.{scatter}
use Rattle.math.specs.Bound.{at}
use Rattle.math.specs.Limit.{limited}

-- "Prediction (0 for intra) plus residue is limited to 0..255"
unfoldable pub reconstructed_pel : ℕ → ℤ → ℕ
reconstructed_pel predicted residue = nat_abs (limited (pos 0) (pos 255) (pos predicted +ℤ residue))

-- the same for an 8 by 8 block
abbrev pub reconstructed_block : List ℕ → List ℤ → List ℕ
reconstructed_block predicted residue = tab 64 (λ k. reconstructed_pel (get_or predicted k 0) (at residue k))

-- the index of pel k of `side` by `side` pels at column x of line y, in a plane whose lines are `stride` long
unfoldable pub pel_index : ℕ → ℕ → ℕ → ℕ → ℕ → ℕ
pel_index side stride x y k = (y + k / side) * stride + (x + k % side)

-- the plane with `side` by `side` pels put at column x of line y
abbrev pub with_pels : ℕ → ℕ → ℕ → ℕ → List ℕ → List ℕ → List ℕ
with_pels side stride x y square plane = scatter (pel_index side stride x y) (λ k. get_or square k 0) (side * side) plane

-- the plane with an 8 by 8 block put there
abbrev pub with_block : ℕ → ℕ → ℕ → List ℕ → List ℕ → List ℕ
with_block stride x y block plane = with_pels 8 stride x y block plane
