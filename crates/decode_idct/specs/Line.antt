-- How the code computes the transform: by lines of eight and their halves. proofs/Passes.antt shows that this is the double sum.
use Rattle.std.specs.Prelude.{List, ℕ, ◌+◌, ◌*◌, ◌/◌, ◌%◌, ℤ, ◌*ℤ◌}
use Rattle.math.specs.Tab.{tab}
use Rattle.math.specs.Bound.{at}
use Rattle.math.specs.Sum.{sum_to}
use Rattle.tables.specs.Tables.{cosines}
use Rattle.decode_idct.specs.Transform.{factor, divided, limited_residue}

-- the sum of eight products at output index p, over the eight numbers of c from `start` on
abbrev pub line_sum : List ℤ → ℕ → ℕ → ℤ
line_sum c start p = sum_to (λ u. factor p u *ℤ at c (start + u)) 8

-- one half of a line, with its four factors: the even frequencies (first 0) or the odd ones (first 1)
abbrev pub half_sum : List ℤ → List ℤ → ℕ → ℤ
half_sum f x first = sum_to (λ j. at f j *ℤ at x (first + 2 * j)) 4

-- row v of a block
abbrev pub row_of : List ℤ → ℕ → List ℤ
row_of c v = tab 8 (λ u. at c (8 * v + u))

-- the index of number u of column v
abbrev pub column_index : ℕ → ℕ → ℕ
column_index v u = 8 * u + v

-- a pass over a block: each row is transformed and becomes a column
abbrev pub pass_result : List ℤ → ℕ → ℤ
pass_result c k = line_sum c (8 * (k % 8)) (k / 8)

-- the residue of an exact sum
abbrev pub residue_of : ℤ → ℤ
residue_of z = limited_residue (divided z)

-- the exact sum of a block with a DC alone, at every output index: "for u = 0 it is the fourth entry"
abbrev pub dc_sum : ℤ → ℤ
dc_sum dc = (at cosines 3 *ℤ at cosines 3) *ℤ dc
