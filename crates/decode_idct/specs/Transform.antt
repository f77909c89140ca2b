-- The inverse transform (document 01, "Inverse transform") of sixty-four coefficients, row by row; the row is the vertical frequency.
use Rattle.std.specs.Prelude.{cond, List, ◌∷◌, ℕ, ◌+◌, ◌-◌, ◌*◌, ◌/◌, ◌%◌, ◌^◌, ltb, eqb, ℤ, pos, negsuc, ◌+ℤ◌, ◌-ℤ◌, ◌*ℤ◌, replicate}
use Rattle.std.specs.Int.Signed.{shr_z}
use Rattle.math.specs.Tab.{tab}
use Rattle.math.specs.Bound.{at}
use Rattle.math.specs.Limit.{limited}
use Rattle.math.specs.Sum.{sum_to}
use Rattle.tables.specs.Tables.{cosines}

-- an angle of k sixteenths of pi, k below 32, folded into 0..16: cos(2 × pi - x) = cos(x)
abbrev pub folded : ℕ → ℕ
folded k = cond (ltb k 16) k (32 - k)

-- the angle of frequency u at output index p (document 01's "place p"), in sixteenths of pi
unfoldable pub angle : ℕ → ℕ → ℕ
angle p u = folded ((2 * p + 1) * u % 32)

-- the cosine of k sixteenths of pi from a table, for k from 1 to 15 except 8: the entry of that size, with its sign
abbrev pub cosine_of : {A : Type 0} → (A → A) → (ℕ → A) → ℕ → A
cosine_of negated entry k = cond (ltb k 8) (entry (k - 1)) (negated (entry (15 - k)))

-- "The factor for frequency u at place p (0..7) stands for cos((2p+1) × u × pi / 16) .. for u = 0 it is the fourth entry",
-- for a table of any number type
unfoldable pub cosine_factor : {A : Type 0} → (A → A) → (ℕ → A) → ℕ → ℕ → A
cosine_factor negated entry p u = cond (eqb u 0) (entry 3) (cosine_of negated entry (angle p u))

-- the factor from the table of whole numbers
unfoldable pub factor : ℕ → ℕ → ℤ
factor p u = cosine_factor (λ z. pos 0 -ℤ z) (at cosines) p u

-- what row v of the coefficients adds to the sum at row q and column p
abbrev pub row_sum : List ℤ → ℕ → ℕ → ℕ → ℤ
row_sum c q p v = sum_to (λ u. (factor p u *ℤ factor q v) *ℤ at c (8 * v + u)) 8

-- "the sum over all 64 coefficients of horizontal factor × vertical factor × coefficient", at row q and column p
unfoldable pub double_sum : List ℤ → ℕ → ℕ → ℤ
double_sum c q p = sum_to (row_sum c q p) 8

-- "plus 2^41, divided by 2^42 downwards"
abbrev pub divided : ℤ → ℤ
divided z = shr_z (z +ℤ pos (2 ^ 41)) (2 ^ 42)

-- document 01's inverse transform: the number at raster index k of a block, before limiting
unfoldable pub inverse_transform : List ℤ → ℕ → ℤ
inverse_transform c k = divided (double_sum c (k / 8) (k % 8))

-- "then limited to -256..255"
abbrev pub limited_residue : ℤ → ℤ
limited_residue z = limited (negsuc 255) (pos 255) z

-- the residues of a block: the sixty-four numbers of an inverse transform, limited
unfoldable pub residues_by : (List ℤ → ℕ → ℤ) → List ℤ → List ℤ
residues_by transform c = tab 64 (λ k. limited_residue (transform c k))

-- a block with only a DC, as in document 01's figures
abbrev pub dc_alone : ℕ → List ℤ
dc_alone dc = pos dc ∷ replicate 63 (pos 0)
