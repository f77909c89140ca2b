-- The quantizer matrices of a picture (document 01, "Coefficients").
use Rattle.std.specs.Prelude.{Bool, cond, List, ℕ}
use Rattle.tables.specs.Tables.{default_intra, default_non_intra}
use Rattle.decode_coefficients.specs.declared.matrices.Matrices.{Matrices}

-- the two matrices of a picture, from their weights
abbrev pub matrices_of : List ℕ → List ℕ → Matrices
matrices_of intra non_intra = record { intra = intra; non_intra = non_intra }

-- "without it the standard's default does"
abbrev pub default_matrices : Matrices
default_matrices = matrices_of default_intra default_non_intra

-- the matrix that a macroblock uses
abbrev pub matrix_for : Bool → Matrices → List ℕ
matrix_for intra m = cond intra m.intra m.non_intra
