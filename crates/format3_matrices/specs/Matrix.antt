-- The quantizer matrices of a picture (document 01, kind 2, and refusals 6 and 9).
use Rattle.std.specs.Prelude.{Bool, true, cond, not, List, ℕ, leb, eqb, length, get_or, drop, replicate, ⊤, Result, Ok, Err}
use Rattle.math.specs.Scatter.{scatter}
use Rattle.math.specs.Test.{all_below}
use Rattle.refusals.specs.declared.Refusal.{Refusal}
use Rattle.tables.specs.Tables.{zigzag}
use Rattle.symbols.specs.Guard.{require◌else◌then◌}
use Rattle.decode_coefficients.specs.declared.matrices.Matrices.{Matrices}
use Rattle.decode_coefficients.specs.Matrices.{matrices_of}
use Rattle.format3_matrices.specs.declared.Loaded.{Loaded}
use Rattle.format3_matrices.specs.declared.Matrix.{Matrix}
use Rattle.format3_matrices.specs.declared.Matrix.TheVariants.{Intra, NonIntra}

-- "which (0 intra, 1 non-intra), then 64 weights in zigzag order"
abbrev pub which_of : List ℕ → ℕ
which_of body = get_or body 0 0

abbrev pub number_of_matrix : Matrix → ℕ
number_of_matrix Intra = 0
number_of_matrix NonIntra = 1

unfoldable pub matrix_with : ℕ → Result Matrix Refusal
matrix_with number =
    cond (eqb number (number_of_matrix Intra)) (Ok Intra)
    (cond (eqb number (number_of_matrix NonIntra)) (Ok NonIntra)
    (Err Refusal.Matrix))

abbrev pub weights_of : List ℕ → List ℕ
weights_of body = drop 1 body

-- not "a weight 0"
unfoldable pub positive : List ℕ → Bool
positive weights = all_below 64 (λ k. leb 1 (get_or weights k 0))

-- not "intra first weight not 8"
abbrev pub legal_first : ℕ → ℕ → Bool
legal_first which first = cond (eqb which 0) (eqb first 8) true

-- "given twice"
abbrev pub loaded_already : ℕ → Loaded → Bool
loaded_already which loaded = cond (eqb which 0) loaded.intra loaded.non_intra

-- "Kind 2, matrix, 65 bytes": 6, then 9: "matrix first tests which, then given twice"
unfoldable pub matrix_verdict : List ℕ → Loaded → Result ⊤ Refusal
matrix_verdict body loaded =
    require eqb (length body) 65 else Err Refusal.BodyLength then
    require leb (which_of body) 1 else Err Refusal.Matrix then
    require not (loaded_already (which_of body) loaded) else Err Refusal.Matrix then
    require positive (weights_of body) else Err Refusal.Matrix then
    require legal_first (which_of body) (get_or body 1 0) else Err Refusal.Matrix then
    Ok tt

-- the weights, each moved from its zigzag position to its raster index, 8 × row + column
unfoldable pub raster_order : List ℕ → List ℕ
raster_order weights = scatter (λ k. get_or zigzag k 0) (λ k. get_or weights k 0) 64 (replicate 64 0)

-- "It holds for this picture only": the matrix that the record names replaces the previous one
abbrev pub loaded_with : List ℕ → Matrices → Matrices
loaded_with body m =
    let which = which_of body in
    let matrix = raster_order (weights_of body) in
    matrices_of (cond (eqb which 0) matrix m.intra) (cond (eqb which 0) m.non_intra matrix)

-- and it counts as loaded from then on
abbrev pub now_loaded : List ℕ → Loaded → Loaded
now_loaded body l =
    let which = which_of body in
    record { intra = cond (eqb which 0) true l.intra; non_intra = cond (eqb which 0) l.non_intra true }
