-- `records::apply_matrix` meets its contract: it marks the matrix as loaded, or passes on the refusal. Assumes nothing.
use native.Mathlib.Omega.{arith}
use mathlib.Core.Path.{sym}
use Rattle.format3_matrices.proofs.Laws.Matrix.{passed-long}
use Rattle.format3_picture.proofs.records.apply_matrix.Goals as goal

pub mark_loaded-requires : goal.mark_loaded-requires
mark_loaded-requires c = omega (arith, passed-long c.args.body.now c.args.picture.loaded (sym c.in_ok-matrix_verdict.ensures))
