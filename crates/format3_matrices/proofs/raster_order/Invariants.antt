-- `raster_order` meets its contract: before weight k, the first k are at their raster indices. Assumes nothing.
use mathlib.Core.Path.{◌≡◌}
use lib.ListN.{length, get_or, replicate}
use Rattle.math.specs.Scatter.{scatter}
use Rattle.tables.specs.Tables.{zigzag}
use Rattle.format3_matrices.proofs.raster_order.Given as goal

abbrev pub invariant-loop-raster : goal.invariant-loop-raster
invariant-loop-raster l = l.matrix ≡ scatter (λ j. get_or zigzag j 0) (λ j. get_or l.weights j 0) (length l.yielded) (replicate 64 0)
