-- `all_positive` meets its contract: no weight is 0. Assumes nothing.
use Rattle.format3_matrices.proofs.Laws.Matrix.{positive-unless}
use Rattle.format3_matrices.proofs.all_positive.Goals as goal

pub returns : goal.returns
returns c = positive-unless c.args.weights.now c.contains.result c.requires c.contains.ensures.cases
