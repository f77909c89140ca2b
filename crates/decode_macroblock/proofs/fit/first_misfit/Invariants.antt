-- `fit::first_misfit` meets its contract: before macroblock k, the k before it fit. Assumes nothing.
use mathlib.Core.Path.{◌≡◌}
use Rattle.std.specs.Prelude.{Ok}
use Rattle.decode_macroblock.specs.Fit.{first_misfit}
use Rattle.decode_macroblock.proofs.fit.first_misfit.Given as goal

abbrev pub invariant-loop-k : goal.invariant-loop-k
invariant-loop-k l = first_misfit l.size l.first l.k l.motion ≡ Ok tt
