-- `line::half_line` meets its contract: the accumulator holds the sum so far. Assumes nothing.
use Prim.Native.Nat.{◌+◌, ◌*◌}
use mathlib.Core.Path.{◌≡◌}
use lib.IntN.{◌*ℤ◌}
use Rattle.math.specs.Bound.{at}
use Rattle.math.specs.Sum.{sum_to}
use Rattle.decode_idct.proofs.line.half_line.Given as goal

abbrev pub invariant-loop-j : goal.invariant-loop-j
invariant-loop-j l = l.sum ≡ sum_to (λ k. at l.factors k *ℤ at l.x (l.first + 2 * k)) l.j
