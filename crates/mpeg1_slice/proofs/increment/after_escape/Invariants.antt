-- `after_escape` meets its contract: after each escape, reading on gives the same result, with the sum 33 larger. Assumes nothing.
use Prim.Native.Nat.{◌-◌}
use Rattle.symbols.specs.Size.{max_macroblocks}
use Rattle.mpeg1_slice.specs.Increment.{after_escape}
use Rattle.mpeg1_slice.proofs.Laws.Increment.{Escaped}
use Rattle.mpeg1_slice.proofs.increment.after_escape.Given as goal

abbrev pub invariant-loop-value : goal.invariant-loop-value
invariant-loop-value l = Escaped l.bytes (after_escape 12 33 l.bytes l.initial.at) l.sum l.at

abbrev pub decreases-loop-value : goal.decreases-loop-value
decreases-loop-value l = max_macroblocks - l.sum
