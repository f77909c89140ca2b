-- `decode_idct::transform_entry_in_range` meets its contract: before each coefficient, those before it are tested. Assumes nothing.
use Prim.Native.Nat.{◌≤◌}
use mathlib.Core.Path.{◌≡◌}
use lib.IntN.{pos, negsuc}
use Rattle.math.specs.Bound.{at}
use Rattle.math.specs.Limit.{in_range}
use Rattle.math.specs.Test.{all_below}
use Rattle.decode_idct.proofs.transform_entry_in_range.Given as goal

abbrev pub invariant-loop-coefficient : goal.invariant-loop-coefficient
invariant-loop-coefficient l =
    (l.coefficient-index ≤ 64) × (l.legal ≡ all_below l.coefficient-index (λ j. in_range (negsuc 2047) (pos 2047) (at l.coefficients j)))
