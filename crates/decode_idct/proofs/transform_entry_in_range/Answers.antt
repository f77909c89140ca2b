-- `decode_idct::transform_entry_in_range` meets its contract: before each coefficient, those before it are tested. Assumes nothing.
use mathlib.Core.Path.{◌≡◌}
use native.Mathlib.Omega.{arith}
use Rattle.decode_idct.specs.Answer.{transform_entry_in_range}
use Rattle.decode_idct.proofs.transform_entry_in_range.Goals as goal

pub returns : goal.returns
unfolding transform_entry_in_range
returns c = let all : c.loop-coefficient.coefficient-index ≡ 64 = omega arith in rw all at c.loop-coefficient.invariant.1
