-- `pass::row` meets its contract: before number u, the first u of the row are in the line. Assumes nothing.
use Prim.Native.Nat.{ℕ, ◌+◌, ◌*◌, ◌<◌}
use lib.ListN.{length, get_or}
use mathlib.Core.Path.{◌≡◌}
use Rattle.math.specs.Bound.{at}
use Rattle.decode_idct.proofs.pass.row.Given as goal

abbrev pub invariant-loop-u : goal.invariant-loop-u
invariant-loop-u g l = record {
  long : length l.line ≡ 8;
  stored : (d : g.row.T.Denot) (k : ℕ) → k < l.u → g.T.Into.converts (get_or l.block (8 * l.v + k) d) (at l.line k);
}
