-- `sums_of` meets its contract: it sums up the parts of the picture that are its planes. Assumes nothing.
use Rattle.math.proofs.Total.{total-is-sum}
use Rattle.reel_report.specs.Planes.{sums_of}
use Rattle.reel_report.proofs.planes.sums_of.Goals as goal

pub returns : goal.returns
unfolding sums_of
returns c = rw (total-is-sum, total-is-sum, total-is-sum, c.sum-y.ensures, c.sum-cb.ensures, c.sum-cr.ensures, c.first.ensures, c.first-2.ensures, c.after-from_cb.ensures, c.after.ensures)
