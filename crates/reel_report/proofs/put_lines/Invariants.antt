-- `put_lines` meets its contract: in each round, writing the remaining lines gives the whole report. Assumes nothing.
use mathlib.Core.Path.{◌≡◌}
use Prim.Native.Nat.{◌-◌}
use lib.ListN.{length}
use Rattle.reel_player.proofs.ItemLaws.{Buffers}
use Rattle.reel_player.specs.Requires.{KeptWithin}
use Rattle.reel_report.proofs.ReportLaws.{Printed}
use Rattle.reel_report.proofs.put_lines.Given as goal

abbrev pub invariant-loop-position : goal.invariant-loop-position
invariant-loop-position l =
    Printed l.reel l.initial.text l.position l.older l.newer l.text l.end
    × Buffers l.older l.newer l.output × KeptWithin l.position.kept l.older l.newer × (length l.text ≡ length l.initial.text)

abbrev pub decreases-loop-position : goal.decreases-loop-position
decreases-loop-position l = length l.reel - l.position.at
