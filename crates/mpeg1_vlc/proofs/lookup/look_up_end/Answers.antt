-- `look_up_end` meets its contract: the bits left, padded with zeros and with ones, are the indices of the two entries. Assumes nothing.
use mathlib.Core.Path.{◌∙◌}
use Prim.Native.Nat.{◌+◌, ◌*◌, ◌-◌, ◌/◌, ◌^◌, ◌<◌}
use native.Mathlib.Omega.{arith}
use Rattle.mpeg1_vlc.proofs.Laws.LookUp.{padded-below, looked-up-at-end}
use Rattle.mpeg1_vlc.proofs.lookup.look_up_end.Goals as goal

pub code-zeroed-requires : goal.code-zeroed-requires
code-zeroed-requires c =
    let last : c.args.next.bits / 2 ^ (32 - c.args.next.count) * c.power_of_two-padding.result + (c.power_of_two-padding.result - 1) < 256 = rw c.power_of_two-padding.ensures (padded-below c.args.row c.args.zeros c.args.next c.requires.0 c.requires.1) in
    (c.requires.0.there, omega (arith, last))

pub code-filled-requires : goal.code-filled-requires
code-filled-requires c =
    (c.requires.0.there, rw c.power_of_two-padding.ensures (padded-below c.args.row c.args.zeros c.args.next c.requires.0 c.requires.1))

pub returns : goal.returns
returns c =
    c.unpadded.ensures
    ∙ rw (c.code-filled.ensures, c.code-zeroed.ensures, c.power_of_two-padding.ensures) (looked-up-at-end c.args.row c.args.zeros c.args.next c.requires.0 c.requires.1)
