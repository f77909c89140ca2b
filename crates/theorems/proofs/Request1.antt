-- Request No. 1: each theorem cites its law. Assumes nothing.
use mathlib.Core.Logic.{inl, inr}
use mathlib.Core.Path.{refl}
use Rattle.theorems_picture.proofs.AnyRefusalLaws.{picture-alike, counted-alike, number-alike, place-alike, made_alike, rows_alike, output-alike, accepted-alike, alike-accepted}
use Rattle.theorems_picture.proofs.Request1 as Laws
use Rattle.theorems_picture.proofs.Worked.{worked-files}
use Rattle.theorems.specs.Request1.{ForwardIs18, BackwardIs23, BackwardOnlyInB, OnlyTheNumber, WorkedMisfits}

pub forward-is-18 : ForwardIs18
forward-is-18 limit transform file forward backward output = (Laws.vector-refused limit transform file forward backward output (inl refl), Laws.refused-vector limit transform file forward backward output)

pub backward-is-23 : BackwardIs23
backward-is-23 limit transform file forward backward output = (Laws.vector-refused limit transform file forward backward output (inr refl), Laws.refused-vector limit transform file forward backward output)

pub backward-only-in-B : BackwardOnlyInB
backward-only-in-B limit transform file forward backward output h end e number = Laws.backward-only-in-B limit transform file forward backward output number h end e

pub only-the-number : OnlyTheNumber
only-the-number backward_refusal limit transform file forward backward output =
    let alike = picture-alike backward_refusal limit transform file forward backward output in
    record {
      place = place-alike backward_refusal alike;
      made = made_alike backward_refusal alike;
      rows = rows_alike backward_refusal alike;
      same-output = output-alike backward_refusal alike;
      same-accepted = (alike-accepted backward_refusal alike, accepted-alike backward_refusal alike);
      counted = counted-alike backward_refusal alike;
      other-number = number-alike backward_refusal alike;
    }

pub worked-misfits : WorkedMisfits
worked-misfits = record { given = worked-files.1; as-18 = worked-files.2 }
