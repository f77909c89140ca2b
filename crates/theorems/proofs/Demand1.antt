-- Demand 1: each theorem cites its law. Assumes nothing.
use Rattle.refusals.proofs.Laws.{numbers-differ, never-accepted}
use Rattle.format3_picture.proofs.PictureLaws.{number-given}
use Rattle.theorems_picture.proofs.Demand1 as Laws1
use Rattle.theorems_picture.proofs.Demand2 as Laws2
use Rattle.theorems_picture.proofs.Worked as Files
use Rattle.theorems.specs.Demand1.{KeepsLength, WorkOrRefusal, RefusalGiven, NumberListed, NumbersDiffer, NeverAccepted, RefusedHolds, SevenMissing, Worked}

pub keeps-length : KeepsLength
keeps-length = Laws1.keeps-length

pub work-or-refusal : WorkOrRefusal
work-or-refusal = Laws2.accepted-or-refused

pub refusal-given : RefusalGiven
refusal-given limit transform file forward backward output refusal place before a =
    let given = Laws2.refusal-given limit transform file forward backward output refusal place before a in
    (given, number-given limit transform file forward backward output given)

pub number-listed : NumberListed
number-listed = Laws1.number-listed

pub differ : NumbersDiffer
differ = numbers-differ

pub none-accepted : NeverAccepted
none-accepted = never-accepted

pub refused-holds : RefusedHolds
refused-holds limit transform file forward backward output refusal place before a = record {
  order = Laws1.before-in-order limit transform file forward backward output a;
  held = Laws1.before-own limit transform file forward backward output a;
  others = Laws1.before-others limit transform file forward backward output a;
}

pub seven-missing : SevenMissing
seven-missing limit transform file forward backward output number = record {
  at-end = Laws2.seven-at-end limit transform file forward backward output number;
  fewer = Laws2.seven-fewer limit transform file forward backward output number;
}

pub worked : Worked
worked = (Files.worked-files).0
