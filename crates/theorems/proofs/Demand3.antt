-- Demand 3: each theorem cites its law. Assumes nothing.
use Rattle.decode_idct.proofs.Factors.{multiples-of-one-angle, cosines-fall}
use Rattle.theorems_accuracy.proofs.Accuracy as Accuracy
use Rattle.theorems_accuracy.proofs.Cosines as Cosines
use Rattle.theorems_accuracy.proofs.Nearness as Nearness
use Rattle.theorems_accuracy.proofs.Witnesses.{least-met, greatest-met, low-met, high-met, dc-met}
use Rattle.theorems_accuracy.proofs.Witnesses as Witnesses
use Rattle.theorems_picture.specs.Worked.{zeros}
use Rattle.theorems_picture.proofs.Demand1.{symbols-in-range}
use Rattle.theorems.specs.Demand3.{Demand3, HypothesesMet, BlocksMeetDemand3, ZerosMiss, EndsApart, EndsHold, FactorsAreCosines}

pub demand-3 : Demand3
demand-3 c m x b k h = record { near = Accuracy.near c m x b k h; accepts = Accuracy.accepts c m; gives = Accuracy.gives c m k h }

pub hypotheses-met : HypothesesMet
hypotheses-met = record { least = least-met; greatest = greatest-met; low = low-met; high = high-met }

pub blocks-meet-demand-3 : BlocksMeetDemand3
blocks-meet-demand-3 limit file forward backward output h end = symbols-in-range limit zeros file forward backward output

pub zeros-miss : ZerosMiss
zeros-miss = record { covered = dc-met; misses = Witnesses.zeros-miss }

pub ends-apart : EndsApart
ends-apart i h = (Nearness.near i h).apart

pub ends-hold : EndsHold
ends-hold = Cosines.ends-hold

pub factors-are-cosines : FactorsAreCosines
factors-are-cosines = record { multiples = multiples-of-one-angle; falling = cosines-fall }
