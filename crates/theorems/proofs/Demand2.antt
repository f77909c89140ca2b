-- Demand 2: each theorem cites its law. Assumes nothing.
use mathlib.Core.List.{List}
use mathlib.Core.Logic.{◌⊎◌, inl, inr}
use mathlib.Core.Path.{refl, sym, ◌∙◌}
use Prim.Native.Nat.{ℕ, ◌≤◌}
use native.Mathlib.Omega.{arith}
use Rattle.refusals.specs.Refusal.{number_of}
use Rattle.refusals.specs.declared.Refusal.{Refusal}
use Rattle.decode_macroblock.specs.Macroblock.{MadeMacroblock}
use Rattle.format3_picture.proofs.Alone.{picture-alone}
use Rattle.format3_picture.proofs.PictureLaws.{number-given}
use Rattle.theorems_picture.proofs.Demand1.{symbols-own, before-of-symbols}
use Rattle.theorems_picture.proofs.Demand2 as Laws
use Rattle.theorems_picture.proofs.Worked.{two-slices-header-read, two-slices-symbols}
use Rattle.theorems_picture.specs.Applies.{Applies}
use Rattle.theorems_picture.specs.Worked.{zeros}
use Rattle.theorems.specs.Demand2.{AddedByRequest, NoneApplies, ExactlyWhenNoneApplies, AcceptedIsReconstruction, SameAnswer, SameBytes, OutputOfSymbols, RefusedMakesSymbols, WorkedSymbols}

pub accepted-exactly : ExactlyWhenNoneApplies
accepted-exactly limit transform file forward backward output = (
  (λ number. record {
    of-document-01 = λ refusal place before own. Laws.none-applies limit transform file forward backward output number refusal place before;
    added = λ refusal place before later. Laws.none-applies limit transform file forward backward output number refusal place before;
  }),
  (λ none. Laws.accepted-by-none limit transform file forward backward output (λ refusal place before a.
      by-list none a (Laws.applies-listed limit transform file forward backward output a))),
)
  where
    by-list : NoneApplies limit file forward backward output → {refusal : Refusal} {place : ℕ} {before : List MadeMacroblock}
        → Applies limit file forward backward output refusal place before → (number_of refusal ≤ 21) ⊎ AddedByRequest refusal → ⊥
    by-list none {refusal} {place} {before} a (inl few) = none.of-document-01 refusal place before (omega (arith, few)) a
    by-list none {refusal} {place} {before} a (inr later) = none.added refusal place before later a

pub accepted-is-reconstruction : AcceptedIsReconstruction
accepted-is-reconstruction limit transform file forward backward output number =
    let a = Laws.accepted-whole limit transform file forward backward output number in
    record {
      header = a.header;
      end = a.end;
      header_read = a.header_read;
      answer = a.answer;
      number = number;
      reached = a.reached;
      passing = a.passing;
      none_left = a.none_left;
      same = a.same;
      order = a.order;
      equal = Laws.output-of-symbols limit transform file forward backward output a.header_read;
      owned = Laws.owner-inside limit transform file forward backward output a.header_read;
      bytes = symbols-own limit transform file forward backward output a.header_read;
    }

pub same_answer : SameAnswer
same_answer limit transform file forward backward first second long =
    let same = (picture-alone limit transform file forward backward first second long).answer in
    (same, number-given limit transform file forward backward first same ∙ sym (number-given limit transform file forward backward second refl))

pub same_bytes : SameBytes
same_bytes limit transform file forward backward first second long = (picture-alone limit transform file forward backward first second long).bytes

pub output-of-symbols : OutputOfSymbols
output-of-symbols limit transform file forward backward output h end = Laws.output-of-symbols limit transform file forward backward output

pub refused-makes-symbols : RefusedMakesSymbols
refused-makes-symbols limit file forward backward output h end e refusal place before a = before-of-symbols limit zeros file forward backward output a h end e

pub worked-symbols : WorkedSymbols
worked-symbols = record { header_read = two-slices-header-read; symbols = two-slices-symbols }
