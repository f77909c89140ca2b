-- A number that is none of 3, 4 and 6, by one test. Assumes nothing.
use mathlib.Core.Bool.{Bool, false, ◌||◌}
use mathlib.Core.Path.{◌≡◌, refl, subst}
use Prim.Native.Nat.{ℕ}
use lib.Dec.{eqb}
use Rattle.math.proofs.Test.{clash}
use Rattle.refusals.specs.Refusal.{number_of}
use Rattle.refusals.specs.declared.Refusal.TheVariants.{RecordCut, RecordKind, BodyLength}
use Rattle.theorems_records.specs.WellFramed.{WellFramed}

abbrev pub framing : ℕ → Bool
framing number = eqb number (number_of RecordCut) || eqb number (number_of RecordKind) || eqb number (number_of BodyLength)

pub framed : (number : ℕ) → framing number ≡ false → WellFramed number
framed number e = record {
  not-cut = λ same. clash refl (subst Other same e);
  known-kind = λ same. clash refl (subst Other same e);
  whole-body = λ same. clash refl (subst Other same e);
}
  where
    Other : ℕ → Type 0
    Other n = framing n ≡ false
