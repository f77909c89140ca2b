-- Which refusals a parser gives: only those that reading a record can cause. Assumes nothing.
use mathlib.Core.Bool.{Bool, true, false}
use mathlib.Core.List.{List}
use Prim.Native.Nat.{ℕ}
use lib.Dec.{T}
use Rattle.refusals.specs.declared.Refusal.{Refusal}
use Rattle.refusals.proofs.Laws.{of_reading}
use Rattle.symbols.specs.Guard.{require◌else◌then◌}
use Rattle.symbols.specs.Parsed.{Parsed, parsed, refused, Parser, bind, refuse, optional◌default◌read◌}

-- a value, or a refusal that reading a record can cause
pub data OfReading {A : Type 0} : Parsed A → Type 0 where
  legal : {a : A} {rest : List ℕ} → OfReading (parsed a rest)
  refused-by : {refusal : Refusal} → T (of_reading refusal) → OfReading (refused refusal)

module _ {A : Type 0} where
  pub of-then : {B : Type 0} {x : Parsed B} {f : B → Parser A} → OfReading x → ((b : B) (rest : List ℕ) → OfReading (f b rest)) → OfReading (bind x f)
  of-then legal r = r _ _
  of-then (refused-by t) r = refused-by t

  pub of-need : (test : Bool) (refusal : Refusal) (p : Parser A) (bytes : List ℕ) → T (of_reading refusal) → OfReading (p bytes) → OfReading ((require test else refuse refusal then p) bytes)
  unfolding require◌else◌then◌
  of-need true refusal p bytes t r = r
  of-need false refusal p bytes t r = refused-by t

  pub of-given : (present : Bool) (absent : A) (p : Parser A) (bytes : List ℕ) → OfReading (p bytes) → OfReading ((optional present default absent read p) bytes)
  of-given true absent p bytes r = r
  of-given false absent p bytes r = legal
