-- Answers that find no fault with how records are put together.
use Rattle.std.specs.Prelude.{◌≡◌, ℕ}
use Rattle.refusals.specs.Refusal.{number_of}
use Rattle.refusals.specs.declared.Refusal.TheVariants.{RecordCut, RecordKind, BodyLength}

-- none of 3, 4 and 6: no record is cut, of an unknown kind, or has a body too short or too long
pub record WellFramed (number : ℕ) : Type 0 where
  pub not-cut : number ≡ number_of RecordCut → ⊥
  pub known-kind : number ≡ number_of RecordKind → ⊥
  pub whole-body : number ≡ number_of BodyLength → ⊥
