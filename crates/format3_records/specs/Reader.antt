-- What a reader of a part of a file answers (document 01: "Each field reader answers value with cursor or a refusal").
use Rattle.std.specs.Prelude.{◌≡◌, List, ℕ, ◌≤◌, length, drop, Result, Ok, Err}
use Rattle.refusals.specs.declared.Refusal.{Refusal}
use Rattle.symbols.specs.Parsed.{Parser, parsed, refused}
use Rattle.format3_records.specs.declared.field.Cursor.{Cursor}

-- the answer matches the parser: the same value, and a cursor at its end inside the part, or the same refusal
abbrev pub ParsesAs : {A : Type 0} → Parser A → List ℕ → Result (A × Cursor) Refusal → Type 0
ParsesAs p part (Ok (a, cursor)) = (p part ≡ parsed a (drop cursor.at part)) × (cursor.at ≤ length part)
ParsesAs p part (Err refusal) = p part ≡ refused refusal

-- the same answer with a value made from its own
abbrev pub with_made : {A B : Type 0} → (A → B) → Result (A × Cursor) Refusal → Result (B × Cursor) Refusal
with_made make (Ok (a, cursor)) = Ok (make a, cursor)
with_made make (Err refusal) = Err refusal
