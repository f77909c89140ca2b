-- What the strict reader reads from records that the writer wrote.
use Rattle.std.specs.Prelude.{List, [], ◌≡◌, ℕ}
use Rattle.std.specs.Int.{w16}
use Rattle.std.proofs.Common.{Fits}
use Rattle.refusals.specs.declared.Refusal.{Refusal}
use Rattle.refusals.specs.Refusal.{number_of}
use Rattle.symbols.specs.Parsed.{Parsed, parsed, refused}
use Rattle.symbols.specs.Macroblock.{Macroblock}
use Rattle.format3_macroblock.specs.Slice.{slice_of}
use Rattle.format3_macroblock.specs.declared.macroblock.MacroblockContext.{MacroblockContext}
use Rattle.format3_macroblock.specs.Macroblock.{macroblock_of}
use Rattle.format3_writer.specs.Records.{slice_body, macroblock_body}
use Rattle.theorems_records.specs.WellFramed.{WellFramed}
use Rattle.theorems_records.specs.FieldFit.{Matching, MacroblockFitsFields}
use Rattle.theorems_records.specs.Legal.{LegalSlice, LegalMacroblock}

-- the result of parsing a part that the writer wrote, with bytes after it: a value for which P holds, with exactly those bytes left;
-- or a refusal other than 3, 4 and 6, and then the values are not Legal
pub data ReadBack {A : Type 0} (P : A → Type 0) (Legal : Type 0) (behind : List ℕ) : Parsed A → Type 0 where
  back : {a : A} → P a → ReadBack P Legal behind (parsed a behind)
  other : {refusal : Refusal} → WellFramed (number_of refusal) → (Legal → ⊥) → ReadBack P Legal behind (refused refusal)

-- the body of a slice's record, with any values: it is read back where the start fits two bytes, or refused, and then a value is not legal
abbrev pub SliceReadBack : ℕ → ℕ → Type 0
SliceReadBack scale start =
    ReadBack (λ slice. Fits w16 start → slice ≡ record { scale = scale; start = start }) (LegalSlice (record { scale = scale; start = start })) [] (slice_of (slice_body scale start))

-- the same for a macroblock's record, in every context, where its blocks are those of its type and its pattern
abbrev pub MacroblockReadBack : MacroblockContext → Macroblock → Type 0
MacroblockReadBack c m = Matching m → ReadBack (λ read. MacroblockFitsFields m → read ≡ m) (LegalMacroblock c m) [] (macroblock_of c (macroblock_body m))
