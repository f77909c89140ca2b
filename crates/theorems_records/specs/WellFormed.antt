-- Records that are put together as document 01 has them, and the file that they make after a header.
use Rattle.std.specs.Prelude.{List, [], ◌∷◌, ◌++◌, ℕ, ◌-◌, ◌^◌, ◌≤◌, length}
use Rattle.symbols.specs.Macroblock.{Macroblock}
use Rattle.format3_records.specs.Record.{header_kind}
use Rattle.format3_header.specs.FileStart.{version}
use Rattle.format3_writer.specs.Records.{record_bytes, slice_record, macroblock_body, macroblock_record}
use Rattle.theorems_records.specs.FieldFit.{Matching}

-- a macroblock with any values, as long as its blocks match its type and pattern, and its record's length fits two bytes
pub record WellFormedMacroblock (m : Macroblock) : Type 0 where
  pub matching : Matching m
  pub short : length (macroblock_body m) ≤ 2 ^ 16 - 2

-- the record of a slice, with any values, or of such a macroblock
pub data WellFormedRecord : List ℕ → Type 0 where
  of-slice : (scale start : ℕ) → WellFormedRecord (slice_record scale start)
  of-macroblock : {m : Macroblock} → WellFormedMacroblock m → WellFormedRecord (macroblock_record m)

-- such records, one after the other
pub data WellFormedRecords : List ℕ → Type 0 where
  none : WellFormedRecords []
  more : {first rest : List ℕ} → WellFormedRecord first → WellFormedRecords rest → WellFormedRecords (first ++ rest)

-- the same for the macroblocks of a slice
pub data WellFormedMacroblocks : List Macroblock → Type 0 where
  none : WellFormedMacroblocks []
  more : {m : Macroblock} {rest : List Macroblock} → WellFormedMacroblock m → WellFormedMacroblocks rest → WellFormedMacroblocks (m ∷ rest)

-- the file of these records, after a header with these bytes
abbrev pub file_of : List ℕ → List ℕ → List ℕ
file_of fields records = version ∷ (record_bytes header_kind fields ++ records)
