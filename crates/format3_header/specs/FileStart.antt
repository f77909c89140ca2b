-- The start of a file (document 01, refusals 1 to 8 and 19 to 21; request No. 4, refusal 27): its version and its first record, the header.
use Rattle.std.specs.Prelude.{List, ℕ, ◌+◌, eqb, leb, length, get_or, take, drop, ⊤, Result, Ok, Err}
use Rattle.refusals.specs.Refusal.{accepted, number_of}
use Rattle.refusals.specs.declared.Refusal.{Refusal}
use Rattle.refusals.specs.declared.Refusal.TheVariants.{FileEmpty, Version, OutOfTurn, FileEnds}
use Rattle.symbols.specs.Guard.{require◌else◌then◌}
use Rattle.symbols.specs.declared.header.Header.{Header}
use Rattle.format3_records.specs.Record.{record_of}
use Rattle.format3_records.specs.Turn.{in_turn}
use Rattle.format3_records.specs.declared.record.Record.{Record}
use Rattle.format3_records.specs.declared.turn.Turn.TheVariants as Turn
use Rattle.format3_header.specs.Header.{header_of}
use Rattle.format3_header.specs.Lengths.{caller_verdict}
use Rattle.format3_header.specs.declared.file_start.FileHeader.{FileHeader}
use Rattle.format3_header.specs.declared.file_start.FileStart.{FileStart}
use Rattle.format3_header.specs.declared.file_start.RefusedAt.{RefusedAt}

-- "The first byte is the version, 3"
abbrev pub version : ℕ
version = 3

-- a refusal and its place
abbrev pub refused_at : {A : Type 0} → Refusal → ℕ → Result A RefusedAt
refused_at refusal place = Err (record { refusal = refusal; place = place })

-- the same answer, a refusal with this place
abbrev pub placed_at : {A : Type 0} → ℕ → Result A Refusal → Result A RefusedAt
placed_at place (Ok value) = Ok value
placed_at place (Err refusal) = refused_at refusal place

-- the header, from the record after the version, and where the next record starts (3 to 6 and 8)
unfoldable pub first_record : List ℕ → Result FileStart Refusal
first_record file = found (record_of file 1)
  where
    legal : ℕ → Result Header Refusal → Result FileStart Refusal
    legal end (Ok h) = Ok (record { header = h; end = end })
    legal end (Err refusal) = Err refusal

    found : Result Record Refusal → Result FileStart Refusal
    found (Err refusal) = Err refusal
    found (Ok unit) =
        require in_turn Turn.Start unit.kind else Err OutOfTurn then
        legal (unit.start + unit.length) (header_of (take unit.length (drop unit.start file)))

-- the start up to the header (1 to 8); "Place is the offset of the refused record's length (0 for 1 and 2; file length for 7, ..)"
unfoldable pub first_header : List ℕ → Result FileStart RefusedAt
first_header file =
    require leb 1 (length file) else refused_at FileEmpty 0 then
    require eqb (get_or file 0 0) version else refused_at Version 0 then
    require leb 2 (length file) else refused_at FileEnds 1 then
    placed_at 1 (first_record file)

-- then the reader's limit (27), then the lengths of the lent buffers: "the header ends with 19, 20, 21"
unfoldable pub file_start_of : ℕ → List ℕ → ℕ → ℕ → ℕ → Result FileStart RefusedAt
file_start_of limit file output forward backward = go (first_header file)
  where
    lent : FileStart → Result ⊤ RefusedAt → Result FileStart RefusedAt
    lent start (Ok passed) = Ok start
    lent start (Err refused) = Err refused

    go : Result FileStart RefusedAt → Result FileStart RefusedAt
    go (Ok start) = lent start (placed_at 1 (caller_verdict limit start.header output forward backward))
    go (Err refused) = Err refused

-- what a caller is told of the start: 0, "width and height in macroblocks", the type, and the offset of the next record; or the refusal's number, and zeros
pub record FileHeaderNumbers : Type 0 where
  pub number : ℕ
  pub coding_type : ℕ
  pub width : ℕ
  pub height : ℕ
  pub records_start : ℕ

abbrev pub file_header_of : Result FileStart RefusedAt → FileHeaderNumbers
file_header_of (Ok start) = record {
  number = accepted;
  coding_type = start.header.coding_type;
  width = start.header.size.width;
  height = start.header.size.height;
  records_start = start.end;
}
file_header_of (Err refused) = record { number = number_of refused.refusal; coding_type = 0; width = 0; height = 0; records_start = 0 }

-- the numbers of the answer that the code gives
abbrev pub header_numbers : Result FileHeader Refusal → FileHeaderNumbers
header_numbers (Ok h) = record { number = accepted; coding_type = h.coding_type; width = h.size.width; height = h.size.height; records_start = h.records_start }
header_numbers (Err refusal) = record { number = number_of refusal; coding_type = 0; width = 0; height = 0; records_start = 0 }
