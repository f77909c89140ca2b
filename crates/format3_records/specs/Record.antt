-- One record of a file, a type-length-value unit whose type is called kind, from an offset
-- (document 01, "The Format 3 file", and refusals 3 and 4).
use Rattle.std.specs.Prelude.{Bool, ◌&&◌, List, [], ℕ, ◌+◌, ◌-◌, leb, length, get_or, take, drop, Result, Ok, Err}
use Rattle.refusals.specs.declared.Refusal.{Refusal}
use Rattle.refusals.specs.declared.Refusal.TheVariants.{RecordCut, RecordKind}
use Rattle.refusals.specs.Refusal.{number_in}
use Rattle.symbols.specs.Guard.{require◌else◌then◌}
use Rattle.format3_records.specs.declared.record.Record.{Record}
use Rattle.format3_records.specs.Field.{big_endian}

-- the kinds of records
abbrev pub header_kind : ℕ
header_kind = 1

abbrev pub matrix_kind : ℕ
matrix_kind = 2

abbrev pub slice_kind : ℕ
slice_kind = 3

abbrev pub macroblock_kind : ℕ
macroblock_kind = 4

-- "kind not 1..4"
abbrev pub last_kind : ℕ
last_kind = macroblock_kind

abbrev pub legal_kind : ℕ → Bool
legal_kind kind = leb header_kind kind && leb kind last_kind

-- "a 2-byte length (of what comes after it), a kind byte": the length and the kind at an offset
unfoldable pub record_length_at : List ℕ → ℕ → ℕ
record_length_at file offset = big_endian (get_or file offset 0) (get_or file (offset + 1) 0)

unfoldable pub kind_at : List ℕ → ℕ → ℕ
kind_at file offset = get_or file (offset + 2) 0

-- "fewer than 3 bytes left, length 0, or past the end"; then "kind not 1..4"
unfoldable pub record_of : List ℕ → ℕ → Result Record Refusal
record_of file offset =
    require leb (offset + 3) (length file) else Err RecordCut then
    require leb 1 (record_length_at file offset) else Err RecordCut then
    require leb (offset + 2 + record_length_at file offset) (length file) else Err RecordCut then
    require legal_kind (kind_at file offset) else Err RecordKind then
    Ok (record { kind = kind_at file offset; start = offset + 3; length = record_length_at file offset - 1 })

-- the answer's number
abbrev pub record_number : Result Record Refusal → ℕ
record_number = number_in

-- "a refusal shows kind 0 and an empty part"
abbrev pub kind_of : Result Record Refusal → ℕ
kind_of (Ok found) = found.kind
kind_of (Err refusal) = 0

abbrev pub body_start_of : Result Record Refusal → ℕ
body_start_of (Ok found) = found.start
body_start_of (Err refusal) = 0

abbrev pub body_length_of : Result Record Refusal → ℕ
body_length_of (Ok found) = found.length
body_length_of (Err refusal) = 0

-- "The record's body is then the bytes of the file themselves"
abbrev pub body_of : Result Record Refusal → List ℕ → List ℕ
body_of (Ok found) file = take found.length (drop found.start file)
body_of (Err refusal) file = []
