-- The records of slices and macroblocks (document 01, "The Format 3 file", kinds 3 and 4), written and read: writer and reader undo one another.
--
-- `LegalSlice` and `LegalMacroblock` (crates/theorems_records/specs/Legal.antt) say that each symbol is within its range; the latter in a context,
-- which has what the reader knows before the record. `slice_body` and `macroblock_body` (crates/format3_writer/specs/Records.antt) are the bytes that
-- the writer makes, `slice_of` and `macroblock_of` (crates/format3_macroblock/specs) what the reader reads from bytes.
--
-- Last, the header (kind 1): the entries `read_header` and `reconstruct` read it alike. `file_header_of (first_header file)`
-- (crates/format3_header/specs/FileStart.antt) is the answer of `read_header`.
use Rattle.std.specs.Prelude.{List, [], ◌≡◌, ℕ, ◌*◌, ◌≤◌, ◌<◌, ℤ, length}
use Rattle.std.specs.Int.{w8}
use prog.Model.{AllFit}
use Rattle.refusals.specs.Refusal.{accepted}
use Rattle.symbols.specs.Parsed.{parsed}
use Rattle.symbols.specs.Header.{type_i, type_b}
use Rattle.symbols.specs.Size.{max_width, max_height, max_macroblocks, picture_bytes}
use Rattle.symbols.specs.declared.slice.SliceHeader.{SliceHeader}
use Rattle.symbols.specs.Macroblock.{Macroblock}
use Rattle.format3_header.specs.FileStart.{FileHeaderNumbers, first_header, file_header_of}
use Rattle.format3_macroblock.specs.Slice.{slice_of}
use Rattle.format3_macroblock.specs.declared.macroblock.MacroblockContext.{MacroblockContext}
use Rattle.format3_macroblock.specs.Macroblock.{macroblock_of}
use Rattle.format3_writer.specs.Records.{slice_body, macroblock_body}
use Rattle.format3_picture.specs.Picture.{Picture, picture_within}
use Rattle.theorems_records.specs.Legal.{LegalSlice, LegalMacroblock}
use Rattle.theorems_records.specs.WorkedRecords.{worked_slice, worked, predicted_context, worked_body}
use Rattle.theorems_picture.specs.Worked.{two_slices}

-- "Kind 3, slice, 3 bytes: quantizer scale 1..31, 2-byte start address"
pub record SliceRoundTrip (s : SliceHeader) : Type 0 where
  -- what is within its ranges is written as bytes, and is read back as itself
  pub bytes : LegalSlice s → AllFit w8 (slice_body s.scale s.start)
  pub read_back : LegalSlice s → slice_of (slice_body s.scale s.start) ≡ parsed s []
  -- what is read from bytes is within its ranges, no byte is left over, and the bytes are what the writer makes of it
  pub legal : (body rest : List ℕ) → AllFit w8 body → slice_of body ≡ parsed s rest → LegalSlice s
  pub whole : (body rest : List ℕ) → AllFit w8 body → slice_of body ≡ parsed s rest → rest ≡ []
  pub written : (body rest : List ℕ) → AllFit w8 body → slice_of body ≡ parsed s rest → body ≡ slice_body s.scale s.start

abbrev pub EverySlice : Type 0
EverySlice = (s : SliceHeader) → SliceRoundTrip s

-- "Kind 4, macroblock: type byte, 2-byte address increment, then as the type says: scale; forward codes ..; backward codes; pattern byte; blocks"
pub record MacroblockRoundTrip (c : MacroblockContext) (m : Macroblock) : Type 0 where
  -- the same for a macroblock. A residual is below f, and so a byte where f is at most 256; a picture's f is at most 64
  pub bytes : c.forward_f ≤ 256 → c.backward_f ≤ 256 → LegalMacroblock c m → AllFit w8 (macroblock_body m)
  pub read_back : LegalMacroblock c m → macroblock_of c (macroblock_body m) ≡ parsed m []
  pub legal : (body rest : List ℕ) → AllFit w8 body → macroblock_of c body ≡ parsed m rest → LegalMacroblock c m
  pub whole : (body rest : List ℕ) → AllFit w8 body → macroblock_of c body ≡ parsed m rest → rest ≡ []
  pub written : (body rest : List ℕ) → AllFit w8 body → macroblock_of c body ≡ parsed m rest → body ≡ macroblock_body m

abbrev pub EveryMacroblock : Type 0
EveryMacroblock = (c : MacroblockContext) (m : Macroblock) → MacroblockRoundTrip c m

-- A slice within its ranges; and a macroblock with every symbol except a backward vector, within its ranges, written as these bytes,
-- and read back from them
pub record WorkedRecords : Type 0 where
  pub slice : LegalSlice worked_slice
  pub legal : LegalMacroblock predicted_context worked
  pub written : macroblock_body worked ≡ worked_body
  pub read_back : macroblock_of predicted_context worked_body ≡ parsed worked []

-- A file's start and the picture of the same file from a reader with a limit, with any references and output
pub record HeaderAsRead (limit : ℕ) (told : FileHeaderNumbers) (picture : Picture) (output : List ℕ) : Type 0 where
  -- the start is accepted, or refused by 1 to 8
  pub number-at-most-8 : told.number ≤ 8
  -- if it is refused, the picture is refused by the same number, nothing is made, and the output is what it was
  pub same_number : ¬ (told.number ≡ accepted) → picture.number ≡ told.number
  pub nothing-made : ¬ (told.number ≡ accepted) → picture.made ≡ 0
  pub unchanged : ¬ (told.number ≡ accepted) → picture.output ≡ output
  -- if it is accepted, the type is I, P or B, and the size is within the limits
  pub type-legal : told.number ≡ accepted → (type_i ≤ told.coding_type) × (told.coding_type ≤ type_b)
  pub size-legal :
      told.number ≡ accepted
      → (1 ≤ told.width) × (told.width ≤ max_width) × (1 ≤ told.height) × (told.height ≤ max_height) × (told.width * told.height ≤ max_macroblocks)
  -- and the place of a picture within the reader's limit is before the next record only if a lent buffer has the wrong length
  pub lengths-only : told.number ≡ accepted → told.width * told.height ≤ limit → picture.place < told.records_start → (19 ≤ picture.number) × (picture.number ≤ 21)
  -- if the picture is accepted, the output is as long as the size says
  pub output-length : picture.number ≡ accepted → length output ≡ picture_bytes (record { width = told.width; height = told.height })

abbrev pub EveryHeader : Type 0
EveryHeader =
    (limit : ℕ) (transform : List ℤ → ℕ → ℤ) (file forward backward output : List ℕ)
    → HeaderAsRead limit (file_header_of (first_header file)) (picture_within limit transform file forward backward output) output

-- The header of a worked file (crates/theorems_picture/specs/Worked.antt): an I picture, two macroblocks wide and one high; the next record starts at
-- byte 11
abbrev pub WorkedHeader : Type 0
WorkedHeader = file_header_of (first_header two_slices) ≡ record { number = accepted; coding_type = type_i; width = 2; height = 1; records_start = 11 }
