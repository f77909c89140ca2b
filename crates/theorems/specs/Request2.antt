-- Request No. 2, raw slices: "Add a reader that turns the bytes of one slice, from its start code, into Format 3 slice and macroblock records in a
-- lent buffer, by the tables of Annex B."
--
-- The contract of `read_slice` says for every input that its answer and the buffer at exit are those of `raw_slice_outcome`
-- (crates/mpeg1_reader/specs/Answer.antt). `raw_slice_of` (crates/mpeg1_slice/specs/Slice.antt) is the syntax of a slice over its bits,
-- and `slice_bytes` (crates/format3_writer/specs/Records.antt) gives the records of a slice. `AcceptedSlice` and `AllRead`
-- (crates/theorems_records/specs) say that a slice, and that each of several, was read. `file_of` and `slices_file` put records after
-- a header, and `Beginning` says that slices agree with others up to some record (crates/theorems_records/specs).
use Rattle.std.specs.Prelude.{List, [], ◌∷◌, ◌++◌, ◌↔◌, ◌≡◌, ℕ, ◌+◌, ◌*◌, ◌≤◌, ℤ, length, take, drop, replicate, Ok}
use Rattle.refusals.specs.Refusal.{accepted}
use Rattle.symbols.specs.Parsed.{parsed}
use Rattle.symbols.specs.Header.{header_with}
use Rattle.symbols.specs.declared.header.Header.{Header}
use Rattle.symbols.specs.declared.header.HeaderFields.{HeaderFields}
use Rattle.symbols.specs.Slice.{Slice}
use Rattle.decode_coefficients.specs.Matrices.{default_matrices}
use Rattle.decode_macroblock.specs.Compensation.{references}
use Rattle.format3_header.specs.Header.{header_of}
use Rattle.format3_writer.specs.Records.{slice_bytes}
use Rattle.format3_picture.specs.Picture.{symbols_of, picture_within, picture_of}
use Rattle.format3_picture.specs.Reconstruction.{reconstruction}
use Rattle.mpeg1_bits.specs.declared.BitPosition.{BitPosition}
use Rattle.mpeg1_slice.specs.Slice.{raw_slice_of}
use Rattle.mpeg1_reader.specs.RecordLengths.{slice_record_bytes, max_macroblock_record_bytes}
use Rattle.mpeg1_reader.specs.Answer.{raw_slice_outcome, answer_number, answer_written}
use Rattle.theorems_records.specs.WellFramed.{WellFramed}
use Rattle.theorems_records.specs.WellFormed.{file_of}
use Rattle.theorems_records.specs.Slices.{slices_file, Beginning}
use Rattle.theorems_records.specs.Ended.{AcceptedSlice}
use Rattle.theorems_records.specs.Read.{AllRead}
use Rattle.theorems_records.specs.WorkedSlices.{slice_cases, outcomes, slice_expectations, one_macroblock, one_macroblock_fields, one_slice_symbols}
use Rattle.theorems_picture.specs.Applies.{file_start}

-- a slice is accepted exactly when the given numbers are legal, it is read whole, and its records fit the buffer
abbrev pub SliceAcceptedExactly : Type 0
SliceAcceptedExactly =
    (given : HeaderFields) (bytes buffer : List ℕ)
    → (answer_number (raw_slice_outcome given bytes buffer).answer ≡ accepted) ↔ AcceptedSlice given bytes buffer

-- "A refused slice leaves the buffer untouched", and no byte is written
pub record SliceRefused (given : HeaderFields) (bytes buffer : List ℕ) : Type 0 where
  pub untouched : (raw_slice_outcome given bytes buffer).buffer ≡ buffer
  pub none_written : answer_written (raw_slice_outcome given bytes buffer).answer ≡ 0

abbrev pub RefusedUntouched : Type 0
RefusedUntouched =
    (given : HeaderFields) (bytes buffer : List ℕ) → ¬ (answer_number (raw_slice_outcome given bytes buffer).answer ≡ accepted)
    → SliceRefused given bytes buffer

-- "an accepted one what lies past its records. The answer has the bytes written, and the byte and its bit, from 0 as read,
-- where .. the unread rest starts"
pub record SliceWritten (given : HeaderFields) (bytes buffer : List ℕ) (slice : Slice) (end : BitPosition) : Type 0 where
  pub answer : (raw_slice_outcome given bytes buffer).answer ≡ Ok (record { written = length (slice_bytes slice); end = end })
  pub records : (raw_slice_outcome given bytes buffer).buffer ≡ slice_bytes slice ++ drop (length (slice_bytes slice)) buffer

abbrev pub AcceptedWritten : Type 0
AcceptedWritten =
    (given : HeaderFields) (bytes buffer : List ℕ) (h : Header) (slice : Slice) (end : BitPosition)
    → header_with given ≡ Ok h → raw_slice_of h bytes ≡ parsed slice end → length (slice_bytes slice) ≤ length buffer
    → SliceWritten given bytes buffer slice end

-- how long the records are: 6 bytes for the slice, and at most 1,174 for each macroblock
abbrev pub RecordsBounded : Type 0
RecordsBounded =
    (h : Header) (bytes : List ℕ) (slice : Slice) (end : BitPosition) → raw_slice_of h bytes ≡ parsed slice end
    → length (slice_bytes slice) ≤ slice_record_bytes + length slice.macroblocks * max_macroblock_record_bytes

-- so a buffer for n macroblocks is never too short (26) for a slice that has at most n. A slice can have more macroblocks than its row or
-- its picture: only the strict reader refuses an address past the picture
abbrev pub BufferLongEnough : Type 0
BufferLongEnough =
    (n : ℕ) (given : HeaderFields) (bytes buffer : List ℕ) (h : Header) (slice : Slice) (end : BitPosition)
    → header_with given ≡ Ok h → raw_slice_of h bytes ≡ parsed slice end
    → length slice.macroblocks ≤ n → slice_record_bytes + n * max_macroblock_record_bytes ≤ length buffer
    → answer_number (raw_slice_outcome given bytes buffer).answer ≡ accepted

-- "into Format 3 slice and macroblock records": after a header of any seven bytes, the strict reader never answers 3, 4 or 6 to what was
-- written: no record is cut, of unknown kind, or too short or too long
abbrev pub AcceptedWellFramed : Type 0
AcceptedWellFramed =
    (given : HeaderFields) (bytes buffer : List ℕ) → answer_number (raw_slice_outcome given bytes buffer).answer ≡ accepted
    → (limit : ℕ) (transform : List ℤ → ℕ → ℤ) (fields forward backward output : List ℕ) → length fields ≡ 7
    → WellFramed (picture_within limit transform (file_of fields (take (answer_written (raw_slice_outcome given bytes buffer).answer) (raw_slice_outcome given bytes buffer).buffer)) forward backward output).number

-- these records stand for the slices: if the strict reader accepts the file of a header and of the records of slices that were read,
-- its symbols are exactly these slices with the default matrices, and its output is what clause 2.4.4 makes of them
pub record ReadsExactly (limit : ℕ) (transform : List ℤ → ℕ → ℤ) (fields : List ℕ) (h : Header) (slices : List Slice) (forward backward output : List ℕ) : Type 0 where
  pub header_read : file_start limit (slices_file fields slices) forward backward output ≡ Ok (record { header = h; end = 11 })
  pub symbols : symbols_of (slices_file fields slices) h 11 ≡ record { matrices = default_matrices; slices = slices }
  pub equal :
      (picture_within limit transform (slices_file fields slices) forward backward output).output
      ≡ reconstruction transform (references forward backward) h (record { matrices = default_matrices; slices = slices }) output

abbrev pub RawSlicesReadAll : Type 0
RawSlicesReadAll =
    (fields : List ℕ) (h : Header) (slices : List Slice) → header_of fields ≡ Ok h → AllRead slices
    → (limit : ℕ) (transform : List ℤ → ℕ → ℤ) (forward backward output : List ℕ)
    → (picture_within limit transform (slices_file fields slices) forward backward output).number ≡ accepted
    → ReadsExactly limit transform fields h slices forward backward output

-- if the header of such a file is read, whether the file is accepted or refused, the reader has read a beginning of these slices,
-- and the file up to the answer's place is exactly the file of that beginning
pub record ReadUpTo (limit : ℕ) (transform : List ℤ → ℕ → ℤ) (fields : List ℕ) (h : Header) (end : ℕ) (slices : List Slice) (forward backward output : List ℕ) : Type 0 where
  pub beginning : Beginning (symbols_of (slices_file fields slices) h end).slices slices
  pub before :
      take (picture_within limit transform (slices_file fields slices) forward backward output).place (slices_file fields slices)
      ≡ slices_file fields (symbols_of (slices_file fields slices) h end).slices

abbrev pub RawSlicesReadBeginning : Type 0
RawSlicesReadBeginning =
    (fields : List ℕ) (h : Header) (slices : List Slice) → header_of fields ≡ Ok h → AllRead slices
    → (limit : ℕ) (transform : List ℤ → ℕ → ℤ) (forward backward output : List ℕ) (end : ℕ) → file_start limit (slices_file fields slices) forward backward output ≡ Ok (record { header = h; end = end })
    → ReadUpTo limit transform fields h end slices forward backward output

-- Seventeen slices and their outcomes: each refusal 8, 24, 25 and 26, and slices that are accepted
abbrev pub WorkedSlices : Type 0
WorkedSlices = outcomes slice_cases ≡ slice_expectations slice_cases

-- One of them as the only slice of a picture, which the strict reader accepts: the hypotheses of `RawSlicesReadAll` can be met
pub record WorkedPicture : Type 0 where
  pub legal : header_of one_macroblock_fields ≡ Ok one_macroblock
  pub read : AllRead (one_slice_symbols ∷ [])
  pub whole : (transform : List ℤ → ℕ → ℤ) → (picture_of transform (slices_file one_macroblock_fields (one_slice_symbols ∷ [])) [] [] (replicate 384 7)).number ≡ accepted
