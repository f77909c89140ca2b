-- The answer of `read_slice`, and its buffer afterwards (request No. 2).
use Rattle.std.specs.Prelude.{cond, List, ◌++◌, ℕ, leb, length, drop, Result, Ok, Err}
use Rattle.refusals.specs.Refusal.{accepted, number_of}
use Rattle.refusals.specs.declared.Refusal.{Refusal}
use Rattle.symbols.specs.Guard.{require◌else◌then◌}
use Rattle.symbols.specs.Parsed.{parsed, refused}
use Rattle.symbols.specs.Header.{header_with}
use Rattle.symbols.specs.declared.header.Header.{Header}
use Rattle.symbols.specs.declared.header.HeaderFields.{HeaderFields}
use Rattle.symbols.specs.Slice.{Slice}
use Rattle.format3_writer.specs.Records.{slice_bytes}
use Rattle.mpeg1_bits.specs.declared.BitPosition.{BitPosition}
use Rattle.mpeg1_slice.specs.declared.refused.RefusedAt.{RefusedAt}
use Rattle.mpeg1_slice.specs.Read.{Read}
use Rattle.mpeg1_slice.specs.Slice.{first_bit, raw_slice_of}
use Rattle.mpeg1_reader.specs.declared.entry.PictureParameters.{PictureParameters}
use Rattle.mpeg1_reader.specs.declared.entry.ReadSlice.{ReadSlice}

-- "Five given numbers; the full-pel flags don't matter to reading": they fill a header, with both flags 0
abbrev pub given_fields : PictureParameters → HeaderFields
given_fields given = record {
  width = given.width;
  height = given.height;
  coding_type = given.coding_type;
  full_pel_forward = 0;
  forward_f_code = given.forward_f_code;
  full_pel_backward = 0;
  backward_f_code = given.backward_f_code;
}

-- a number as a byte of a header: a larger one is no number of a legal header
unfoldable pub byte_given : ℕ → Result ℕ Refusal
byte_given number = cond (leb number 255) (Ok number) (Err Refusal.Header)

-- how much was written and where the unread rest starts, or the refusal and where it happened
abbrev pub RawSliceAnswer : Type 0
RawSliceAnswer = Result ReadSlice RefusedAt

-- the number of an answer: 0, or that of its refusal
abbrev pub answer_number : RawSliceAnswer → ℕ
answer_number (Ok read) = accepted
answer_number (Err refused_at) = number_of refused_at.refusal

-- "On every refusal written is 0"
abbrev pub answer_written : RawSliceAnswer → ℕ
answer_written (Ok read) = read.written
answer_written (Err refused_at) = 0

-- the byte and the bit where the refused code or the unread rest starts
abbrev pub answer_byte : RawSliceAnswer → ℕ
answer_byte (Ok read) = read.end.byte
answer_byte (Err refused_at) = refused_at.at.byte

abbrev pub answer_bit : RawSliceAnswer → ℕ
answer_bit (Ok read) = read.end.bit
answer_bit (Err refused_at) = refused_at.at.bit

pub record RawSliceOutcome : Type 0 where
  pub answer : RawSliceAnswer
  pub buffer : List ℕ

-- "On every refusal .. the buffer is untouched"
abbrev pub refused_answer : Refusal → BitPosition → RawSliceAnswer
refused_answer refusal p = Err (record { refusal = refusal; at = p })

abbrev pub refused_outcome : Refusal → BitPosition → List ℕ → RawSliceOutcome
refused_outcome refusal p buffer = record { answer = refused_answer refusal p; buffer = buffer }

-- "Accepted: byte and bit where the unread rest starts (byte = length, bit 0 if nothing is left)"
abbrev pub accepted_answer : ℕ → BitPosition → RawSliceAnswer
accepted_answer written p = Ok (record { written = written; end = p })

-- "accepted, what lies past the records is untouched"
abbrev pub accepted_with : List ℕ → BitPosition → List ℕ → RawSliceOutcome
accepted_with records p buffer = record { answer = accepted_answer (length records) p; buffer = records ++ drop (length records) buffer }

-- "26 only for a slice that is otherwise accepted; byte and bit 0"
unfoldable pub fitted : List ℕ → BitPosition → List ℕ → RawSliceOutcome
fitted records p buffer = require leb (length records) (length buffer) else refused_outcome Refusal.RecordsLength first_bit buffer then accepted_with records p buffer

abbrev pub read_outcome : Read Slice → List ℕ → RawSliceOutcome
read_outcome (parsed slice p) buffer = fitted (slice_bytes slice) p buffer
read_outcome (refused reason) buffer = refused_outcome reason.refusal reason.at buffer

-- "A wrong one is 8 (the header's own predicate, over numbers), tested first: written, byte, bit 0"
abbrev pub header_outcome : Result Header Refusal → List ℕ → List ℕ → RawSliceOutcome
header_outcome (Err refusal) bytes buffer = refused_outcome refusal first_bit buffer
header_outcome (Ok h) bytes buffer = read_outcome (raw_slice_of h bytes) buffer

unfoldable pub raw_slice_outcome : HeaderFields → List ℕ → List ℕ → RawSliceOutcome
raw_slice_outcome fields bytes buffer = header_outcome (header_with fields) bytes buffer
