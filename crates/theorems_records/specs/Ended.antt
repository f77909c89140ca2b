-- How a call of the entry ends: the slice is refused, or it is accepted and its records are written.
use Rattle.std.specs.Prelude.{List, ◌≡◌, ℕ, ◌≤◌, length, Ok}
use Rattle.refusals.specs.declared.Refusal.{Refusal}
use Rattle.symbols.specs.Parsed.{parsed}
use Rattle.symbols.specs.Header.{header_with}
use Rattle.symbols.specs.declared.header.Header.{Header}
use Rattle.symbols.specs.declared.header.HeaderFields.{HeaderFields}
use Rattle.symbols.specs.Slice.{Slice}
use Rattle.format3_writer.specs.Records.{slice_bytes}
use Rattle.mpeg1_bits.specs.declared.BitPosition.{BitPosition}
use Rattle.mpeg1_slice.specs.Slice.{raw_slice_of}
use Rattle.mpeg1_reader.specs.Answer.{RawSliceOutcome, refused_outcome, accepted_with}

-- the given numbers are legal, the slice is read whole, and its records fit the buffer
pub record AcceptedSlice (fields : HeaderFields) (bytes buffer : List ℕ) : Type 0 where
  pub header : Header
  pub legal : header_with fields ≡ Ok header
  pub slice : Slice
  pub end : BitPosition
  pub is : raw_slice_of header bytes ≡ parsed slice end
  pub room : length (slice_bytes slice) ≤ length buffer

-- a refused slice leaves the buffer as it was
pub data Ended (fields : HeaderFields) (bytes buffer : List ℕ) : RawSliceOutcome → Type 0 where
  refused : (refusal : Refusal) (p : BitPosition) → Ended fields bytes buffer (refused_outcome refusal p buffer)
  accepted : (t : AcceptedSlice fields bytes buffer) → Ended fields bytes buffer (accepted_with (slice_bytes t.slice) t.end buffer)
