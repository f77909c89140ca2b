-- Laws of the entry: an accepted slice has its records written, and a refused one leaves the buffer as it was. Assumes nothing.
use mathlib.Core.List.{List}
use mathlib.Core.Path.{◌≡◌, refl, ap}
use Prim.Native.Nat.{ℕ}
use lib.ListN.{length}
use Rattle.std.specs.Prelude.{Result, Ok, Err}
use borrow.Author.Tests.{leb-true, le-leb}
use Rattle.refusals.specs.Refusal.{accepted}
use Rattle.refusals.specs.declared.Refusal.{Refusal}
use Rattle.refusals.specs.declared.Refusal.TheVariants.{RecordsLength}
use Rattle.refusals.proofs.Laws.{never-accepted}
use Rattle.symbols.specs.Guard.{require◌else◌then◌}
use Rattle.symbols.specs.Parsed.{parsed, refused}
use Rattle.symbols.specs.Header.{header_with}
use Rattle.symbols.specs.declared.header.Header.{Header}
use Rattle.symbols.specs.declared.header.HeaderFields.{HeaderFields}
use Rattle.symbols.specs.Slice.{Slice}
use Rattle.symbols.proofs.Guard.{require-all}
use Rattle.format3_writer.specs.Records.{slice_bytes}
use Rattle.mpeg1_slice.specs.Read.{Read}
use Rattle.mpeg1_slice.specs.Slice.{first_bit, raw_slice_of}
use Rattle.mpeg1_reader.specs.Answer.{answer_number, answer_written, RawSliceOutcome, accepted_with, fitted, read_outcome, header_outcome, raw_slice_outcome}
use Rattle.theorems_records.specs.Ended.{AcceptedSlice, Ended}

module _ (fields : HeaderFields) (bytes buffer : List ℕ) where
  read-ended : (h : Header) → header_with fields ≡ Ok h → (x : Read Slice) → raw_slice_of h bytes ≡ x → Ended fields bytes buffer (read_outcome x buffer)
  unfolding fitted
  read-ended h legal (refused reason) e = Ended.refused reason.refusal reason.at
  read-ended h legal (parsed slice p) e =
      require-all (Ended fields bytes buffer) _ _ _ (Ended.refused RecordsLength first_bit) λ t.
      Ended.accepted (record { header = h; legal = legal; slice = slice; end = p; is = e; room = leb-true (length (slice_bytes slice)) (length buffer) t })

  header-ended : (a : Result Header Refusal) → header_with fields ≡ a → Ended fields bytes buffer (header_outcome a bytes buffer)
  header-ended (Err refusal) e = Ended.refused refusal first_bit
  header-ended (Ok h) e = read-ended h e (raw_slice_of h bytes) refl

  pub ended : Ended fields bytes buffer (raw_slice_outcome fields bytes buffer)
  unfolding raw_slice_outcome
  ended = header-ended (header_with fields) refl

  -- ---- a refused slice: nothing is written
  refused-outcome : (answer_number (raw_slice_outcome fields bytes buffer).answer ≡ accepted → ⊥) → ((raw_slice_outcome fields bytes buffer).buffer ≡ buffer) × (answer_written (raw_slice_outcome fields bytes buffer).answer ≡ 0)
  refused-outcome other = go (raw_slice_outcome fields bytes buffer) ended other
    where
      go : (o : RawSliceOutcome) → Ended fields bytes buffer o → (answer_number o.answer ≡ accepted → ⊥) → (o.buffer ≡ buffer) × (answer_written o.answer ≡ 0)
      go o (Ended.refused refusal p) n = (refl, refl)
      go o (Ended.accepted t) n = absurd (n refl)

  -- rules out an entry that writes records into the buffer as it reads
  pub refused-untouched : (answer_number (raw_slice_outcome fields bytes buffer).answer ≡ accepted → ⊥) → (raw_slice_outcome fields bytes buffer).buffer ≡ buffer
  refused-untouched other = (refused-outcome other).0

  pub refused-none-written : (answer_number (raw_slice_outcome fields bytes buffer).answer ≡ accepted → ⊥) → answer_written (raw_slice_outcome fields bytes buffer).answer ≡ 0
  refused-none-written other = (refused-outcome other).1

  -- ---- an accepted slice
  pub accepted-is-slice : answer_number (raw_slice_outcome fields bytes buffer).answer ≡ accepted → AcceptedSlice fields bytes buffer
  accepted-is-slice number = go (raw_slice_outcome fields bytes buffer) ended number
    where
      go : (o : RawSliceOutcome) → Ended fields bytes buffer o → answer_number o.answer ≡ accepted → AcceptedSlice fields bytes buffer
      go o (Ended.refused refusal p) n = absurd (never-accepted refusal n)
      go o (Ended.accepted t) n = t

  -- rules out a count of anything other than the records
  pub accepted-slice-written : (t : AcceptedSlice fields bytes buffer) → raw_slice_outcome fields bytes buffer ≡ accepted_with (slice_bytes t.slice) t.end buffer
  unfolding raw_slice_outcome fitted require◌else◌then◌
  accepted-slice-written t = rw (t.legal, t.is, le-leb (length (slice_bytes t.slice)) (length buffer) t.room)

  pub accepted-slice-accepted : AcceptedSlice fields bytes buffer → answer_number (raw_slice_outcome fields bytes buffer).answer ≡ accepted
  accepted-slice-accepted t = ap (λ (o : RawSliceOutcome). answer_number o.answer) (accepted-slice-written t)
