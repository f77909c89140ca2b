-- Request No. 2: each theorem cites its law. Assumes nothing.
use mathlib.Core.Path.{ap}
use Prim.Native.Nat.{◌≤◌}
use native.Mathlib.Omega.{arith}
use lib.ListN.{length}
use Rattle.symbols.proofs.Parsed.{all-at}
use Rattle.format3_writer.specs.Records.{slice_bytes}
use Rattle.mpeg1_reader.specs.Answer.{RawSliceOutcome}
use Rattle.mpeg1_reader.proofs.Laws.Bounds.{slice-short}
use Rattle.theorems_records.proofs.Slices as Laws
use Rattle.theorems_records.proofs.Ended.{refused-untouched, refused-none-written, accepted-is-slice, accepted-slice-accepted, accepted-slice-written}
use Rattle.theorems_records.proofs.Read.{slices-fit}
use Rattle.theorems_records.proofs.Whole.{accepted-framed}
use Rattle.theorems_records.proofs.WorkedSlices.{worked, one-slice-read}
use Rattle.theorems_records.proofs.WorkedPicture.{one-header, one-slice-accepted}
use Rattle.theorems.specs.Request2.{SliceAcceptedExactly, RefusedUntouched, AcceptedWritten, RecordsBounded, BufferLongEnough, AcceptedWellFramed, RawSlicesReadAll, RawSlicesReadBeginning, WorkedSlices, WorkedPicture}

pub slice-accepted-exactly : SliceAcceptedExactly
slice-accepted-exactly given bytes buffer = (accepted-is-slice given bytes buffer, accepted-slice-accepted given bytes buffer)

pub untouched : RefusedUntouched
untouched given bytes buffer refused = record { untouched = refused-untouched given bytes buffer refused; none_written = refused-none-written given bytes buffer refused }

pub accepted-written : AcceptedWritten
accepted-written given bytes buffer h slice end legal is room =
    let all = accepted-slice-written given bytes buffer (record { header = h; legal = legal; slice = slice; end = end; is = is; room = room }) in
    record { answer = ap (λ (o : RawSliceOutcome). o.answer) all; records = ap (λ (o : RawSliceOutcome). o.buffer) all }

pub records-bounded : RecordsBounded
records-bounded h bytes slice end is = (all-at (slice-short h bytes) is).short

pub buffer-long-enough : BufferLongEnough
buffer-long-enough n given bytes buffer h slice end legal is few room =
    let short = records-bounded h bytes slice end is in
    let fits : length (slice_bytes slice) ≤ length buffer = omega (arith, short, few, room) in
    accepted-slice-accepted given bytes buffer (record { header = h; legal = legal; slice = slice; end = end; is = is; room = fits })

pub accepted-is-framed : AcceptedWellFramed
accepted-is-framed = accepted-framed

pub raw-slices-read-all : RawSlicesReadAll
raw-slices-read-all fields h slices legal read limit transform forward backward output whole = record {
  header_read = Laws.accepted-header-read fields h slices legal (slices-fit read) limit transform forward backward output whole;
  symbols = Laws.accepted-symbols fields h slices legal (slices-fit read) limit transform forward backward output whole;
  equal = Laws.accepted-output fields h slices legal (slices-fit read) limit transform forward backward output whole;
}

pub raw-slices-read-beginning : RawSlicesReadBeginning
raw-slices-read-beginning fields h slices legal read limit transform forward backward output end e = record {
  beginning = Laws.reads-beginning fields h slices legal (slices-fit read) limit transform forward backward output end e;
  before = Laws.reads_before fields h slices legal (slices-fit read) limit transform forward backward output end e;
}

pub worked-slices : WorkedSlices
worked-slices = worked

pub worked-picture : WorkedPicture
worked-picture = record { legal = one-header; read = one-slice-read; whole = one-slice-accepted }
