-- Writer and reader undo one another, and the header is read alike: each theorem cites its law. Assumes nothing.
use Rattle.theorems_picture.proofs.HeaderLaws.{number-at-most-8, as_read}
use Rattle.theorems_picture.proofs.Worked.{two-slices-header}
use Rattle.theorems_records.proofs.Bytes.{slice-bytes, macroblock-bytes}
use Rattle.theorems_records.proofs.Examples.{slice-legal, worked-legal, worked-body, worked-read}
use Rattle.theorems_records.proofs.RoundTrip.{slice-read-back, slice_written, macroblock-read-back, macroblock-written}
use Rattle.theorems.specs.Records.{EverySlice, EveryMacroblock, WorkedRecords, EveryHeader, WorkedHeader}

pub every-slice : EverySlice
every-slice s = record {
  bytes = slice-bytes s;
  read_back = slice-read-back;
  legal = λ body rest fit e. (slice_written s body rest fit e).legal;
  whole = λ body rest fit e. (slice_written s body rest fit e).whole;
  written = λ body rest fit e. (slice_written s body rest fit e).written;
}

pub every-macroblock : EveryMacroblock
every-macroblock c m = record {
  bytes = macroblock-bytes c m;
  read_back = macroblock-read-back;
  legal = λ body rest fit e. (macroblock-written c m body rest fit e).legal;
  whole = λ body rest fit e. (macroblock-written c m body rest fit e).whole;
  written = λ body rest fit e. (macroblock-written c m body rest fit e).written;
}

pub worked-records : WorkedRecords
worked-records = record { slice = slice-legal; legal = worked-legal; written = worked-body; read_back = worked-read }

pub every-header : EveryHeader
every-header limit transform file forward backward output =
    let read = as_read limit transform file forward backward output in
    record {
      number-at-most-8 = number-at-most-8 file;
      same_number = read.same_number;
      nothing-made = read.nothing-made;
      unchanged = read.unchanged;
      type-legal = read.type-legal;
      size-legal = read.size-legal;
      lengths-only = read.lengths-only;
      output-length = read.output-length;
    }

pub worked-header : WorkedHeader
worked-header = two-slices-header
