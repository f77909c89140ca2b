-- Slices that were read from bytes fit their records' fields. Assumes nothing.
use mathlib.Core.List.{List}
use Rattle.symbols.specs.Slice.{Slice}
use Rattle.symbols.proofs.Parsed.{all-at}
use Rattle.symbols.proofs.Laws.Header.{made-within}
use Rattle.theorems_records.specs.Slices.{EncodableSlices}
use Rattle.theorems_records.specs.Slices as Slices
use Rattle.theorems_records.specs.Read.{AllRead, none, more}
use Rattle.theorems_records.proofs.Whole.{slice_of}

pub slices-fit : {slices : List Slice} → AllRead slices → EncodableSlices slices
slices-fit none = Slices.none
slices-fit (more given {h} bytes legal e others) =
    let k = all-at (slice_of h bytes) e in
    Slices.more (record { two_bytes = k.start ((made-within given).within h legal); each = k.each }) (slices-fit others)
