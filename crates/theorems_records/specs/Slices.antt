-- The symbols that the strict reader reads from the records of some slices, put after a header.
use Rattle.std.specs.Prelude.{List, [], ◌∷◌, ◌++◌, ℕ}
use Rattle.std.specs.Int.{w16}
use Rattle.std.proofs.Common.{Fits}
use Rattle.math.specs.Joined.{joined}
use Rattle.symbols.specs.Macroblock.{Macroblock}
use Rattle.symbols.specs.Slice.{Slice}
use Rattle.decode_coefficients.specs.Matrices.{default_matrices}
use Rattle.format3_writer.specs.Records.{slice_bytes}
use Rattle.format3_picture.specs.Reconstruction.{Symbols}
use Rattle.theorems_records.specs.FieldFit.{MacroblockFitsFields}
use Rattle.theorems_records.specs.WellFormed.{WellFormedMacroblock, file_of}

-- ---- slices whose records are read back: any values, as long as signed numbers and those of two bytes fit their fields
pub record EncodableMacroblock (m : Macroblock) : Type 0 where
  pub whole : WellFormedMacroblock m
  pub fitting : MacroblockFitsFields m

pub data EncodableMacroblocks : List Macroblock → Type 0 where
  none : EncodableMacroblocks []
  more : {m : Macroblock} {rest : List Macroblock} → EncodableMacroblock m → EncodableMacroblocks rest → EncodableMacroblocks (m ∷ rest)

pub record EncodableSlice (s : Slice) : Type 0 where
  pub two_bytes : Fits w16 s.start
  pub each : EncodableMacroblocks s.macroblocks

pub data EncodableSlices : List Slice → Type 0 where
  none : EncodableSlices []
  more : {s : Slice} {rest : List Slice} → EncodableSlice s → EncodableSlices rest → EncodableSlices (s ∷ rest)

-- the file of their records, after a header with these bytes; no matrix record comes between
abbrev pub slices_file : List ℕ → List Slice → List ℕ
slices_file fields slices = file_of fields (joined slice_bytes slices)

-- these slices as a picture's symbols: no record loads a matrix
abbrev pub symbols_for : List Slice → Symbols
symbols_for slices = record { matrices = default_matrices; slices = slices }

-- the same slices up to some record: the last one may lack macroblocks, and the slices after it may be missing
pub data Beginning : List Slice → List Slice → Type 0 where
  none : {slices : List Slice} → Beginning [] slices
  last : {scale start : ℕ} (read missing : List Macroblock) {slices : List Slice}
      → Beginning (record { scale = scale; start = start; macroblocks = read } ∷ []) (record { scale = scale; start = start; macroblocks = read ++ missing } ∷ slices)
  more : {s : Slice} {read slices : List Slice} → Beginning read slices → Beginning (s ∷ read) (s ∷ slices)
