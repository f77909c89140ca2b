-- The symbols that records give (document 01, kinds 2 to 4): slices with their macroblocks, and the matrices in effect.
use Rattle.std.specs.Prelude.{cond, List, [], ◌∷◌, ℕ, eqb, take, drop, Result, Ok, Err}
use Rattle.refusals.specs.declared.Refusal.{Refusal}
use Rattle.symbols.specs.Parsed.{Parsed, parsed, refused}
use Rattle.symbols.specs.declared.slice.SliceHeader.{SliceHeader}
use Rattle.symbols.specs.Macroblock.{Macroblock}
use Rattle.symbols.specs.Slice.{Slice}
use Rattle.decode_coefficients.specs.declared.matrices.Matrices.{Matrices}
use Rattle.format3_records.specs.Record.{record_of, matrix_kind, slice_kind}
use Rattle.format3_records.specs.declared.record.Record.{Record}
use Rattle.format3_macroblock.specs.Slice.{slice_of}
use Rattle.format3_macroblock.specs.Macroblock.{macroblock_of}
use Rattle.format3_picture.specs.declared.state.PictureState.{PictureState}
use Rattle.format3_picture.specs.MacroblockRecord.{context_of}

-- ---- one record
-- a slice record starts a slice, a macroblock record continues it; any other record gives no symbol
pub data Symbol : Type 0 where
  starts : SliceHeader → Symbol
  continues : Macroblock → Symbol
  none : Symbol

-- the parsed symbol; a refused record gives none
abbrev pub slice_symbol : Parsed SliceHeader → Symbol
slice_symbol (parsed header rest) = starts header
slice_symbol (refused refusal) = none

abbrev pub macroblock_symbol : Parsed Macroblock → Symbol
macroblock_symbol (parsed m rest) = continues m
macroblock_symbol (refused refusal) = none

-- by kind, read in the state before it
abbrev pub symbol_of : PictureState → ℕ → List ℕ → Symbol
symbol_of s kind body =
    cond (eqb kind matrix_kind) none
    (cond (eqb kind slice_kind) (slice_symbol (slice_of body))
    (macroblock_symbol (macroblock_of (context_of s) body)))

-- the record at an offset
unfoldable pub symbol_at : List ℕ → ℕ → PictureState → Symbol
symbol_at file at s = go (record_of file at)
  where
    go : Result Record Refusal → Symbol
    go (Err refusal) = none
    go (Ok found) = symbol_of s found.kind (take found.length (drop found.start file))

-- ---- the records from a given one on
-- the macroblocks that continue the slice before these records, the slices that the records start, and the matrices after them.
-- "kind 2 before any slice" (5), so the last matrices apply to every macroblock
pub record Gathered : Type 0 where
  pub further : List Macroblock
  pub slices : List Slice
  pub matrices : Matrices

-- no record
abbrev pub none_gathered : Matrices → Gathered
none_gathered q = record { further = []; slices = []; matrices = q }

-- a slice's header, with the macroblocks read after it
abbrev pub slice_with : SliceHeader → List Macroblock → Slice
slice_with header macroblocks = record { scale = header.scale; start = header.start; macroblocks = macroblocks }

-- a record's symbol, put before those of the records after it
abbrev pub put_in_front : Symbol → Gathered → Gathered
put_in_front none g = g
put_in_front (starts header) g = record { further = []; slices = slice_with header g.further ∷ g.slices; matrices = g.matrices }
put_in_front (continues m) g = record { further = m ∷ g.further; slices = g.slices; matrices = g.matrices }
