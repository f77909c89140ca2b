-- What a record does: its turn is tested, then it is applied by its kind (document 01, refusals 3 to 6 and 9 to 18; request No. 1, 23).
use Rattle.std.specs.Prelude.{cond, false, List, [], ℕ, ◌+◌, eqb, take, drop, Result, Ok, Err, ⊤}
use Rattle.refusals.specs.declared.Refusal.{Refusal}
use Rattle.refusals.specs.declared.Refusal.TheVariants.{OutOfTurn, SliceStart, BackwardVectorOutside}
use Rattle.symbols.specs.Guard.{require◌else◌then◌}
use Rattle.symbols.specs.Parsed.{Parsed, parsed, refused}
use Rattle.symbols.specs.declared.slice.SliceHeader.{SliceHeader}
use Rattle.decode_coefficients.specs.declared.matrices.Matrices.{Matrices}
use Rattle.decode_state.specs.State.{reset_slice}
use Rattle.format3_records.specs.Record.{record_of, matrix_kind, slice_kind}
use Rattle.format3_records.specs.Turn.{in_turn, turn_after}
use Rattle.format3_records.specs.declared.record.Record.{Record}
use Rattle.format3_matrices.specs.Matrix.{matrix_verdict, loaded_with, now_loaded}
use Rattle.format3_macroblock.specs.Slice.{slice_of}
use Rattle.format3_picture.specs.declared.state.PictureState.{PictureState}
use Rattle.format3_picture.specs.MacroblockRecord.{Applied, refused_record, macroblock_applied_refusing}

-- a record that changes the state and makes no macroblock
abbrev pub passed_record : PictureState → Applied
passed_record s = record { verdict = Ok tt; state = s; macroblocks = [] }

-- a matrix record: loads its matrix
abbrev pub with_matrix : PictureState → List ℕ → PictureState
with_matrix s body = record {
  header = s.header;
  loaded = now_loaded body s.loaded;
  turn = turn_after matrix_kind false;
  next = s.next;
  made = s.made;
  rows = s.rows;
  slice = s.slice;
}

unfoldable pub matrix_applied : PictureState → List ℕ → Applied
matrix_applied s body = go (matrix_verdict body s.loaded)
  where
    go : Result ⊤ Refusal → Applied
    go (Err refusal) = refused_record refusal s
    go (Ok passed) = passed_record (with_matrix s body)

-- a slice record: resets the slice's state
abbrev pub with_slice : PictureState → ℕ → PictureState
with_slice s scale = record {
  header = s.header;
  loaded = s.loaded;
  turn = turn_after slice_kind false;
  next = s.next;
  made = s.made;
  rows = s.rows;
  slice = reset_slice scale;
}

-- "11 slice start not the next address"
unfoldable pub slice_started : PictureState → SliceHeader → Applied
slice_started s l =
    require eqb l.start s.next else refused_record SliceStart s then
    passed_record (with_slice s l.scale)

abbrev pub slice_started_from : PictureState → Parsed SliceHeader → Applied
slice_started_from s (parsed l rest) = slice_started s l
slice_started_from s (refused refusal) = refused_record refusal s

abbrev pub slice_applied : PictureState → List ℕ → Applied
slice_applied s body = slice_started_from s (slice_of body)

-- the matrices in effect after a record that passes; after a refused one they are not used
abbrev pub matrices_after : ℕ → List ℕ → Matrices → Matrices
matrices_after kind body q = cond (eqb kind matrix_kind) (loaded_with body q) q

-- the step over the record at an offset: its result, the matrices in effect after it if it passes, and where the next record starts
pub record RecordStep : Type 0 where
  pub applied : Applied
  pub matrices : Matrices
  pub end : ℕ

-- ---- `Refusing`: with any refusal for a backward misfit. The reader's own follow, with 23
module _ (backward_refusal : Refusal) where
  -- a record: its turn (5), then what its kind does
  unfoldable pub record_applied_refusing : Matrices → PictureState → ℕ → List ℕ → Applied
  record_applied_refusing q s kind body =
      require in_turn s.turn kind else refused_record OutOfTurn s then
      cond (eqb kind matrix_kind) (matrix_applied s body)
      (cond (eqb kind slice_kind) (slice_applied s body)
      (macroblock_applied_refusing backward_refusal q s body))

  -- a whole record with this body
  abbrev pub step_over_refusing : PictureState → Matrices → ℕ → List ℕ → ℕ → RecordStep
  step_over_refusing s q kind body end = record { applied = record_applied_refusing q s kind body; matrices = matrices_after kind body q; end = end }

  unfoldable pub step_at_refusing : List ℕ → ℕ → PictureState → Matrices → RecordStep
  step_at_refusing file at s q = go (record_of file at)
    where
      go : Result Record Refusal → RecordStep
      go (Err refusal) = record { applied = refused_record refusal s; matrices = q; end = at }
      go (Ok found) = step_over_refusing s q found.kind (take found.length (drop found.start file)) (found.start + found.length)

abbrev pub record_applied : Matrices → PictureState → ℕ → List ℕ → Applied
record_applied = record_applied_refusing BackwardVectorOutside

abbrev pub step_at : List ℕ → ℕ → PictureState → Matrices → RecordStep
step_at = step_at_refusing BackwardVectorOutside
