-- The strict reader never answers 3, 4 or 6 to records that the writer wrote, put after a header. Assumes nothing.
use mathlib.Core.Bool.{Bool, true, false, cond}
use mathlib.Core.List.{List, [], ◌++◌}
use mathlib.Core.Logic.{inl, inr}
use mathlib.Core.Path.{◌≡◌, refl, ap}
use Prim.Native.Nat.{ℕ, zero, suc, ◌+◌, ◌≤◌}
use native.Mathlib.Omega.{arith}
use borrow.Author.Tests.{le-leb, lt-leb, eq-eqb}
use lib.Dec.{leb}
use lib.IntN.{ℤ}
use lib.ListN.{length, take, drop, length-append, length-drop}
use Rattle.std.specs.Prelude.{Result, Ok, Err, ⊤}
use Rattle.math.specs.Joined.{joined}
use Rattle.refusals.specs.Refusal.{number_of, number_in}
use Rattle.refusals.specs.declared.Refusal.{Refusal}
use Rattle.refusals.specs.declared.Refusal.TheVariants.{FileEnds}
use Rattle.symbols.specs.Guard.{require◌else◌then◌}
use Rattle.symbols.specs.Header.{header_with}
use Rattle.symbols.specs.declared.header.Header.{Header}
use Rattle.symbols.specs.declared.header.HeaderFields.{HeaderFields}
use Rattle.symbols.specs.Macroblock.{Macroblock}
use Rattle.symbols.proofs.Guard.{require-all}
use Rattle.decode_coefficients.specs.Matrices.{default_matrices}
use Rattle.decode_coefficients.specs.declared.matrices.Matrices.{Matrices}
use Rattle.format3_records.specs.Record.{header_kind, record_of}
use Rattle.format3_header.specs.Header.{fields_of, header_of}
use Rattle.format3_header.specs.Lengths.{caller_verdict}
use Rattle.format3_header.specs.FileStart.{first_record, first_header, file_start_of}
use Rattle.format3_header.specs.declared.file_start.FileStart.{FileStart}
use Rattle.format3_header.specs.declared.file_start.RefusedAt.{RefusedAt}
use Rattle.format3_writer.specs.Bytes.{big_endian_bytes}
use Rattle.format3_writer.specs.Records.{record_head, record_bytes, macroblock_record, slice_records}
use Rattle.format3_writer.proofs.Laws.Lengths.{FewPairs}
use Rattle.format3_picture.specs.State.{start_state}
use Rattle.format3_picture.specs.declared.state.PictureState.{PictureState}
use Rattle.format3_picture.specs.Step.{step_at}
use Rattle.format3_picture.specs.Symbols.{Symbol, symbol_at}
use Rattle.format3_picture.specs.Picture.{is_complete, refused_at, Answered, answered_by, followed, records_from, records_from_refusing, picture_within, picture_refusing}
use Rattle.format3_picture.proofs.CallerLaws.{CallerRefusal, RefusedByCaller, caller-refusal}
use Rattle.theorems_records.specs.WellFramed.{WellFramed}
use Rattle.theorems_records.specs.FieldFit.{Matching}
use Rattle.theorems_records.proofs.Framed.{framed}
use Rattle.theorems_records.proofs.Macroblock.{matching-short}
use Rattle.theorems_records.proofs.Record.{record-shown, record-body, record-after}
use Rattle.theorems_records.specs.WellFormed.{WellFormedRecord, of-slice, of-macroblock, WellFormedRecords, WellFormedMacroblock, WellFormedMacroblocks, file_of}
use Rattle.theorems_records.specs.WellFormed as Whole
use Rattle.theorems_records.proofs.Records.{VerdictFramed, step-well-formed}

-- ---- the records
end_framed : (complete : Bool) → WellFramed (number_in (cond {A = Result ⊤ Refusal} complete (Ok tt) (Err FileEnds)))
end_framed true = framed _ refl
end_framed false = framed _ refl

-- a record has at least three bytes
pub some_bytes : {first : List ℕ} → WellFormedRecord first → 1 ≤ length first
unfolding record_bytes record_head big_endian_bytes
some_bytes (of-slice scale start) = omega arith
some_bytes (of-macroblock whole) = omega arith

followed-framed : (v : Result ⊤ Refusal) (at made rows : ℕ) (q : Matrices) (symbol : Symbol) (rest : Answered) → VerdictFramed v → WellFramed (number_in rest.answer.verdict)
    → WellFramed (number_in (followed v (λ refusal. answered_by (refused_at refusal at made rows) q) symbol rest).answer.verdict)
followed-framed (Ok passed) at made rows q symbol rest verdict next = next
followed-framed (Err refusal) at made rows q symbol rest verdict next = verdict

module _ (file : List ℕ) where
  -- where nothing is left, or something
  pub at-end : (at : ℕ) → drop at file ≡ [] → leb (length file) at ≡ true
  at-end at stands = le-leb (length file) at (omega (arith, length-drop at file, ap length stands))

  pub not-at-end : (at : ℕ) {first : List ℕ} (rest : List ℕ) → WellFormedRecord first → drop at file ≡ first ++ rest → leb (length file) at ≡ false
  not-at-end at {first} rest one stands = lt-leb (length file) at (omega (arith, length-drop at file, ap length stands, length-append first rest, some_bytes one))

  records-framed : (n at : ℕ) (s : PictureState) (q : Matrices) {records : List ℕ} → WellFormedRecords records → drop at file ≡ records → WellFramed (number_in (records_from file n at s q).answer.verdict)
  unfolding records_from_refusing
  records-framed zero at s q whole stands = end_framed (is_complete s.turn)
  records-framed (suc n) at s q Whole.none stands = rw (at-end at stands) (end_framed (is_complete s.turn))
  records-framed (suc n) at s q (Whole.more {rest = rest} one others) stands =
      let t = step_at file at s q in
      let whole = step-well-formed q s file at rest one stands in
      rw (not-at-end at rest one stands) (followed-framed t.applied.verdict at s.made s.rows q (symbol_at file at s) _ whole.verdict (records-framed n t.end t.applied.state t.matrices others whole.behind))

-- ---- the file's start: its version, and a header of seven bytes
-- where the records start
abbrev pub start_after : List ℕ → ℕ
start_after fields = 4 + length fields

abbrev pub FileStartWellFramed : List ℕ → Result FileStart RefusedAt → Type 0
FileStartWellFramed fields (Ok start) = (header_of fields ≡ Ok start.header) × (start.end ≡ start_after fields)
FileStartWellFramed fields (Err refused) = WellFramed (number_of refused.refusal)

abbrev HeaderFramed : Result Header Refusal → Type 0
HeaderFramed (Ok h) = Unit {0}
HeaderFramed (Err refusal) = WellFramed (number_of refusal)

numbers-framed : (numbers : HeaderFields) → HeaderFramed (header_with numbers)
unfolding header_with
numbers-framed numbers = require-all HeaderFramed _ _ _ (framed _ refl) λ good. tt

header-framed : (fields : List ℕ) → length fields ≡ 7 → HeaderFramed (header_of fields)
unfolding header_of require◌else◌then◌
header-framed fields seven = rw (eq-eqb (length fields) 7 seven) (numbers-framed (fields_of fields))

caller-framed : (limit : ℕ) (h : Header) (v : Result ⊤ Refusal) → RefusedByCaller limit h v → VerdictFramed v
caller-framed limit h (Ok passed) c = tt
caller-framed limit h (Err refusal) c = go c
  where
    go : CallerRefusal limit h refusal → WellFramed (number_of refusal)
    go (inl (same, more)) = rw same (framed _ refl)
    go (inr (low, high)) = record { not-cut = λ e. omega (arith, low, e); known-kind = λ e. omega (arith, low, e); whole-body = λ e. omega (arith, low, e) }

module _ (fields records : List ℕ) (seven : length fields ≡ 7) where
  abbrev file : List ℕ
  file = file_of fields records

  first-framed : FileStartWellFramed fields (first_header file)
  unfolding first_header first_record require◌else◌then◌ record_bytes record_head big_endian_bytes
  first-framed = go (header_of (take (length fields) (drop 4 file))) refl (rw (record-body file 1 header_kind fields records refl) (header-framed fields seven))
    where
      long : (n : ℕ) → n ≤ 4 → leb n (length file) ≡ true
      long n h = le-leb n (length file) (omega arith)

      shown : record_of file 1 ≡ Ok (record { kind = header_kind; start = 4; length = length fields })
      shown = record-shown file 1 header_kind fields records refl refl (omega (arith, seven))

      go : (a : Result Header Refusal) → header_of (take (length fields) (drop 4 file)) ≡ a → HeaderFramed a → FileStartWellFramed fields (first_header file)
      go (Err refusal) e framed = rw (long 1 (omega arith), long 2 (omega arith), shown, e) framed
      go (Ok h) e framed = rw (long 1 (omega arith), long 2 (omega arith), shown, e) (rw (record-body file 1 header_kind fields records refl) at e, refl)

  pub file-start-well-framed : (limit output forward backward : ℕ) → FileStartWellFramed fields (file_start_of limit file output forward backward)
  unfolding file_start_of
  file-start-well-framed limit output forward backward = go (first_header file) refl first-framed
    where
      lengths : (start : FileStart) → first_header file ≡ Ok start → FileStartWellFramed fields (Ok start) → (v : Result ⊤ Refusal) → caller_verdict limit start.header output forward backward ≡ v → VerdictFramed v
          → FileStartWellFramed fields (file_start_of limit file output forward backward)
      lengths start e stands (Err refusal) l framed = rw (e, l) framed
      lengths start e stands (Ok passed) l framed = rw (e, l) stands

      go : (x : Result FileStart RefusedAt) → first_header file ≡ x → FileStartWellFramed fields x → FileStartWellFramed fields (file_start_of limit file output forward backward)
      go (Err refused) e framed = rw e framed
      go (Ok start) e stands =
          let verdict = caller_verdict limit start.header output forward backward in
          lengths start e stands verdict refl (caller-framed limit start.header verdict (caller-refusal limit start.header output forward backward))

  -- the strict reader never answers 3, 4 or 6 to records that the writer wrote, put after any header: rules out a writer that cuts a record,
  -- counts its bytes or its pairs wrongly, or leaves out a field
  pub picture-framed : (limit : ℕ) (transform : List ℤ → ℕ → ℤ) (forward backward output : List ℕ) → WellFormedRecords records → WellFramed (picture_within limit transform file forward backward output).number
  unfolding picture_refusing
  picture-framed limit transform forward backward output whole = go (file_start_of limit file (length output) (length forward) (length backward)) refl (file-start-well-framed limit (length output) (length forward) (length backward))
    where
      go : (x : Result FileStart RefusedAt) → file_start_of limit file (length output) (length forward) (length backward) ≡ x → FileStartWellFramed fields x → WellFramed (picture_within limit transform file forward backward output).number
      go (Err refused) e framed = rw e framed
      go (Ok start) e stands = rw (e, stands.1) (records-framed file (length file) (start_after fields) (start_state start.header) default_matrices whole (record-after file 1 header_kind fields records refl))

-- ---- the records of a slice
macroblocks-whole : {macroblocks : List Macroblock} → WellFormedMacroblocks macroblocks → WellFormedRecords (joined macroblock_record macroblocks)
unfolding joined
macroblocks-whole Whole.none = Whole.none
macroblocks-whole (Whole.more one others) = Whole.more (of-macroblock one) (macroblocks-whole others)

pub slice-whole : (scale start : ℕ) {macroblocks : List Macroblock} → WellFormedMacroblocks macroblocks → WellFormedRecords (slice_records scale start macroblocks)
unfolding slice_records
slice-whole scale start whole = Whole.more (of-slice scale start) (macroblocks-whole whole)

pub macroblock-whole : (m : Macroblock) → Matching m → FewPairs m.blocks → WellFormedMacroblock m
macroblock-whole m matching few = record { matching = matching; short = matching-short m matching few }
