-- The strict reader reads from the records of some slices exactly these slices, up to the record that it refuses. Assumes nothing.
use mathlib.Core.Bool.{Bool, true, false}
use mathlib.Core.List.{List, [], ◌∷◌, ◌++◌, append_assoc, append-nil}
use mathlib.Core.Path.{◌≡◌, refl, sym, ap, subst, ◌∙◌}
use Prim.Native.Nat.{ℕ, zero, suc, ◌≤◌}
use native.Mathlib.Omega.{arith}
use borrow.Author.Tests.{eqb-true}
use lib.Dec.{eqb}
use lib.IntN.{ℤ}
use lib.ListN.{length, take, drop, length-append, length-drop}
use lib.Seq.{take_all, take-length}
use Rattle.std.specs.Prelude.{Result, Ok, Err, ⊤}
use mir.Syntax.{w16}
use mir.Val.{Fits}
use Rattle.math.specs.Joined.{joined}
use Rattle.refusals.specs.Refusal.{accepted, number_in}
use Rattle.refusals.specs.declared.Refusal.{Refusal}
use Rattle.refusals.specs.declared.Refusal.TheVariants.{BodyLength}
use Rattle.refusals.proofs.Laws.{never-accepted}
use Rattle.symbols.specs.Guard.{require◌else◌then◌}
use Rattle.symbols.specs.declared.header.Header.{Header}
use Rattle.symbols.specs.Macroblock.{Macroblock}
use Rattle.symbols.specs.Slice.{Slice}
use Rattle.decode_coefficients.specs.Matrices.{default_matrices}
use Rattle.decode_coefficients.specs.declared.matrices.Matrices.{Matrices}
use Rattle.decode_macroblock.specs.Compensation.{references}
use Rattle.format3_records.specs.Record.{header_kind}
use Rattle.format3_header.specs.Header.{header_of}
use Rattle.format3_header.specs.FileStart.{file_start_of}
use Rattle.format3_header.specs.declared.file_start.FileStart.{FileStart}
use Rattle.format3_header.specs.declared.file_start.RefusedAt.{RefusedAt}
use Rattle.format3_writer.specs.Records.{slice_record, macroblock_record, slice_records}
use Rattle.format3_writer.specs.Records as Records
use Rattle.format3_picture.specs.State.{start_state}
use Rattle.format3_picture.specs.declared.state.PictureState.{PictureState}
use Rattle.format3_picture.specs.Reconstruction.{reconstruction}
use Rattle.format3_picture.specs.Symbols.{Symbol, starts, continues, Gathered, put_in_front}
use Rattle.format3_picture.specs.Step.{step_at}
use Rattle.format3_picture.specs.Picture.{end_answer, refused_at, Answered, answered_by, followed, records_from, records_from_refusing, records_after, symbols_of, picture_within, picture_refusing}
use Rattle.theorems_records.proofs.Record.{record-after, record-before}
use Rattle.theorems_records.specs.WellFormed.{WellFormedRecord, of-slice, of-macroblock}
use Rattle.theorems_records.specs.Slices.{EncodableMacroblock, EncodableMacroblocks, EncodableSlices, slices_file, symbols_for, Beginning}
use Rattle.theorems_records.specs.Slices as Slices
use Rattle.theorems_records.proofs.Records.{step-well-formed, slice-step, macroblock-step}
use Rattle.theorems_records.proofs.Picture.{some_bytes, at-end, not-at-end, start_after, FileStartWellFramed, file-start-well-framed}

-- ---- the records of further macroblocks of a slice, and of the slices after it
data Rest : List Macroblock → List Slice → List ℕ → Type 0 where
  none : Rest [] [] []
  macroblock : {m : Macroblock} {further : List Macroblock} {slices : List Slice} {records : List ℕ} → EncodableMacroblock m → Rest further slices records → Rest (m ∷ further) slices (macroblock_record m ++ records)
  slice : (scale start : ℕ) {macroblocks : List Macroblock} {slices : List Slice} {records : List ℕ} → Fits w16 start → Rest macroblocks slices records
      → Rest [] (record { scale = scale; start = start; macroblocks = macroblocks } ∷ slices) (slice_record scale start ++ records)

macroblocks-rest : {macroblocks : List Macroblock} {slices : List Slice} {records : List ℕ} → EncodableMacroblocks macroblocks → Rest [] slices records → Rest macroblocks slices (joined macroblock_record macroblocks ++ records)
unfolding joined
macroblocks-rest Slices.none rest = rest
macroblocks-rest (Slices.more one others) rest = rw append_assoc (macroblock one (macroblocks-rest others rest))

abbrev records_for : List Slice → List ℕ
records_for slices = joined Records.slice_bytes slices

slices-rest : {slices : List Slice} → EncodableSlices slices → Rest [] slices (records_for slices)
unfolding joined slice_records
slices-rest Slices.none = none
slices-rest (Slices.more {s = s} fits others) = rw append_assoc (slice s.scale s.start fits.two_bytes (macroblocks-rest fits.each (slices-rest others)))

-- ---- what is gathered from them: some of the macroblocks, or all and then a beginning of the slices
data Begun (further : List Macroblock) (slices : List Slice) : List Macroblock → List Slice → Type 0 where
  within : (read missing : List Macroblock) → further ≡ read ++ missing → Begun further slices read []
  beyond : {read : List Slice} → Beginning read slices → Begun further slices further read

-- the records of what is gathered
abbrev records_gathered : Gathered → List ℕ
records_gathered g = joined macroblock_record g.further ++ records_for g.slices

one_more : (before first second rest : List ℕ) → (before ++ first) ++ (second ++ rest) ≡ before ++ ((first ++ second) ++ rest)
one_more before first second rest = append_assoc before first (second ++ rest) ∙ ap (λ (l : List ℕ). before ++ l) (sym (append_assoc first second rest))

module _ (file : List ℕ) where
  record Gathers (at : ℕ) (further : List Macroblock) (slices : List Slice) (q : Matrices) (r : Answered) : Type 0 where
    same : r.gathered.matrices ≡ q
    all : number_in r.answer.verdict ≡ accepted → (r.gathered.further ≡ further) × (r.gathered.slices ≡ slices)
    begun : Begun further slices r.gathered.further r.gathered.slices
    before : take r.answer.place file ≡ take at file ++ records_gathered r.gathered

  module _ (at : ℕ) {next : ℕ} {further : List Macroblock} {slices : List Slice} {p q : Matrices} {r : Answered} (same-matrices : p ≡ q) (g : Gathers next further slices p r) where
    continued : (m : Macroblock) → take next file ≡ take at file ++ macroblock_record m → Gathers at (m ∷ further) slices q (record { answer = r.answer; gathered = put_in_front (continues m) r.gathered })
    unfolding joined
    continued m taken = record {
      same = g.same ∙ same-matrices;
      all = λ e. (ap (λ (l : List Macroblock). m ∷ l) (g.all e).0, (g.all e).1);
      begun = go g.begun;
      before = g.before ∙ rw taken (one_more (take at file) (macroblock_record m) _ _);
    }
      where
        go : {read : List Macroblock} {behind : List Slice} → Begun further slices read behind → Begun (m ∷ further) slices (m ∷ read) behind
        go (within read missing e) = within (m ∷ read) missing (ap (λ (l : List Macroblock). m ∷ l) e)
        go (beyond b) = beyond b

    started : (scale start : ℕ) → take next file ≡ take at file ++ slice_record scale start
        → Gathers at [] (record { scale = scale; start = start; macroblocks = further } ∷ slices) q (record { answer = r.answer; gathered = put_in_front (starts (record { scale = scale; start = start })) r.gathered })
    unfolding joined slice_records
    started scale start taken = record {
      same = g.same ∙ same-matrices;
      all = λ e. (refl, rw ((g.all e).0, (g.all e).1));
      begun = beyond (go g.begun);
      before = g.before ∙ rw taken (one_more (take at file) (slice_record scale start) _ _);
    }
      where
        go : {read : List Macroblock} {behind : List Slice} → Begun further slices read behind
            → Beginning (record { scale = scale; start = start; macroblocks = read } ∷ behind) (record { scale = scale; start = start; macroblocks = further } ∷ slices)
        go (within read missing e) = rw e (Slices.last read missing)
        go (beyond b) = Slices.more b

  -- a refused record, or one that passes
  one-gathers : (v : Result ⊤ Refusal) (at made rows : ℕ) {further : List Macroblock} {slices : List Slice} {q : Matrices} (r : Answered) {read symbol : Symbol} → (v ≡ Ok tt → read ≡ symbol)
      → Gathers at further slices q (record { answer = r.answer; gathered = put_in_front symbol r.gathered })
      → Gathers at further slices q (followed v (λ refusal. answered_by (refused_at refusal at made rows) q) read r)
  unfolding joined
  one-gathers (Err refusal) at made rows {further} r same g =
      record { same = refl; all = λ e. absurd (never-accepted refusal e); begun = within [] further refl; before = sym (append-nil (take at file)) }
  one-gathers (Ok passed) at made rows r same g = rw (same refl) g

  end-gathers : (at : ℕ) (s : PictureState) (q : Matrices) → drop at file ≡ [] → Gathers at [] [] q (answered_by (end_answer (length file) s) q)
  unfolding joined
  end-gathers at s q stands = record {
    same = refl;
    all = λ e. (refl, refl);
    begun = beyond Slices.none;
    before = take-length file ∙ sym (take_all at file (omega (arith, length-drop at file, ap length stands))) ∙ sym (append-nil (take at file));
  }

  few-left : {first : List ℕ} (records : List ℕ) (n : ℕ) → WellFormedRecord first → length (first ++ records) ≤ suc n → length records ≤ n
  few-left {first} records n one few = omega (arith, length-append first records, some_bytes one)

  gathers : (n at : ℕ) (s : PictureState) (q : Matrices) {further : List Macroblock} {slices : List Slice} {records : List ℕ} → Rest further slices records → drop at file ≡ records → length records ≤ n
      → Gathers at further slices q (records_from file n at s q)
  unfolding records_from_refusing
  gathers n at s q none stands few = go n
    where
      go : (n : ℕ) → Gathers at [] [] q (records_from file n at s q)
      go zero = end-gathers at s q stands
      go (suc n) = rw (at-end file at stands) (end-gathers at s q stands)
  gathers zero at s q (macroblock {m} {records = records} one rest) stands few = absurd (omega (arith, length-append (macroblock_record m) records, some_bytes (of-macroblock one.whole)))
  gathers zero at s q (slice scale start {records = records} fits rest) stands few = absurd (omega (arith, length-append (slice_record scale start) records, some_bytes (of-slice scale start)))
  gathers (suc n) at s q (macroblock {m} {records = records} one rest) stands few =
      let t = step_at file at s q in
      let whole = of-macroblock one.whole in
      let taken = macroblock-step q s file at m records one.whole one.fitting stands in
      let later = gathers n t.end t.applied.state t.matrices rest (step-well-formed q s file at records whole stands).behind (few-left records n whole few) in
      rw (not-at-end file at records whole stands) (one-gathers t.applied.verdict at s.made s.rows _ taken.read (continued at taken.same-matrices later m taken.before))
  gathers (suc n) at s q (slice scale start {records = records} fits rest) stands few =
      let t = step_at file at s q in
      let whole = of-slice scale start in
      let taken = slice-step q s file at scale start records fits stands in
      let later = gathers n t.end t.applied.state t.matrices rest (step-well-formed q s file at records whole stands).behind (few-left records n whole few) in
      rw (not-at-end file at records whole stands) (one-gathers t.applied.verdict at s.made s.rows _ taken.read (started at taken.same-matrices later scale start taken.before))

-- ---- the file
seven-bytes : (fields : List ℕ) {h : Header} → header_of fields ≡ Ok h → length fields ≡ 7
unfolding header_of require◌else◌then◌
seven-bytes fields {h} e = go (eqb (length fields) 7) refl
  where
    go : (seven : Bool) → eqb (length fields) 7 ≡ seven → length fields ≡ 7
    go true t = eqb-true (length fields) 7 t
    go false t =
        let bad : Err BodyLength ≡ Ok h = rw t at e in
        let z : ◌≡◌ {A = ℕ} 0 1 = cc in
        absurd (omega arith)

-- no macroblock comes before the first slice
none_before : {slices read : List Slice} {further : List Macroblock} → Begun [] slices further read → further ≡ []
none_before (within [] missing e) = refl
none_before (within (m ∷ read) missing e) = absurd (let z : ◌≡◌ {A = ℕ} 0 1 = cc in omega arith)
none_before (beyond b) = refl

slices-begun : {slices read : List Slice} {further : List Macroblock} → Begun [] slices further read → Beginning read slices
slices-begun (within read missing e) = Slices.none
slices-begun (beyond b) = b

module _ (fields : List ℕ) (h : Header) (slices : List Slice) (legal : header_of fields ≡ Ok h) (fits : EncodableSlices slices) where
  abbrev file : List ℕ
  file = slices_file fields slices

  all-gathers : Gathers file (start_after fields) [] slices default_matrices (records_after file h (start_after fields))
  all-gathers = gathers file (length file) (start_after fields) (start_state h) default_matrices (slices-rest fits) stands (omega (arith, ap length stands, length-drop (start_after fields) file))
    where
      stands : drop (start_after fields) file ≡ records_for slices
      stands = record-after file 1 header_kind fields (records_for slices) refl

  -- where the file's header is read, its records start after the header
  header-read-at : (limit output forward backward : ℕ) {other : Header} {end : ℕ} → file_start_of limit file output forward backward ≡ Ok (record { header = other; end = end }) → FileStartWellFramed fields (Ok (record { header = other; end = end }))
  header-read-at limit output forward backward e = subst (FileStartWellFramed fields) e (file-start-well-framed fields (records_for slices) (seven-bytes fields legal) limit output forward backward)

  module _ (limit : ℕ) (transform : List ℤ → ℕ → ℤ) (forward backward output : List ℕ) where
    module _ (end : ℕ) (e : file_start_of limit file (length output) (length forward) (length backward) ≡ Ok (record { header = h; end = end })) where
      header-read-gathers : Gathers file (start_after fields) [] slices default_matrices (records_after file h end)
      header-read-gathers = rw (header-read-at limit (length output) (length forward) (length backward) e).1 all-gathers

      -- the slices that were read are a beginning of these, and they are all that comes before the answer's place
      pub reads-beginning : Beginning (symbols_of file h end).slices slices
      reads-beginning = slices-begun header-read-gathers.begun

      pub reads_before : take (picture_within limit transform file forward backward output).place file ≡ slices_file fields (symbols_of file h end).slices
      unfolding picture_refusing joined
      reads_before = rw e (header-read-gathers.before ∙ rw (record-before file 1 header_kind fields (records_for slices) refl, none_before header-read-gathers.begun))

      header-read-symbols : (picture_within limit transform file forward backward output).number ≡ accepted → symbols_of file h end ≡ symbols_for slices
      unfolding picture_refusing
      header-read-symbols whole = let g = header-read-gathers in rw (g.same, (g.all (rw e at whole)).1)

    -- ---- the file is accepted: its header of seven bytes is read, and exactly these slices are read
    module _ (whole : (picture_within limit transform file forward backward output).number ≡ accepted) where
      pub accepted-header-read : file_start_of limit file (length output) (length forward) (length backward) ≡ Ok (record { header = h; end = 11 })
      unfolding picture_refusing
      accepted-header-read = go (file_start_of limit file (length output) (length forward) (length backward)) refl
        where
          go : (x : Result FileStart RefusedAt) → file_start_of limit file (length output) (length forward) (length backward) ≡ x → file_start_of limit file (length output) (length forward) (length backward) ≡ Ok (record { header = h; end = 11 })
          go (Err refused) e = absurd (never-accepted refused.refusal (rw e at whole))
          go (Ok start) e =
              let stands = header-read-at limit (length output) (length forward) (length backward) e in
              let read : header_of fields ≡ Ok start.header = stands.0 in
              let same : start.header ≡ h = cc in
              let behind : start.end ≡ 11 = omega (arith, stands.1, seven-bytes fields legal) in
              rw (same, behind) at e

      pub accepted-symbols : symbols_of file h 11 ≡ symbols_for slices
      accepted-symbols = header-read-symbols 11 accepted-header-read whole

      pub accepted-output : (picture_within limit transform file forward backward output).output ≡ reconstruction transform (references forward backward) h (symbols_for slices) output
      unfolding picture_refusing
      accepted-output = rw (accepted-header-read, accepted-symbols)
