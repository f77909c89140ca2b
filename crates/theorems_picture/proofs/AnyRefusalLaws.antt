-- With any refusal for a backward misfit, the reader's picture is the same but for its number. Assumes nothing.
use mathlib.Core.Bool.{Bool, true, false, cond}
use mathlib.Core.List.{List}
use mathlib.Core.Path.{◌≡◌, refl}
use Prim.Native.Nat.{ℕ, zero, suc, ◌+◌}
use native.Mathlib.Omega.{arith}
use lib.Dec.{leb}
use lib.IntN.{ℤ}
use lib.ListN.{length}
use Rattle.std.specs.Prelude.{Result, Ok, Err, ⊤}
use Rattle.refusals.specs.Refusal.{accepted, number_of, number_in}
use Rattle.refusals.specs.declared.Refusal.{Refusal}
use Rattle.refusals.specs.declared.Refusal.TheVariants.{ForwardVectorOutside, BackwardVectorOutside}
use Rattle.refusals.proofs.Laws.{never-accepted}
use Rattle.symbols.specs.declared.header.Header.{Header}
use Rattle.decode_coefficients.specs.Matrices.{default_matrices}
use Rattle.decode_coefficients.specs.declared.matrices.Matrices.{Matrices}
use Rattle.decode_macroblock.specs.Compensation.{references}
use Rattle.decode_macroblock.specs.declared.fit.Direction.{Direction}
use Rattle.decode_macroblock.specs.declared.fit.Direction.TheVariants.{Forward, Backward}
use Rattle.format3_header.specs.declared.file_start.FileStart.{FileStart}
use Rattle.format3_header.specs.declared.file_start.RefusedAt.{RefusedAt}
use Rattle.format3_picture.specs.MacroblockRecord.{refused_record, record_fit, plan_applied_refusing}
use Rattle.format3_picture.specs.Picture.{Picture, is_complete, end_verdict, Answered, refused_at, end_answer, answered_by, followed, records_from, records_from_refusing, symbols_in, with_output, picture_within, picture_refusing}
use Rattle.format3_picture.specs.Reconstruction.{plan_for, reconstruction}
use Rattle.format3_picture.specs.State.{start_state}
use Rattle.format3_picture.specs.Step.{RecordStep, step_at, step_at_refusing}
use Rattle.format3_picture.specs.Symbols.{Symbol, symbol_at, Gathered, none_gathered, put_in_front}
use Rattle.format3_picture.specs.declared.state.PictureState.{PictureState}
use Rattle.theorems_picture.specs.Applies.{file_start}
use Rattle.theorems_picture.proofs.DecidingLaws.{NotByVector, MacroblockRead, step_by_vectors, DecidedBy, reading, vectors, decided-by}
use Rattle.theorems_picture.proofs.FileStartLaws.{StartListed, start-listed}

-- ---- a verdict that no vector causes is not 23
abbrev NotBackward : Result ⊤ Refusal → Type 0
NotBackward v = number_in v ≡ number_of BackwardVectorOutside → ⊥

accepted-not-backward : NotBackward (Ok tt)
accepted-not-backward e = omega (arith, e)

not-backward : (v : Result ⊤ Refusal) → NotByVector v → NotBackward v
not-backward (Ok passed) t = accepted-not-backward
not-backward (Err refusal) t = λ e. omega (arith, t.is-listed)

module _ (other : Refusal) where
  -- ---- a record: the same step, or a backward misfit with the one refusal and the other
  data StepAlike (s : PictureState) : RecordStep → RecordStep → Type 0 where
    same : (t : RecordStep) → NotBackward t.applied.verdict → StepAlike s t t
    differ : (q : Matrices) (end : ℕ)
        → StepAlike s (record { applied = refused_record BackwardVectorOutside s; matrices = q; end = end }) (record { applied = refused_record other s; matrices = q; end = end })

  module _ (file : List ℕ) (at : ℕ) (s : PictureState) (q : Matrices) where
    vectors-alike : (x : MacroblockRead file at s q) → StepAlike s (step_by_vectors file at s q BackwardVectorOutside x) (step_by_vectors file at s q other x)
    unfolding plan_applied_refusing
    vectors-alike x = go (record_fit s.header.size (plan_for s.header s.next s.slice x.symbols)) refl
      where
        go : (f : Result ⊤ Direction) → record_fit s.header.size (plan_for s.header s.next s.slice x.symbols) ≡ f
            → StepAlike s (step_by_vectors file at s q BackwardVectorOutside x) (step_by_vectors file at s q other x)
        go (Ok fits) e = rw e (same _ accepted-not-backward)
        go (Err Forward) e = rw e (same (record { applied = refused_record ForwardVectorOutside s; matrices = q; end = x.start + x.count }) (λ n. omega arith))
        go (Err Backward) e = rw e (differ q (x.start + x.count))

    step-alike : StepAlike s (step_at file at s q) (step_at_refusing other file at s q)
    step-alike = go (decided-by file at s q)
      where
        go : DecidedBy file at s q → StepAlike s (step_at file at s q) (step_at_refusing other file at s q)
        go (reading t reads e) = rw (e BackwardVectorOutside, e other) (same t (not-backward t.applied.verdict reads))
        go (vectors x e) = rw (e BackwardVectorOutside, e other) (vectors-alike x)

  -- ---- the records from an offset on
  data AnsweredAlike : Answered → Answered → Type 0 where
    same : (a : Answered) → NotBackward a.answer.verdict → AnsweredAlike a a
    differ : (place made rows : ℕ) (g : Gathered)
        → AnsweredAlike (record { answer = refused_at BackwardVectorOutside place made rows; gathered = g }) (record { answer = refused_at other place made rows; gathered = g })

  front-alike : (symbol : Symbol) {a b : Answered} → AnsweredAlike a b
      → AnsweredAlike (record { answer = a.answer; gathered = put_in_front symbol a.gathered }) (record { answer = b.answer; gathered = put_in_front symbol b.gathered })
  front-alike symbol (same a not) = same _ not
  front-alike symbol (differ place made rows g) = differ place made rows (put_in_front symbol g)

  end-alike : (n : ℕ) (s : PictureState) (q : Matrices) → AnsweredAlike (answered_by (end_answer n s) q) (answered_by (end_answer n s) q)
  end-alike n s q = same _ (go (is_complete s.turn))
    where
      go : (complete : Bool) → NotBackward (end_verdict complete)
      go true e = omega arith
      go false e = omega arith

  -- a step, and what the records after it give
  follow-alike : (at : ℕ) (s : PictureState) (q : Matrices) (symbol : Symbol) {t u : RecordStep} → StepAlike s t u
      → (x y : RecordStep → Answered) → ((v : RecordStep) → AnsweredAlike (x v) (y v))
      → AnsweredAlike
      (followed t.applied.verdict (λ refusal. answered_by (refused_at refusal at s.made s.rows) q) symbol (x t))
      (followed u.applied.verdict (λ refusal. answered_by (refused_at refusal at s.made s.rows) q) symbol (y u))
  follow-alike at s q symbol (same t not) x y later = go t.applied.verdict not (later t)
    where
      go : (v : Result ⊤ Refusal) → NotBackward v → AnsweredAlike (x t) (y t)
          → AnsweredAlike (followed v (λ refusal. answered_by (refused_at refusal at s.made s.rows) q) symbol (x t)) (followed v (λ refusal. answered_by (refused_at refusal at s.made s.rows) q) symbol (y t))
      go (Ok passed) n rest = front-alike symbol rest
      go (Err refusal) n rest = same _ n
  follow-alike at s q symbol (differ after end) x y later = differ at s.made s.rows (none_gathered q)

  records-alike : (file : List ℕ) (n at : ℕ) (s : PictureState) (q : Matrices) → AnsweredAlike (records_from file n at s q) (records_from_refusing other file n at s q)
  unfolding records_from_refusing
  records-alike file zero at s q = end-alike (length file) s q
  records-alike file (suc n) at s q =
      over (leb (length file) at)
      (follow-alike at s q (symbol_at file at s) (step-alike file at s q)
      (λ t. records_from file n t.end t.applied.state t.matrices)
      (λ t. records_from_refusing other file n t.end t.applied.state t.matrices)
      (λ t. records-alike file n t.end t.applied.state t.matrices))
    where
      over : {a b : Answered} (past : Bool) → AnsweredAlike a b → AnsweredAlike (cond past (answered_by (end_answer (length file) s) q) a) (cond past (answered_by (end_answer (length file) s) q) b)
      over true alike = end-alike (length file) s q
      over false alike = alike

  -- ---- the picture
  pub data PictureAlike : Picture → Picture → Type 0 where
    same : (p : Picture) → (p.number ≡ number_of BackwardVectorOutside → ⊥) → PictureAlike p p
    differ : (place made rows : ℕ) (output : List ℕ)
        → PictureAlike (with_output (refused_at BackwardVectorOutside place made rows) output) (with_output (refused_at other place made rows) output)

  module _ (limit : ℕ) (transform : List ℤ → ℕ → ℤ) (file forward backward output : List ℕ) where
    abbrev drawn : Header → Answered → Picture
    drawn h a = with_output a.answer (reconstruction transform (references forward backward) h (symbols_in a) output)

    drawn-alike : (h : Header) {a b : Answered} → AnsweredAlike a b → PictureAlike (drawn h a) (drawn h b)
    drawn-alike h (same a not) = same _ not
    drawn-alike h (differ place made rows g) = differ place made rows _

    pub picture-alike : PictureAlike (picture_within limit transform file forward backward output) (picture_refusing other limit transform file forward backward output)
    unfolding picture_refusing
    picture-alike = go (file_start limit file forward backward output) refl (start-listed limit file (length output) (length forward) (length backward))
      where
        go : (x : Result FileStart RefusedAt) → file_start limit file forward backward output ≡ x → StartListed limit file (file_start limit file forward backward output) → PictureAlike (picture_within limit transform file forward backward output) (picture_refusing other limit transform file forward backward output)
        go (Err stop) e l = let few = rw e at l in rw e (same (with_output (refused_at stop.refusal stop.place 0 0) output) few.not-backward)
        go (Ok start) e l = rw e (drawn-alike start.header (records-alike file (length file) start.end (start_state start.header) default_matrices))

  -- ---- what that means for each part
  pub counted-alike : {p o : Picture} → PictureAlike p o → p.number ≡ number_of BackwardVectorOutside → o.number ≡ number_of other
  counted-alike (same p not) e = absurd (not e)
  counted-alike (differ place made rows output) e = refl

  pub number-alike : {p o : Picture} → PictureAlike p o → (p.number ≡ number_of BackwardVectorOutside → ⊥) → o.number ≡ p.number
  number-alike (same p not) e = refl
  number-alike (differ place made rows output) e = absurd (e refl)

  pub place-alike : {p o : Picture} → PictureAlike p o → o.place ≡ p.place
  place-alike (same p not) = refl
  place-alike (differ place made rows output) = refl

  pub made_alike : {p o : Picture} → PictureAlike p o → o.made ≡ p.made
  made_alike (same p not) = refl
  made_alike (differ place made rows output) = refl

  pub rows_alike : {p o : Picture} → PictureAlike p o → o.rows ≡ p.rows
  rows_alike (same p not) = refl
  rows_alike (differ place made rows output) = refl

  pub output-alike : {p o : Picture} → PictureAlike p o → o.output ≡ p.output
  output-alike (same p not) = refl
  output-alike (differ place made rows output) = refl

  pub accepted-alike : {p o : Picture} → PictureAlike p o → p.number ≡ accepted → o.number ≡ accepted
  accepted-alike (same p not) e = e
  accepted-alike (differ place made rows output) e = absurd (never-accepted BackwardVectorOutside e)

  pub alike-accepted : {p o : Picture} → PictureAlike p o → o.number ≡ accepted → p.number ≡ accepted
  alike-accepted (same p not) e = e
  alike-accepted (differ place made rows output) e = absurd (never-accepted other e)
