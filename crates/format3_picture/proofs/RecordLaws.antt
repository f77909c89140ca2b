-- The outcomes of a record: a refusal, a matrix or a slice that passes, or macroblocks that fit. Assumes nothing.
use mathlib.Core.Bool.{Bool, true, false}
use mathlib.Core.List.{List, []}
use mathlib.Core.Path.{◌≡◌, refl, sym, ap, subst}
use Prim.Native.Nat.{ℕ, ◌+◌}
use native.Mathlib.Omega.{arith}
use lib.Dec.{T, eqb, eqb→eq}
use lib.ListN.{length, take, drop}
use Rattle.std.specs.Prelude.{Result, Ok, Err, ⊤}
use Rattle.std.specs.Result.{result_and}
use Rattle.refusals.specs.declared.Refusal.{Refusal}
use Rattle.refusals.specs.declared.Refusal.TheVariants.{OutOfTurn, BackwardVectorOutside}
use Rattle.symbols.specs.Guard.{require◌else◌then◌}
use Rattle.symbols.specs.Parsed.{Parsed, parsed, refused}
use Rattle.symbols.specs.declared.slice.SliceHeader.{SliceHeader}
use Rattle.symbols.specs.Macroblock.{Macroblock}
use Rattle.symbols.proofs.Guard.{require-all}
use Rattle.symbols.proofs.Parsed.{All, here}
use Rattle.decode_coefficients.specs.declared.matrices.Matrices.{Matrices}
use Rattle.decode_macroblock.specs.declared.fit.Direction.{Direction}
use Rattle.decode_macroblock.specs.declared.fit.Direction.TheVariants.{Forward, Backward}
use Rattle.decode_macroblock.specs.Rows.{rows_of}
use Rattle.decode_state.specs.Plan.{macroblocks_of_plan}
use Rattle.format3_records.specs.Record.{matrix_kind, slice_kind, record_of}
use Rattle.format3_records.specs.Turn.{in_turn}
use Rattle.format3_records.specs.declared.record.Record.{Record}
use Rattle.format3_records.specs.declared.turn.Turn.{Turn}
use Rattle.format3_matrices.specs.Matrix.{matrix_verdict, loaded_with}
use Rattle.format3_matrices.proofs.Laws.Matrix.{passed-long}
use Rattle.format3_macroblock.specs.Slice.{legal_scale, slice_of}
use Rattle.format3_macroblock.specs.Macroblock.{macroblock_of}
use Rattle.format3_macroblock.proofs.Laws.Slice.{slice-legal}
use Rattle.format3_macroblock.proofs.Laws.Macroblock.{MacroblockLegal, macroblock-legal}
use Rattle.format3_picture.specs.declared.state.PictureState.{PictureState}
use Rattle.format3_picture.specs.Reconstruction.{plan_for, coefficients_for}
use Rattle.format3_picture.specs.MacroblockRecord.{Applied, context_of, refused_record, record_fit, state_after, plan_applied, plan_applied_refusing, symbols_applied_refusing, parsed_applied, macroblock_applied, macroblock_applied_refusing, outcome_of}
use Rattle.format3_picture.specs.Step.{passed_record, with_matrix, matrix_applied, with_slice, slice_started, slice_started_from, slice_applied, record_applied, record_applied_refusing, matrices_after, RecordStep, step_over_refusing, step_at, step_at_refusing}
use Rattle.format3_picture.specs.Symbols.{Symbol, starts, continues, none, slice_symbol, macroblock_symbol, symbol_of, symbol_at}

-- ---- a record's turn and kind, and so what it does, whatever the refusal of a backward misfit
module _ (q : Matrices) (s : PictureState) (kind : ℕ) (body : List ℕ) where
  pub data ByKind : Type 0 where
    out-of-turn : ((refusal : Refusal) → record_applied_refusing refusal q s kind body ≡ refused_record OutOfTurn s) → ByKind
    is-matrix : in_turn s.turn kind ≡ true → eqb kind matrix_kind ≡ true → ((refusal : Refusal) → record_applied_refusing refusal q s kind body ≡ matrix_applied s body) → ByKind
    is_slice : in_turn s.turn kind ≡ true → eqb kind matrix_kind ≡ false → eqb kind slice_kind ≡ true
        → ((refusal : Refusal) → record_applied_refusing refusal q s kind body ≡ slice_applied s body) → ByKind
    is-neither : in_turn s.turn kind ≡ true → eqb kind matrix_kind ≡ false → eqb kind slice_kind ≡ false
        → ((refusal : Refusal) → record_applied_refusing refusal q s kind body ≡ macroblock_applied_refusing refusal q s body) → ByKind

  pub by_kind : ByKind
  unfolding record_applied_refusing require◌else◌then◌
  by_kind = go (in_turn s.turn kind) (eqb kind matrix_kind) (eqb kind slice_kind) refl refl refl
    where
      go : (turn matrix slice : Bool) → in_turn s.turn kind ≡ turn → eqb kind matrix_kind ≡ matrix → eqb kind slice_kind ≡ slice → ByKind
      go false matrix slice e f g = out-of-turn (λ refusal. rw e)
      go true true slice e f g = is-matrix e f (λ refusal. rw (e, f))
      go true false true e f g = is_slice e f g (λ refusal. rw (e, f, g))
      go true false false e f g = is-neither e f g (λ refusal. rw (e, f, g))

-- a record whose macroblocks fit
abbrev pub made_record : Matrices → PictureState → Macroblock → Applied
made_record q s m =
    let p = plan_for s.header s.next s.slice m in
    let macroblocks = macroblocks_of_plan p (coefficients_for q s.slice m) in
    record { verdict = Ok tt; state = state_after s p (rows_of macroblocks); macroblocks = macroblocks }

-- the outcomes of a record: the symbol that it gives, and its result
pub data StepCases (q : Matrices) (s : PictureState) : Symbol → RecordStep → Type 0 where
  refuses : {symbol : Symbol} {after : Matrices} {end : ℕ} (refusal : Refusal) → StepCases q s symbol (record { applied = refused_record refusal s; matrices = after; end = end })
  matrix-passes : {after : Matrices} {end : ℕ} → in_turn s.turn matrix_kind ≡ true → (body : List ℕ) → StepCases q s none (record { applied = passed_record (with_matrix s body); matrices = after; end = end })
  slice-starts : {end : ℕ} → in_turn s.turn slice_kind ≡ true → (header : SliceHeader) → legal_scale header.scale ≡ true → header.start ≡ s.next
      → StepCases q s (starts header) (record { applied = passed_record (with_slice s header.scale); matrices = q; end = end })
  macroblocks-made : {end : ℕ} → (s.turn ≡ Turn.Header → ⊥) → (m : Macroblock) → MacroblockLegal (context_of s) m → StepCases q s (continues m) (record { applied = made_record q s m; matrices = q; end = end })

module _ (q : Matrices) (s : PictureState) (end : ℕ) where
  -- the result of a record, with the matrices after it
  abbrev takes : Applied → Matrices → RecordStep
  takes a after = record { applied = a; matrices = after; end = end }

  matrix-way : in_turn s.turn matrix_kind ≡ true → (body : List ℕ) (after : Matrices) → StepCases q s none (takes (matrix_applied s body) after)
  unfolding matrix_applied
  matrix-way turn body after = go (matrix_verdict body s.loaded) refl
    where
      go : (v : Result ⊤ Refusal) → matrix_verdict body s.loaded ≡ v → StepCases q s none (takes (matrix_applied s body) after)
      go (Ok passed) e = rw e (matrix-passes turn body)
      go (Err refusal) e = rw e (refuses refusal)

  slice-way : in_turn s.turn slice_kind ≡ true → (body : List ℕ) → StepCases q s (slice_symbol (slice_of body)) (takes (slice_applied s body) q)
  unfolding slice_started
  slice-way turn body = go (slice_of body) (slice-legal body)
    where
      go : (x : Parsed SliceHeader) → All (λ l rest. legal_scale l.scale ≡ true) x → StepCases q s (slice_symbol x) (takes (slice_started_from s x) q)
      go (refused refusal) l = refuses refusal
      go (parsed l rest) (here legal) =
          require-all (λ (a : Applied). StepCases q s (starts l) (takes a q)) _ _ _ (refuses _) λ start.
          slice-starts turn l legal (eqb→eq l.start s.next (subst T (sym start) tt))

  module _ (begun : s.turn ≡ Turn.Header → ⊥) where
    fit-way : (m : Macroblock) → MacroblockLegal (context_of s) m → StepCases q s (continues m) (takes (plan_applied s (plan_for s.header s.next s.slice m) (coefficients_for q s.slice m)) q)
    unfolding plan_applied_refusing
    fit-way m legal = go (record_fit s.header.size (plan_for s.header s.next s.slice m)) refl
      where
        go : (f : Result ⊤ Direction) → record_fit s.header.size (plan_for s.header s.next s.slice m) ≡ f
            → StepCases q s (continues m) (takes (plan_applied s (plan_for s.header s.next s.slice m) (coefficients_for q s.slice m)) q)
        go (Ok fits) e = rw e (macroblocks-made begun m legal)
        go (Err Forward) e = rw e (refuses _)
        go (Err Backward) e = rw e (refuses _)

    macroblock-way : (body : List ℕ) → StepCases q s (macroblock_symbol (macroblock_of (context_of s) body)) (takes (macroblock_applied q s body) q)
    unfolding symbols_applied_refusing
    macroblock-way body = go (macroblock_of (context_of s) body) (macroblock-legal (context_of s) body)
      where
        go : (x : Parsed Macroblock) → All (λ m rest. MacroblockLegal (context_of s) m) x → StepCases q s (macroblock_symbol x) (takes (parsed_applied q s x) q)
        go (refused refusal) l = refuses refusal
        go (parsed m rest) (here legal) = fit-way m legal

  -- after the header, only a matrix or a slice is in turn
  not_first : (turn : Turn) (kind : ℕ) → in_turn turn kind ≡ true → eqb kind matrix_kind ≡ false → eqb kind slice_kind ≡ false → turn ≡ Turn.Header → ⊥
  not_first turn kind e f g h = let z : ◌≡◌ {A = Bool} false true = rw (f, g) at (rw h at e) in subst T (sym z) tt

  applied-cases : (kind : ℕ) (body : List ℕ) → StepCases q s (symbol_of s kind body) (takes (record_applied q s kind body) (matrices_after kind body q))
  applied-cases kind body = go (by_kind q s kind body)
    where
      go : ByKind q s kind body → StepCases q s (symbol_of s kind body) (takes (record_applied q s kind body) (matrices_after kind body q))
      go (out-of-turn does) = rw (does BackwardVectorOutside) (refuses _)
      go (is-matrix turn e does) =
          rw (does BackwardVectorOutside, e) (matrix-way (subst (λ (k : ℕ). in_turn s.turn k ≡ true) (eqb→eq kind matrix_kind (subst T (sym e) tt)) turn) body (loaded_with body q))
      go (is_slice turn e f does) = rw (does BackwardVectorOutside, e, f) (slice-way (subst (λ (k : ℕ). in_turn s.turn k ≡ true) (eqb→eq kind slice_kind (subst T (sym f) tt)) turn) body)
      go (is-neither turn e f does) = rw (does BackwardVectorOutside, e, f) (macroblock-way (not_first s.turn kind turn e f) body)

pub step-cases : (file : List ℕ) (at : ℕ) (s : PictureState) (q : Matrices) → StepCases q s (symbol_at file at s) (step_at file at s q)
unfolding step_at_refusing symbol_at
step-cases file at s q = go (record_of file at) refl
  where
    go : (r : Result Record Refusal) → record_of file at ≡ r → StepCases q s (symbol_at file at s) (step_at file at s q)
    go (Err refusal) e = rw e (refuses refusal)
    go (Ok found) e = rw e (applied-cases q s (found.start + found.length) found.kind (take found.length (drop found.start file)))

-- ---- which records make no macroblock
pub matrix-makes-none : (s : PictureState) (body : List ℕ) → (matrix_applied s body).macroblocks ≡ []
unfolding matrix_applied
matrix-makes-none s body = go (matrix_verdict body s.loaded) refl
  where
    go : (v : Result ⊤ Refusal) → matrix_verdict body s.loaded ≡ v → (matrix_applied s body).macroblocks ≡ []
    go (Ok passed) e = rw e
    go (Err refusal) e = rw e

pub slice-makes-none : (s : PictureState) (body : List ℕ) → (slice_applied s body).macroblocks ≡ []
unfolding slice_started
slice-makes-none s body = go (slice_of body)
  where
    go : (x : Parsed SliceHeader) → (slice_started_from s x).macroblocks ≡ []
    go (parsed l rest) = require-all (λ (a : Applied). a.macroblocks ≡ []) _ _ _ refl λ start. refl
    go (refused refusal) = refl

pub refused-makes-none : (q : Matrices) (s : PictureState) (file : List ℕ) (at : ℕ) (refusal : Refusal) → (step_at file at s q).applied.verdict ≡ Err refusal → (step_at file at s q).applied.macroblocks ≡ []
refused-makes-none q s file at refusal = go (step-cases file at s q)
  where
    go : {symbol : Symbol} {t : RecordStep} → StepCases q s symbol t → t.applied.verdict ≡ Err refusal → t.applied.macroblocks ≡ []
    go (refuses other) e = refl
    go (matrix-passes turn body) e = refl
    go (slice-starts turn header legal start) e = refl
    go (macroblocks-made begun m legal) e = let z : ◌≡◌ {A = ℕ} 0 1 = cc in absurd (omega arith)

-- ---- a record at an offset, by what is found there
module _ (refusal : Refusal) (file : List ℕ) (at : ℕ) (s : PictureState) (q : Matrices) where
  pub step-over : {found : Record} → record_of file at ≡ Ok found
      → step_at_refusing refusal file at s q ≡ step_over_refusing refusal s q found.kind (take found.length (drop found.start file)) (found.start + found.length)
  unfolding step_at_refusing
  step-over e = rw e

  pub no_step : {found : Refusal} → record_of file at ≡ Err found → step_at_refusing refusal file at s q ≡ record { applied = refused_record found s; matrices = q; end = at }
  unfolding step_at_refusing
  no_step e = rw e

module _ (file : List ℕ) (at : ℕ) (s : PictureState) (q : Matrices) where
  pub step-found : {found : Record} → record_of file at ≡ Ok found
      → step_at file at s q ≡ step_over_refusing BackwardVectorOutside s q found.kind (take found.length (drop found.start file)) (found.start + found.length)
  step-found e = step-over BackwardVectorOutside file at s q e

  pub step-unfound : {refusal : Refusal} → record_of file at ≡ Err refusal → step_at file at s q ≡ record { applied = refused_record refusal s; matrices = q; end = at }
  step-unfound e = no_step BackwardVectorOutside file at s q e

-- ---- what the code's answer says of a record
module _ (a : Applied) where
  pub outcome-refused : {refusal : Refusal} → outcome_of a ≡ Err refusal → a.verdict ≡ Err refusal
  outcome-refused {refusal} = go a.verdict
    where
      go : (v : Result ⊤ Refusal) → result_and v (Ok a.state) ≡ Err refusal → v ≡ Err refusal
      go (Ok passed) e = let z : ◌≡◌ {A = ℕ} 0 1 = cc in absurd (omega arith)
      go (Err other) e = let same : other ≡ refusal = cc in ap Err same

  pub outcome-passed : {s : PictureState} → outcome_of a ≡ Ok s → (a.verdict ≡ Ok tt) × (a.state ≡ s)
  outcome-passed {s} = go a.verdict
    where
      go : (v : Result ⊤ Refusal) → result_and v (Ok a.state) ≡ Ok s → (v ≡ Ok tt) × (a.state ≡ s)
      go (Ok passed) e = (refl, cc)
      go (Err other) e = let z : ◌≡◌ {A = ℕ} 0 1 = cc in absurd (omega arith)

-- ---- a matrix record that passes has the right length
pub matrix-long : (q : Matrices) (s : PictureState) (body : List ℕ) → (record_applied q s matrix_kind body).verdict ≡ Ok tt → length body ≡ 65
unfolding record_applied_refusing matrix_applied
matrix-long q s body = require-all (λ (a : Applied). a.verdict ≡ Ok tt → length body ≡ 65) _ _ _ (λ e. let z : ◌≡◌ {A = ℕ} 0 1 = cc in absurd (omega arith)) λ turn. go (matrix_verdict body s.loaded) refl
  where
    go : (v : Result ⊤ Refusal) → matrix_verdict body s.loaded ≡ v → (matrix_applied s body).verdict ≡ Ok tt → length body ≡ 65
    go (Ok passed) e = λ p. passed-long body s.loaded e
    go (Err refusal) e = rw e (λ p. let z : ◌≡◌ {A = ℕ} 0 1 = cc in absurd (omega arith))

-- ---- the body of a record that is found starts three bytes on
record Starts (at : ℕ) (r : Result Record Refusal) : Type 0 where
  starts : (found : Record) → r ≡ Ok found → found.start ≡ at + 3

refused-starts : {at : ℕ} {refusal : Refusal} → Starts at (Err refusal)
refused-starts = record { starts = λ found e. let z : ◌≡◌ {A = ℕ} 0 1 = cc in absurd (omega arith) }

pub found_after : (file : List ℕ) (at : ℕ) (found : Record) → record_of file at ≡ Ok found → found.start ≡ at + 3
unfolding record_of
found_after file at = whole.starts
  where
    whole : Starts at (record_of file at)
    whole =
        require-all (Starts at) _ _ _ refused-starts λ a.
        require-all (Starts at) _ _ _ refused-starts λ b.
        require-all (Starts at) _ _ _ refused-starts λ c.
        require-all (Starts at) _ _ _ refused-starts λ d.
        record { starts = λ found e. cc }
