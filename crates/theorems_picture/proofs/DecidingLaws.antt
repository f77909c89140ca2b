-- What decides on a record, whatever the refusal of a backward misfit: reading it or, if its symbols are legal, its vectors. Assumes nothing.
use mathlib.Core.Bool.{Bool, true, false}
use mathlib.Core.List.{List, [], ◌∷◌}
use mathlib.Core.Logic.{◌⊎◌, inl, inr}
use mathlib.Core.Path.{◌≡◌, refl, sym, ap, ◌∙◌, subst}
use Prim.Native.Nat.{ℕ, ◌+◌}
use native.Mathlib.Omega.{arith}
use lib.Dec.{T, eqb, eqb→eq}
use lib.ListN.{take, drop}
use Rattle.std.specs.Prelude.{Result, Ok, Err, ⊤}
use Rattle.refusals.specs.declared.Refusal.{Refusal}
use Rattle.refusals.specs.declared.Refusal.TheVariants.{OutOfTurn, ForwardVectorOutside, BackwardVectorOutside}
use Rattle.symbols.specs.Guard.{require◌else◌then◌}
use Rattle.symbols.specs.Parsed.{Parsed, parsed, refused}
use Rattle.symbols.specs.declared.slice.SliceHeader.{SliceHeader}
use Rattle.symbols.specs.Block.{Block}
use Rattle.symbols.specs.Macroblock.{Macroblock}
use Rattle.symbols.specs.MacroblockType.{is_intra}
use Rattle.symbols.proofs.Guard.{require-all}
use Rattle.symbols.proofs.Parsed.{All, here, none, all_then, all_any}
use Rattle.symbols.proofs.Refusals.{OfReading, refused-by}
use Rattle.decode_coefficients.specs.Dc.{starting_dc_pasts}
use Rattle.decode_coefficients.specs.declared.matrices.Matrices.{Matrices}
use Rattle.decode_macroblock.specs.declared.fit.Direction.{Direction}
use Rattle.decode_macroblock.specs.declared.fit.Direction.TheVariants.{Forward, Backward}
use Rattle.format3_records.specs.Record.{matrix_kind, slice_kind, macroblock_kind, record_of}
use Rattle.format3_records.specs.Turn.{in_turn}
use Rattle.format3_records.specs.declared.record.Record.{Record}
use Rattle.format3_records.specs.declared.turn.Turn.{Turn}
use Rattle.format3_matrices.specs.Matrix.{matrix_verdict}
use Rattle.format3_macroblock.specs.Blocks.{six_blocks_of}
use Rattle.format3_macroblock.specs.Slice.{slice_of}
use Rattle.format3_macroblock.specs.Macroblock.{macroblock_symbols_of, at_end, blocks_to_end_of, macroblock_of}
use Rattle.format3_macroblock.specs.declared.macroblock.MacroblockContext.{MacroblockContext}
use Rattle.format3_picture.specs.MacroblockRecord.{Applied, context_of, refused_record, record_fit, fit_verdict, plan_applied, plan_applied_refusing, symbols_applied_refusing, macroblock_applied_refusing}
use Rattle.format3_picture.specs.Reconstruction.{plan_for, coefficients_for}
use Rattle.format3_picture.specs.Step.{matrix_applied, slice_started, slice_started_from, slice_applied, record_applied_refusing, matrices_after, RecordStep, step_at, step_at_refusing}
use Rattle.format3_picture.specs.declared.state.PictureState.{PictureState}
use Rattle.format3_picture.proofs.RecordLaws.{ByKind, out-of-turn, is-matrix, is_slice, is-neither, by_kind, step-over, no_step}
use Rattle.theorems_picture.proofs.FileStartLaws.{NeitherEndNorVector, neither, of-reading}
use Rattle.theorems_picture.proofs.RefusalLaws.{of-slice, of-macroblock, VerdictOf, of-matrix, FoundOf, of-found}

-- ---- verdicts that no vector causes
abbrev pub NotByVector : Result ⊤ Refusal → Type 0
NotByVector (Ok passed) = T true
NotByVector (Err refusal) = NeitherEndNorVector refusal

module _ (s : PictureState) where
  matrix-reads : (body : List ℕ) → NotByVector (matrix_applied s body).verdict
  unfolding matrix_applied
  matrix-reads body = go (matrix_verdict body s.loaded) refl (of-matrix body s.loaded)
    where
      go : (v : Result ⊤ Refusal) → matrix_verdict body s.loaded ≡ v → VerdictOf v → NotByVector (matrix_applied s body).verdict
      go (Ok passed) e t = rw e tt
      go (Err refusal) e t = rw e (of-reading refusal t)

  slice-reads : (x : Parsed SliceHeader) → OfReading x → NotByVector (slice_started_from s x).verdict
  unfolding slice_started
  slice-reads (parsed l rest) t = require-all (λ (a : Applied). NotByVector a.verdict) _ _ _ (neither _ tt) λ start. tt
  slice-reads (refused refusal) (refused-by t) = of-reading refusal t

-- a macroblock is read to the end of its body
read-to-end : (c : MacroblockContext) (body : List ℕ) → All (λ m rest. rest ≡ []) (macroblock_of c body)
unfolding macroblock_of blocks_to_end_of
read-to-end c body =
    all_then (all_any (macroblock_symbols_of c body)) λ m rest t.
    all_then (all_then (all_any (six_blocks_of (is_intra m.macroblock_type) m.pattern (starting_dc_pasts c.dc m.increment) rest)) λ blocks left u. last blocks left) λ blocks left e.
    here e
  where
    last : (blocks : List Block) (left : List ℕ) → All {Reason = Refusal} (λ (a : List Block) rest. rest ≡ []) (at_end blocks left)
    last blocks [] = here refl
    last blocks (b ∷ left) = none

module _ (file : List ℕ) (at : ℕ) (s : PictureState) (q : Matrices) where
  -- a record in turn that is neither a matrix nor a slice, and its symbols, which are legal
  pub record MacroblockRead : Type 0 where
    pub kind : ℕ
    pub start : ℕ
    pub count : ℕ
    pub found : record_of file at ≡ Ok (record { kind = kind; start = start; length = count })
    pub in-turn : in_turn s.turn kind ≡ true
    pub no-matrix : eqb kind matrix_kind ≡ false
    pub no-slice : eqb kind slice_kind ≡ false
    pub symbols : Macroblock
    pub legal : macroblock_of (context_of s) (take count (drop start file)) ≡ parsed symbols []

  -- the step over it
  abbrev pub step_by_vectors : Refusal → MacroblockRead → RecordStep
  step_by_vectors refusal x = record {
    applied = plan_applied_refusing refusal s (plan_for s.header s.next s.slice x.symbols) (coefficients_for q s.slice x.symbols);
    matrices = q;
    end = x.start + x.count;
  }

  pub data DecidedBy : Type 0 where
    reading : (t : RecordStep) → NotByVector t.applied.verdict → ((refusal : Refusal) → step_at_refusing refusal file at s q ≡ t) → DecidedBy
    vectors : (x : MacroblockRead) → ((refusal : Refusal) → step_at_refusing refusal file at s q ≡ step_by_vectors refusal x) → DecidedBy

  module _ {kind start n : ℕ} (found : record_of file at ≡ Ok (record { kind = kind; start = start; length = n })) where
    abbrev body : List ℕ
    body = take n (drop start file)

    -- the step over the record, by what the record does
    abbrev step_with : Applied → RecordStep
    step_with a = record { applied = a; matrices = matrices_after kind body q; end = start + n }

    step-with : (refusal : Refusal) {a : Applied} → record_applied_refusing refusal q s kind body ≡ a → step_at_refusing refusal file at s q ≡ step_with a
    step-with refusal e = step-over refusal file at s q found ∙ ap (λ (a : Applied). step_with a) e

    by-reading : (a : Applied) → NotByVector a.verdict → ((refusal : Refusal) → record_applied_refusing refusal q s kind body ≡ a) → DecidedBy
    by-reading a v e = reading (step_with a) v (λ refusal. step-with refusal (e refusal))

    -- neither a matrix nor a slice: it is read as a macroblock
    module _ (turn : in_turn s.turn kind ≡ true) (f : eqb kind matrix_kind ≡ false) (g : eqb kind slice_kind ≡ false)
        (does : (refusal : Refusal) → record_applied_refusing refusal q s kind body ≡ macroblock_applied_refusing refusal q s body) where
      planned : {m : Macroblock} → macroblock_of (context_of s) body ≡ parsed m []
          → (refusal : Refusal) → record_applied_refusing refusal q s kind body ≡ plan_applied_refusing refusal s (plan_for s.header s.next s.slice m) (coefficients_for q s.slice m)
      unfolding symbols_applied_refusing
      planned p refusal = does refusal ∙ rw p

      by-symbols : (x : Parsed Macroblock) → OfReading x → All (λ m rest. rest ≡ []) x → macroblock_of (context_of s) body ≡ x → DecidedBy
      by-symbols (refused refusal) (refused-by t) ends p = by-reading (refused_record refusal s) (of-reading refusal t) (λ other. does other ∙ rw p)
      by-symbols (parsed m rest) t (here nothing) p =
          let x : MacroblockRead = record { kind = kind; start = start; count = n; found = found; in-turn = turn; no-matrix = f; no-slice = g; symbols = m; legal = p ∙ ap (parsed m) nothing } in
          vectors x (λ other. step-with other (planned x.legal other) ∙ rw f)

    in-file : DecidedBy
    in-file = go (by_kind q s kind body)
      where
        go : ByKind q s kind body → DecidedBy
        go (out-of-turn does) = by-reading (refused_record OutOfTurn s) (neither _ tt) does
        go (is-matrix turn f does) = by-reading (matrix_applied s body) (matrix-reads s body) does
        go (is_slice turn f g does) = by-reading (slice_applied s body) (slice-reads s (slice_of body) (of-slice body)) does
        go (is-neither turn f g does) = by-symbols turn f g does (macroblock_of (context_of s) body) (of-macroblock (context_of s) body) (read-to-end (context_of s) body) refl

  pub decided-by : DecidedBy
  decided-by = go (record_of file at) refl (of-found file at)
    where
      go : (r : Result Record Refusal) → record_of file at ≡ r → FoundOf r → DecidedBy
      go (Err refusal) e t =
          reading (record { applied = refused_record refusal s; matrices = q; end = at }) (of-reading refusal t) (λ other. no_step other file at s q e)
      go (Ok found) e t = in-file e

  -- ---- the verdict on the vectors of a macroblock
  abbrev pub vector_verdict : Macroblock → Result ⊤ Refusal
  vector_verdict m = fit_verdict (record_fit s.header.size (plan_for s.header s.next s.slice m))

  plan-verdict : (m : Macroblock) → (plan_applied s (plan_for s.header s.next s.slice m) (coefficients_for q s.slice m)).verdict ≡ vector_verdict m
  unfolding plan_applied_refusing
  plan-verdict m = go (record_fit s.header.size (plan_for s.header s.next s.slice m)) refl
    where
      go : (f : Result ⊤ Direction) → record_fit s.header.size (plan_for s.header s.next s.slice m) ≡ f
          → (plan_applied s (plan_for s.header s.next s.slice m) (coefficients_for q s.slice m)).verdict ≡ vector_verdict m
      go (Ok fits) e = rw e
      go (Err Forward) e = rw e
      go (Err Backward) e = rw e

  -- ---- a refused record: it can't be read, or a vector doesn't fit
  pub record RefusedByVector (refusal : Refusal) : Type 0 where
    pub read : MacroblockRead
    pub verdict : vector_verdict read.symbols ≡ Err refusal

  pub why-refused : (refusal : Refusal) → (step_at file at s q).applied.verdict ≡ Err refusal → NeitherEndNorVector refusal ⊎ RefusedByVector refusal
  why-refused refusal v = go decided-by
    where
      go : DecidedBy → NeitherEndNorVector refusal ⊎ RefusedByVector refusal
      go (reading t reads e) = inl (subst NotByVector (sym (ap (λ (u : RecordStep). u.applied.verdict) (e BackwardVectorOutside)) ∙ v) reads)
      go (vectors x e) = inr (record {
        read = x;
        verdict = sym (plan-verdict x.symbols) ∙ sym (ap (λ (u : RecordStep). u.applied.verdict) (e BackwardVectorOutside)) ∙ v;
      })

  -- a macroblock record in turn whose symbols are legal: its vectors decide
  pub vectors-decide : {start n : ℕ} {m : Macroblock} → record_of file at ≡ Ok (record { kind = macroblock_kind; start = start; length = n }) → in_turn s.turn macroblock_kind ≡ true
      → macroblock_of (context_of s) (take n (drop start file)) ≡ parsed m [] → (step_at file at s q).applied.verdict ≡ vector_verdict m
  unfolding record_applied_refusing require◌else◌then◌
  vectors-decide {start} {n} {m} found turn legal =
      ap (λ (u : RecordStep). u.applied.verdict) (step-with found BackwardVectorOutside (planned found turn refl refl (λ refusal. rw turn) legal BackwardVectorOutside)) ∙ plan-verdict m

  -- after the header, a record in turn that is neither a matrix nor a slice is a macroblock record
  pub is-macroblock : (x : MacroblockRead) → (s.turn ≡ Turn.Start → ⊥) → x.kind ≡ macroblock_kind
  is-macroblock x begun = go s.turn refl x.in-turn
    where
      go : (turn : Turn) → s.turn ≡ turn → in_turn turn x.kind ≡ true → x.kind ≡ macroblock_kind
      go Turn.Start e t = absurd (begun e)
      go Turn.Header e t = let z : ◌≡◌ {A = Bool} false true = rw (x.no-matrix, x.no-slice) at t in absurd (subst T (sym z) tt)
      go Turn.Slice e t = eqb→eq x.kind macroblock_kind (subst T (sym t) tt)
      go Turn.Macroblock e t = let u = rw x.no-slice at t in eqb→eq x.kind macroblock_kind (subst T (sym u) tt)
      go Turn.Complete e t = absurd (subst T (sym t) tt)

-- ---- the refusals of a misfit
abbrev pub OfVector : Refusal → Type 0
OfVector refusal = (refusal ≡ ForwardVectorOutside) ⊎ (refusal ≡ BackwardVectorOutside)

misfit-of-vector : (f : Result ⊤ Direction) (refusal : Refusal) → fit_verdict f ≡ Err refusal → OfVector refusal
misfit-of-vector (Ok fits) refusal e = let z : ◌≡◌ {A = ℕ} 0 1 = cc in absurd (omega arith)
misfit-of-vector (Err Forward) refusal e = inl cc
misfit-of-vector (Err Backward) refusal e = inr cc

pub refused-of : {file : List ℕ} {at : ℕ} {s : PictureState} {q : Matrices} {refusal : Refusal} → RefusedByVector file at s q refusal → OfVector refusal
refused-of {file} {at} {s} {q} {refusal} r = misfit-of-vector (record_fit s.header.size (plan_for s.header s.next s.slice r.read.symbols)) refusal r.verdict
