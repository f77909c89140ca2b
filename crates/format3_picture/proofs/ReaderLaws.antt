-- The loop over the records: the macroblocks made so far plus those still in the file make up the picture. Assumes nothing.
use Prim.Native.Nat.{ℕ, zero, suc, ◌+◌, ◌-◌, ◌≤◌, ◌<◌}
use mathlib.Core.List.{List, [], ◌++◌, append_assoc, append-nil}
use mathlib.Core.Path.{◌≡◌, refl, sym, ap, ◌∙◌, subst}
use native.Mathlib.Omega.{arith}
use borrow.Author.Tests.{le-leb, lt-leb}
use lib.IntN.{ℤ}
use lib.ListN.{length, take, drop}
use Rattle.std.specs.Prelude.{Ok, Err}
use Rattle.math.specs.Joined.{joined}
use Rattle.refusals.specs.declared.Refusal.{Refusal}
use Rattle.symbols.specs.Requires.{HeaderWithin}
use Rattle.symbols.specs.declared.header.Header.{Header}
use Rattle.decode_coefficients.specs.Matrices.{default_matrices}
use Rattle.decode_coefficients.specs.declared.matrices.Matrices.{Matrices}
use Rattle.decode_macroblock.specs.Compensation.{References}
use Rattle.decode_macroblock.specs.Macroblock.{MadeMacroblock, with_macroblocks}
use Rattle.decode_macroblock.proofs.BlocksLaws.{macroblocks-none, macroblocks-both}
use Rattle.format3_records.specs.Record.{record_of}
use Rattle.format3_records.specs.declared.record.Record.{Record}
use Rattle.format3_picture.specs.State.{start_state}
use Rattle.format3_picture.specs.declared.state.PictureState.{PictureState}
use Rattle.format3_picture.specs.Reconstruction.{macroblocks_made_from, macroblocks_of, reconstruction}
use Rattle.format3_picture.specs.MacroblockRecord.{Applied, outcome_of, with_applied}
use Rattle.format3_picture.specs.Picture.{Answered, refused_at, end_answer, answered_by, followed, records_from, records_from_refusing, records_after, symbols_of}
use Rattle.format3_picture.specs.Requires.{LentLengths, Invariant}
use Rattle.format3_picture.specs.Step.{record_applied, matrices_after, RecordStep, step_at}
use Rattle.format3_picture.specs.Symbols.{symbol_at}
use Rattle.format3_picture.specs.declared.reader.Answer.{Answer}
use Rattle.format3_picture.proofs.RecordLaws.{step-cases, refused-makes-none, step-found, step-unfound, outcome-refused, outcome-passed}
use Rattle.format3_picture.proofs.InvariantLaws.{start-within, borrowed-again, step_keeps, Ends, step-ends}
use Rattle.format3_picture.proofs.SymbolLaws.{made_of, matrices-stay, made-next, made-of-symbols}

-- ---- the records from an offset on, by the result of the first one
module _ (file : List ℕ) (at : ℕ) (s : PictureState) (q : Matrices) where
  pub none_left : (n : ℕ) → length file ≤ at → records_from file n at s q ≡ answered_by (end_answer (length file) s) q
  unfolding records_from_refusing
  none_left zero h = refl
  none_left (suc n) h = rw (le-leb (length file) at h)

  one-step : (n : ℕ) → at < length file → let t = step_at file at s q in
      records_from file (suc n) at s q ≡ followed t.applied.verdict (λ refusal. answered_by (refused_at refusal at s.made s.rows) q) (symbol_at file at s) (records_from file n t.end t.applied.state t.matrices)
  unfolding records_from_refusing
  one-step n h = rw (lt-leb (length file) at h)

  pub first-refused : {refusal : Refusal} (n : ℕ) → length file - at ≤ n → at < length file → (step_at file at s q).applied.verdict ≡ Err refusal
      → records_from file n at s q ≡ answered_by (refused_at refusal at s.made s.rows) q
  first-refused zero b h v = absurd (omega arith)
  first-refused (suc n) b h v = one-step n h ∙ rw v

  -- a record that passes, and the records after it
  pub record Goes (n : ℕ) : Type 0 where
    pub fuel : ℕ
    pub enough : length file - (step_at file at s q).end ≤ fuel
    pub answer : (records_from file n at s q).answer ≡ (records_from file fuel (step_at file at s q).end (step_at file at s q).applied.state (step_at file at s q).matrices).answer
    pub macroblocks : made_of s (records_from file n at s q).gathered
        ≡ (step_at file at s q).applied.macroblocks ++ made_of (step_at file at s q).applied.state (records_from file fuel (step_at file at s q).end (step_at file at s q).applied.state (step_at file at s q).matrices).gathered

  pub first_passes : (n : ℕ) → length file - at ≤ n → at < length file → (step_at file at s q).applied.verdict ≡ Ok tt → Goes n
  first_passes zero b h v = absurd (omega arith)
  first_passes (suc n) b h v =
      let t = step_at file at s q in
      let ends = step-ends file at s q v in
      let e = rw v at (one-step n h) in
      record {
        fuel = n;
        enough = omega (arith, ends.beyond, ends.in-file);
        answer = ap (λ (a : Answered). a.answer) e;
        macroblocks = ap (λ (a : Answered). made_of s a.gathered) e ∙ made-next s q (step-cases file at s q) v _ (matrices-stay file n t.end t.applied.state t.matrices);
      }

-- ---- the loop
module _ (transform : List ℤ → ℕ → ℤ) (r : References) (file : List ℕ) where
  -- the output holds the macroblocks made so far, and the rest of the file gives the others
  pub record Whole (start : ℕ) (h : Header) (output₀ output : List ℕ) (at : ℕ) (s : PictureState) (q : Matrices) : Type 0 where
    pub fuel : ℕ
    pub enough : length file - at ≤ fuel
    pub in-file : at ≤ length file
    pub long : length output ≡ length output₀
    pub sound : Invariant s r.forward r.backward output
    pub header : s.header ≡ h
    pub so_far : List MadeMacroblock
    pub holds : output ≡ with_macroblocks transform r h.size so_far output₀
    pub answer : (records_after file h start).answer ≡ (records_from file fuel at s q).answer
    pub macroblocks : macroblocks_of h (symbols_of file h start) ≡ so_far ++ made_of s (records_from file fuel at s q).gathered

  pub whole-start : (start : ℕ) (h : Header) (output : List ℕ) → HeaderWithin h → LentLengths h r.forward r.backward output → start ≤ length file
      → Whole start h output output start (start_state h) default_matrices
  whole-start start h output legal lent inside = record {
    fuel = length file;
    enough = omega arith;
    in-file = inside;
    long = refl;
    sound = record { state = start-within h legal; lent = lent };
    header = refl;
    so_far = [];
    holds = macroblocks-none transform r _ output;
    answer = refl;
    macroblocks = made-of-symbols file h start;
  }

  module _ {start : ℕ} {h : Header} {output₀ output : List ℕ} {at : ℕ} {s : PictureState} {q : Matrices} (w : Whole start h output₀ output at s q) where
    -- nothing more is made after this
    stopped : {a : Answer} → records_from file w.fuel at s q ≡ answered_by a q
        → ((records_after file h start).answer ≡ a) × (output ≡ reconstruction transform r h (symbols_of file h start) output₀)
    unfolding macroblocks_made_from joined
    stopped {a} e = (
      w.answer ∙ ap (λ (x : Answered). x.answer) e,
      w.holds ∙ ap (λ (l : List MadeMacroblock). with_macroblocks transform r h.size l output₀) (sym (w.macroblocks ∙ rw (e, append-nil w.so_far))),
    )

    pub whole-done : length file ≤ at
        → ((records_after file h start).answer ≡ end_answer (length file) s) × (output ≡ reconstruction transform r h (symbols_of file h start) output₀)
    whole-done past = stopped (none_left file at s q w.fuel past)

    pub whole-refused : {refusal : Refusal} → at < length file → (step_at file at s q).applied.verdict ≡ Err refusal
        → ((records_after file h start).answer ≡ refused_at refusal at s.made s.rows) × (output ≡ reconstruction transform r h (symbols_of file h start) output₀)
    whole-refused inside v = stopped (first-refused file at s q w.fuel w.enough inside v)

    pub whole-next : at < length file → (step_at file at s q).applied.verdict ≡ Ok tt → (next : List ℕ) → next ≡ with_applied transform r s (step_at file at s q).applied output → length next ≡ length output
        → Whole start h output₀ next (step_at file at s q).end (step_at file at s q).applied.state (step_at file at s q).matrices
    whole-next inside v next is long =
        let t = step_at file at s q in
        let ends = step-ends file at s q v in
        let kept = step_keeps q s w.sound.state file at v in
        let goes = first_passes file at s q w.fuel w.enough inside v in
        record {
          fuel = goes.fuel;
          enough = goes.enough;
          in-file = ends.in-file;
          long = long ∙ w.long;
          sound = record {
            state = kept.within;
            lent = subst (λ (g : Header). LentLengths g r.forward r.backward next) (sym kept.header) (borrowed-again w.sound.lent long);
          };
          header = kept.header ∙ w.header;
          so_far = w.so_far ++ t.applied.macroblocks;
          holds =
              is ∙ (λ i. with_macroblocks transform r (w.header i).size t.applied.macroblocks (w.holds i))
              ∙ sym (macroblocks-both transform r h.size w.so_far t.applied.macroblocks output₀);
          answer = w.answer ∙ goes.answer;
          macroblocks = w.macroblocks ∙ rw (goes.macroblocks, append_assoc);
        }

    -- ---- the record there, by what is found
    pub whole-unfound : {refusal : Refusal} → at < length file → record_of file at ≡ Err refusal
        → ((records_after file h start).answer ≡ refused_at refusal at s.made s.rows) × (output ≡ reconstruction transform r h (symbols_of file h start) output₀)
    whole-unfound inside e = whole-refused inside (ap (λ (t : RecordStep). t.applied.verdict) (step-unfound file at s q e))

    module _ {found : Record} (inside : at < length file) (e : record_of file at ≡ Ok found) where
      abbrev body : List ℕ
      body = take found.length (drop found.start file)

      abbrev applied : Applied
      applied = record_applied q s found.kind body

      module _ {next : List ℕ} (written : next ≡ with_applied transform r s applied output) where
        written-by-step : next ≡ with_applied transform r s (step_at file at s q).applied output
        written-by-step = written ∙ ap (λ (t : RecordStep). with_applied transform r s t.applied output) (sym (step-found file at s q e))

        -- it is refused
        pub whole-stops : {refusal : Refusal} → outcome_of applied ≡ Err refusal
            → ((records_after file h start).answer ≡ refused_at refusal at s.made s.rows) × (next ≡ reconstruction transform r h (symbols_of file h start) output₀)
        whole-stops {refusal} o =
            let v = ap (λ (t : RecordStep). t.applied.verdict) (step-found file at s q e) ∙ outcome-refused applied o in
            let none = refused-makes-none q s file at refusal v in
            let whole = whole-refused inside v in
            (whole.0, rw none at written-by-step ∙ sym (macroblocks-none transform r s.header.size output) ∙ whole.1)

        -- it passes
        pub whole-goes : {after : PictureState} → outcome_of applied ≡ Ok after → length next ≡ length output
            → Whole start h output₀ next (found.start + found.length) after (matrices_after found.kind body q)
        whole-goes o long =
            let passed = outcome-passed applied o in
            let v = ap (λ (t : RecordStep). t.applied.verdict) (step-found file at s q e) ∙ passed.0 in
            subst (λ (x : PictureState). Whole start h output₀ next (found.start + found.length) x (matrices_after found.kind body q)) passed.1
            (subst (λ (t : RecordStep). Whole start h output₀ next t.end t.applied.state t.matrices) (step-found file at s q e) (whole-next inside v next written-by-step long))

      pub goes-on : {after : PictureState} → outcome_of applied ≡ Ok after → Ends file at (found.start + found.length)
      goes-on o =
          subst (λ (t : RecordStep). Ends file at t.end) (step-found file at s q e)
          (step-ends file at s q (ap (λ (t : RecordStep). t.applied.verdict) (step-found file at s q e) ∙ (outcome-passed applied o).0))
