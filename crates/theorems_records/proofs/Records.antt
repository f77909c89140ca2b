-- A record that the writer wrote passes, with the symbol that was written, or is refused by a number other than 3, 4 and 6.
-- Assumes nothing.
use mathlib.Core.Bool.{true, false}
use mathlib.Core.List.{List, ◌++◌}
use mathlib.Core.Path.{◌≡◌, refl, ap}
use Prim.Native.Nat.{ℕ, ◌≤◌}
use native.Mathlib.Omega.{arith}
use lib.Dec.{eqb}
use lib.IntN.{ℤ}
use lib.ListN.{length, take, drop}
use Rattle.std.specs.Prelude.{Result, Ok, Err, ⊤}
use mir.Syntax.{w16}
use mir.Val.{Fits}
use Rattle.refusals.specs.Refusal.{number_of}
use Rattle.refusals.specs.declared.Refusal.{Refusal}
use Rattle.symbols.specs.Parsed.{Parsed}
use Rattle.symbols.specs.declared.slice.SliceHeader.{SliceHeader}
use Rattle.symbols.specs.Macroblock.{Macroblock}
use Rattle.symbols.proofs.Guard.{require-all}
use Rattle.decode_coefficients.specs.declared.matrices.Matrices.{Matrices}
use Rattle.decode_macroblock.specs.declared.fit.Direction.{Direction}
use Rattle.decode_macroblock.specs.declared.fit.Direction.TheVariants.{Forward, Backward}
use Rattle.decode_state.specs.declared.plan.Plan.{Plan}
use Rattle.format3_records.specs.Record.{matrix_kind, slice_kind, macroblock_kind, legal_kind}
use Rattle.format3_macroblock.specs.Slice.{slice_of}
use Rattle.format3_macroblock.specs.Macroblock.{macroblock_of}
use Rattle.format3_writer.specs.Bytes.{big_endian_bytes}
use Rattle.format3_writer.specs.Records.{record_bytes, slice_body, slice_record, macroblock_body, macroblock_record}
use Rattle.format3_picture.specs.declared.state.PictureState.{PictureState}
use Rattle.format3_picture.specs.MacroblockRecord.{context_of, Applied, record_fit, plan_applied, plan_applied_refusing, symbols_applied_refusing, parsed_applied}
use Rattle.format3_picture.specs.Step.{slice_started, slice_started_from, record_applied, record_applied_refusing, step_at, step_at_refusing}
use Rattle.format3_picture.specs.Symbols.{Symbol, starts, continues, slice_symbol, macroblock_symbol, symbol_of, symbol_at}
use Rattle.theorems_records.specs.WellFramed.{WellFramed}
use Rattle.theorems_records.specs.FieldFit.{Matching, MacroblockFitsFields}
use Rattle.theorems_records.specs.ReadBack.{ReadBack, back, other}
use Rattle.theorems_records.proofs.Framed.{framed}
use Rattle.theorems_records.proofs.Record.{record-shown, record-body, record-after, record-before}
use Rattle.theorems_records.proofs.Slice.{slice_back}
use Rattle.theorems_records.proofs.Macroblock.{macroblock-back}
use Rattle.theorems_records.specs.WellFormed.{WellFormedMacroblock, WellFormedRecord, of-slice, of-macroblock}

abbrev pub VerdictFramed : Result ⊤ Refusal → Type 0
VerdictFramed (Ok passed) = Unit {0}
VerdictFramed (Err refusal) = WellFramed (number_of refusal)

abbrev AppliedWellFramed : Applied → Type 0
AppliedWellFramed a = VerdictFramed a.verdict

not-passed : {refusal : Refusal} → ◌≡◌ {A = Result ⊤ Refusal} (Err refusal) (Ok tt) → ⊥
not-passed e = let z : ◌≡◌ {A = ℕ} 0 1 = cc in omega arith

module _ (q : Matrices) (s : PictureState) where
  slice-framed : {P : SliceHeader → Type 0} {Legal : Type 0} {behind : List ℕ} {x : Parsed SliceHeader} → ReadBack P Legal behind x → AppliedWellFramed (slice_started_from s x)
  unfolding slice_started
  slice-framed (back p) = require-all AppliedWellFramed _ _ _ (framed _ refl) λ start. tt
  slice-framed (other o not) = o

  planned-framed : (p : Plan) (coefficients : List (List ℤ)) → AppliedWellFramed (plan_applied s p coefficients)
  unfolding plan_applied_refusing
  planned-framed p coefficients = go (record_fit s.header.size p) refl
    where
      go : (f : Result ⊤ Direction) → record_fit s.header.size p ≡ f → AppliedWellFramed (plan_applied s p coefficients)
      go (Ok fits) e = rw e tt
      go (Err Forward) e = rw e (framed _ refl)
      go (Err Backward) e = rw e (framed _ refl)

  macroblock-framed : {P : Macroblock → Type 0} {Legal : Type 0} {behind : List ℕ} {x : Parsed Macroblock} → ReadBack P Legal behind x → AppliedWellFramed (parsed_applied q s x)
  unfolding symbols_applied_refusing
  macroblock-framed (back p) = planned-framed _ _
  macroblock-framed (other o not) = o

  -- a record in its turn, or out of it
  slice-applied : (scale start : ℕ) → AppliedWellFramed (record_applied q s slice_kind (slice_body scale start))
  unfolding record_applied_refusing
  slice-applied scale start = require-all AppliedWellFramed _ _ _ (framed _ refl) λ turn. slice-framed (slice_back scale start)

  macroblock-applied : (m : Macroblock) → Matching m → AppliedWellFramed (record_applied q s macroblock_kind (macroblock_body m))
  unfolding record_applied_refusing
  macroblock-applied m matching = require-all AppliedWellFramed _ _ _ (framed _ refl) λ turn. macroblock-framed (macroblock-back (context_of s) m matching)

  -- the step over the record at an offset, with the rest of the file after it
  pub record StepWellFormed (file : List ℕ) (at : ℕ) (rest : List ℕ) : Type 0 where
    pub verdict : VerdictFramed (step_at file at s q).applied.verdict
    pub behind : drop (step_at file at s q).end file ≡ rest

  step-at : (file : List ℕ) (at kind : ℕ) (body rest : List ℕ) → drop at file ≡ record_bytes kind body ++ rest → legal_kind kind ≡ true → length body ≤ 65534
      → AppliedWellFramed (record_applied q s kind body) → StepWellFormed file at rest
  unfolding step_at_refusing
  step-at file at kind body rest stands known short acts =
      let shown = record-shown file at kind body rest stands known short in
      record {
        verdict = rw (shown, record-body file at kind body rest stands) acts;
        behind = rw shown (record-after file at kind body rest stands);
      }

  pub step-well-formed : (file : List ℕ) (at : ℕ) {first : List ℕ} (rest : List ℕ) → WellFormedRecord first → drop at file ≡ first ++ rest → StepWellFormed file at rest
  unfolding slice_body big_endian_bytes
  step-well-formed file at rest (of-slice scale start) stands = step-at file at slice_kind (slice_body scale start) rest stands refl (omega arith) (slice-applied scale start)
  step-well-formed file at rest (of-macroblock {m} whole) stands = step-at file at macroblock_kind (macroblock_body m) rest stands refl whole.short (macroblock-applied m whole.matching)

  -- ---- where it passes, its symbol is the one that was written
  slice-read : {header : SliceHeader} {Fit Legal : Type 0} {behind : List ℕ} {x : Parsed SliceHeader} → ReadBack (λ read. Fit → read ≡ header) Legal behind x → Fit
      → (slice_started_from s x).verdict ≡ Ok tt → slice_symbol x ≡ starts header
  slice-read (back same) fits passed = ap starts (same fits)
  slice-read (other o not) fits passed = absurd (not-passed passed)

  macroblock-read : {m : Macroblock} {Fit Legal : Type 0} {behind : List ℕ} {x : Parsed Macroblock} → ReadBack (λ read. Fit → read ≡ m) Legal behind x → Fit
      → (parsed_applied q s x).verdict ≡ Ok tt → macroblock_symbol x ≡ continues m
  macroblock-read (back same) fits passed = ap continues (same fits)
  macroblock-read (other o not) fits passed = absurd (not-passed passed)

  pub record TakenAs (file : List ℕ) (at : ℕ) (symbol : Symbol) (bytes : List ℕ) : Type 0 where
    pub read : (step_at file at s q).applied.verdict ≡ Ok tt → symbol_at file at s ≡ symbol
    pub same-matrices : (step_at file at s q).matrices ≡ q
    pub before : take (step_at file at s q).end file ≡ take at file ++ bytes

  read_at_lem : (file : List ℕ) (at kind : ℕ) (body rest : List ℕ) (symbol : Symbol) → drop at file ≡ record_bytes kind body ++ rest → legal_kind kind ≡ true → eqb kind matrix_kind ≡ false → length body ≤ 65534
      → ((record_applied q s kind body).verdict ≡ Ok tt → symbol_of s kind body ≡ symbol) → TakenAs file at symbol (record_bytes kind body)
  unfolding step_at_refusing symbol_at
  read_at_lem file at kind body rest symbol stands known no-matrix short reads =
      let shown = record-shown file at kind body rest stands known short in
      record { read = rw (shown, record-body file at kind body rest stands) reads; same-matrices = rw (shown, no-matrix); before = rw shown (record-before file at kind body rest stands) }

  pub slice-step : (file : List ℕ) (at scale start : ℕ) (rest : List ℕ) → Fits w16 start → drop at file ≡ slice_record scale start ++ rest → TakenAs file at (starts (record { scale = scale; start = start })) (slice_record scale start)
  unfolding record_applied_refusing slice_body big_endian_bytes
  slice-step file at scale start rest fits stands =
      read_at_lem file at slice_kind (slice_body scale start) rest _ stands refl refl (omega arith)
      (require-all (λ (a : Applied). a.verdict ≡ Ok tt → slice_symbol (slice_of (slice_body scale start)) ≡ starts (record { scale = scale; start = start })) _ _ _ (λ passed. absurd (not-passed passed)) λ turn.
      slice-read (slice_back scale start) fits)

  pub macroblock-step : (file : List ℕ) (at : ℕ) (m : Macroblock) (rest : List ℕ) → WellFormedMacroblock m → MacroblockFitsFields m → drop at file ≡ macroblock_record m ++ rest → TakenAs file at (continues m) (macroblock_record m)
  unfolding record_applied_refusing
  macroblock-step file at m rest whole fits stands =
      read_at_lem file at macroblock_kind (macroblock_body m) rest _ stands refl refl whole.short
      (require-all (λ (a : Applied). a.verdict ≡ Ok tt → macroblock_symbol (macroblock_of (context_of s) (macroblock_body m)) ≡ continues m) _ _ _ (λ passed. absurd (not-passed passed)) λ turn.
      macroblock-read (macroblock-back (context_of s) m whole.matching) fits)
