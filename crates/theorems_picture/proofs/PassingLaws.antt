-- Laws of records that pass: what holds after them, and that a picture ends where one is refused or none is left. Assumes nothing.
use mathlib.Core.Bool.{Bool, true, false, cond}
use mathlib.Core.List.{List, ◌++◌, append_assoc, append-nil}
use mathlib.Core.Path.{◌≡◌, refl, sym, ap, ◌∙◌}
use Prim.Native.Nat.{ℕ, zero, suc, ◌+◌, ◌-◌, ◌≤◌, ◌<◌}
use native.Mathlib.Decide.{dec_lt}
use native.Mathlib.Omega.{arith}
use lib.Dec.{eqb}
use lib.ListN.{length}
use Rattle.std.specs.Prelude.{Result, Ok, Err, ⊤}
use Rattle.math.specs.Each.{Each}
use Rattle.math.proofs.Each.{each_append}
use Rattle.math.specs.Joined.{joined}
use Rattle.refusals.specs.declared.Refusal.{Refusal}
use Rattle.symbols.specs.Requires.{HeaderWithin}
use Rattle.symbols.specs.Size.{macroblock_count}
use Rattle.symbols.specs.declared.header.Header.{Header}
use Rattle.decode_coefficients.specs.Requires.{BlocksInRange}
use Rattle.decode_macroblock.specs.Macroblock.{InOrder}
use Rattle.decode_macroblock.specs.Rows.{rows_of}
use Rattle.decode_macroblock.proofs.OrderLaws.{order-both}
use Rattle.decode_macroblock.proofs.RowLaws.{rows_append}
use Rattle.format3_records.specs.declared.turn.Turn.TheVariants as Turn
use Rattle.format3_picture.specs.Reconstruction.{plan_for, macroblocks_made_from, macroblocks_of}
use Rattle.format3_picture.specs.Picture.{Answered, refused_at, end_answer, answered_by, records_from, records_after, symbols_of}
use Rattle.format3_picture.specs.Requires.{StateWithin}
use Rattle.format3_picture.specs.Step.{RecordStep}
use Rattle.format3_picture.specs.Symbols.{Symbol}
use Rattle.format3_picture.specs.declared.reader.Answer.{Answer}
use Rattle.format3_picture.proofs.RecordLaws.{StepCases, refuses, matrix-passes, slice-starts, macroblocks-made, step-cases}
use Rattle.format3_picture.proofs.ReaderLaws.{none_left, first-refused, first_passes}
use Rattle.format3_picture.proofs.InvariantLaws.{step_keeps, step-ends, start-within}
use Rattle.format3_picture.proofs.SymbolLaws.{made_of, made-of-symbols}
use Rattle.theorems_picture.specs.Applies.{Reached, next_record, after_record, verdict_at, Passing, none, one_more}

module _ (file : List ℕ) (h : Header) (end : ℕ) where
  -- ---- what holds after records that passed
  pub record Stands (r : Reached) : Type 0 where
    pub within : StateWithin r.state
    pub header : r.state.header ≡ h
    pub in-file : r.offset ≤ length file
    pub order : InOrder 0 r.macroblocks r.state.next
    pub rows : r.state.rows ≡ rows_of r.macroblocks
    pub in-range : Each (λ m. BlocksInRange m.coefficients) r.macroblocks

  pub stands : HeaderWithin h → end ≤ length file → {r : Reached} → Passing file h end r → Stands r
  unfolding rows_of
  stands legal inside none = record { within = start-within h legal; header = refl; in-file = inside; order = refl; rows = refl; in-range = tt }
  stands legal inside (one_more {r} passing v) =
      let before = stands legal inside passing in
      let kept = step_keeps r.matrices r.state before.within file r.offset v in
      record {
        within = kept.within;
        header = kept.header ∙ before.header;
        in-file = (step-ends file r.offset r.state r.matrices v).in-file;
        order = order-both 0 r.state.next _ r.macroblocks _ before.order kept.order;
        rows = kept.rows ∙ ap (λ (n : ℕ). n + rows_of (next_record file r).applied.macroblocks) before.rows ∙ sym (rows_append r.macroblocks _);
        in-range = each_append (λ m. BlocksInRange m.coefficients) r.macroblocks _ before.in-range kept.in-range;
      }

  -- no record takes the reader back to the file's start
  pub begun : {r : Reached} → Passing file h end r → r.state.turn ≡ Turn.Start → ⊥
  begun none e = let z : ◌≡◌ {A = ℕ} 0 1 = cc in omega arith
  begun (one_more {r} passing v) e = go (step-cases file r.offset r.state r.matrices) v e
    where
      after : (complete : Bool) → cond complete Turn.Complete Turn.Macroblock ≡ Turn.Start → ⊥
      after true e = let z : ◌≡◌ {A = ℕ} 0 1 = cc in omega arith
      after false e = let z : ◌≡◌ {A = ℕ} 0 1 = cc in omega arith

      go : {symbol : Symbol} {t : RecordStep} → StepCases r.matrices r.state symbol t → t.applied.verdict ≡ Ok tt → t.applied.state.turn ≡ Turn.Start → ⊥
      go (refuses refusal) v e = let z : ◌≡◌ {A = ℕ} 0 1 = cc in omega arith
      go (matrix-passes turn body) v e = let z : ◌≡◌ {A = ℕ} 0 1 = cc in omega arith
      go (slice-starts turn header legal start) v e = let z : ◌≡◌ {A = ℕ} 0 1 = cc in omega arith
      go (macroblocks-made sliced m legal) v e =
          after (eqb ((plan_for r.state.header r.state.next r.state.slice m).address + 1) (macroblock_count r.state.header.size)) e

  -- ---- they and the records after them are the whole
  record Behind (r : Reached) : Type 0 where
    fuel : ℕ
    enough : length file - r.offset ≤ fuel
    answer : (records_after file h end).answer ≡ (records_from file fuel r.offset r.state r.matrices).answer
    macroblocks : macroblocks_of h (symbols_of file h end) ≡ r.macroblocks ++ made_of r.state (records_from file fuel r.offset r.state r.matrices).gathered

  behind : {r : Reached} → Passing file h end r → Behind r
  behind none = record { fuel = length file; enough = omega arith; answer = refl; macroblocks = made-of-symbols file h end }
  behind (one_more {r} passing v) =
      let b = behind passing in
      let ends = step-ends file r.offset r.state r.matrices v in
      let goes = first_passes file r.offset r.state r.matrices b.fuel b.enough (omega (arith, ends.beyond, ends.in-file)) v in
      record { fuel = goes.fuel; enough = goes.enough; answer = b.answer ∙ goes.answer; macroblocks = b.macroblocks ∙ rw (goes.macroblocks, append_assoc) }

  -- ---- a picture ends at a record that is refused, or where none is left
  pub data Stop (r : Reached) : Type 0 where
    at-record : r.offset < length file → (refusal : Refusal) → verdict_at file r ≡ Err refusal → Stop r
    at-end : length file ≤ r.offset → Stop r

  abbrev pub answer_at : {r : Reached} → Stop r → Answer
  answer_at {r} (at-record inside refusal v) = refused_at refusal r.offset r.state.made r.state.rows
  answer_at {r} (at-end past) = end_answer (length file) r.state

  -- the answer there, and the macroblocks of the symbols
  pub record Ended (r : Reached) (a : Answer) : Type 0 where
    pub answer : (records_after file h end).answer ≡ a
    pub macroblocks : macroblocks_of h (symbols_of file h end) ≡ r.macroblocks

  ended : {r : Reached} {a : Answer} (b : Behind r) → records_from file b.fuel r.offset r.state r.matrices ≡ answered_by a r.matrices → Ended r a
  unfolding macroblocks_made_from joined
  ended {r} b e = record { answer = b.answer ∙ ap (λ (a : Answered). a.answer) e; macroblocks = b.macroblocks ∙ rw (e, append-nil r.macroblocks) }

  pub stops : {r : Reached} → Passing file h end r → (s : Stop r) → Ended r (answer_at s)
  stops {r} passing (at-record inside refusal v) = let b = behind passing in ended b (first-refused file r.offset r.state r.matrices b.fuel b.enough inside v)
  stops {r} passing (at-end past) = let b = behind passing in ended b (none_left file r.offset r.state r.matrices b.fuel past)

  -- and the records lead to such an end
  pub record Stopped : Type 0 where
    pub reached : Reached
    pub passing : Passing file h end reached
    pub stop : Stop reached

  find : (n : ℕ) (r : Reached) → Passing file h end r → length file - r.offset ≤ n → Stopped
  find zero r passing few = record { reached = r; passing = passing; stop = at-end (omega arith) }
  find (suc n) r passing few = elim (dec_lt r.offset (length file)) [
    | yes inside ↦ go (verdict_at file r) refl inside (find n (after_record file r))
    | no past ↦ record { reached = r; passing = passing; stop = at-end (omega arith) }
  ]
    where
      go : (v : Result ⊤ Refusal) → verdict_at file r ≡ v → r.offset < length file → (Passing file h end (after_record file r) → length file - (after_record file r).offset ≤ n → Stopped) → Stopped
      go (Ok passed) e inside later = later (one_more passing e) (omega (arith, (step-ends file r.offset r.state r.matrices e).beyond))
      go (Err refusal) e inside later = record { reached = r; passing = passing; stop = at-record inside refusal e }

  pub stopped : Stopped
  stopped = find (length file) _ none (omega arith)
