-- A record that passes keeps the invariant: the state stays in range, and the header is unchanged. Assumes nothing.
-- It makes macroblocks in order, with coefficients in range.
use Prim.Native.Nat.{ℕ, ◌+◌, ◌-◌, ◌≤◌, ◌<◌, zero-le}
use mathlib.Core.Bool.{Bool, true, false}
use mathlib.Core.List.{List, [], ◌∷◌}
use mathlib.Core.Path.{◌≡◌, refl, sym, ◌∙◌, subst}
use native.Mathlib.Nat.{add-zero, mul-pos}
use native.Mathlib.Omega.{arith}
use borrow.Author.Tests.{ne_eqb}
use lib.Dec.{T, eqb}
use lib.ListN.{length}
use Rattle.std.specs.Prelude.{Option, Some, None, Result, Ok, Err, OnSome}
use Rattle.refusals.specs.declared.Refusal.{Refusal}
use Rattle.math.specs.Each.{Each}
use Rattle.math.proofs.Each.{each_append}
use Rattle.math.proofs.Bound.{within-literal}
use Rattle.symbols.specs.Header.{uses_forward, uses_backward}
use Rattle.symbols.specs.MacroblockType.{legal_type}
use Rattle.symbols.specs.Requires.{HeaderWithin}
use Rattle.symbols.specs.Size.{macroblock_count}
use Rattle.symbols.specs.declared.header.Header.{Header}
use Rattle.symbols.specs.declared.header.VectorCoding.{VectorCoding}
use Rattle.symbols.specs.declared.vector_codes.VectorCodes.{VectorCodes}
use Rattle.symbols.specs.Macroblock.{Macroblock}
use Rattle.decode_coefficients.specs.declared.matrices.Matrices.{Matrices}
use Rattle.decode_coefficients.proofs.Range.{zeros-between}
use Rattle.decode_coefficients.specs.Requires.{BlocksInRange}
use Rattle.decode_coefficients.specs.Macroblock.{symbols_with_dc}
use Rattle.decode_coefficients.specs.declared.macroblock.SymbolsWithDc.{SymbolsWithDc}
use Rattle.decode_vectors.proofs.VectorLaws.{factor-least}
use Rattle.decode_macroblock.specs.Requires.{VectorWithin}
use Rattle.decode_macroblock.specs.Macroblock.{MadeMacroblock, predicted_only_from, InOrder}
use Rattle.decode_macroblock.specs.Rows.{rows_of}
use Rattle.decode_macroblock.proofs.OrderLaws.{order-both, uncoded-order, uncoded-each}
use Rattle.decode_macroblock.specs.declared.compensation.Vector.{Vector}
use Rattle.decode_state.specs.Plan.{skip_motion, plan_of, own_macroblock, macroblocks_of_plan}
use Rattle.decode_state.specs.Requires.{Plannable, CodesWithin}
use Rattle.decode_state.specs.Vectors.{own_vector, own_motion, next_vector_pasts, predicts_forward, predicts_backward}
use Rattle.decode_state.specs.State.{zero_vector}
use Rattle.decode_state.proofs.PlanLaws.{pasts-within, motion-within, no-motion-within, skip-within, own-forward-used, own-backward-used, skip-forward-used, skip-backward-used}
use Rattle.format3_records.specs.Record.{matrix_kind, slice_kind, macroblock_kind, record_of}
use Rattle.format3_records.specs.Turn.{in_turn, turn_after}
use Rattle.format3_records.specs.declared.record.Record.{Record}
use Rattle.format3_records.specs.declared.turn.Turn.{Turn}
use Rattle.format3_records.proofs.Laws.Record.{Inside, inside}
use Rattle.format3_macroblock.specs.Blocks.{legal_dc}
use Rattle.format3_macroblock.specs.Slice.{legal_scale}
use Rattle.format3_macroblock.proofs.Laws.Macroblock.{SymbolsLegal, scale-legal-after, pasts-after-legal, coefficients-in-range, MacroblockLegal}
use Rattle.format3_macroblock.proofs.Laws.Vectors.{CodesKnown}
use Rattle.format3_picture.specs.State.{start_state}
use Rattle.format3_picture.specs.declared.state.PictureState.{PictureState}
use Rattle.format3_picture.specs.Reconstruction.{plan_for, coefficients_for}
use Rattle.format3_picture.specs.MacroblockRecord.{context_of, Applied}
use Rattle.format3_picture.specs.Picture.{is_complete}
use Rattle.format3_picture.specs.Requires.{LentLengths, StateWithin, PlanWithin, PlanLent, PlanWritable}
use Rattle.format3_picture.specs.Step.{with_matrix, with_slice, RecordStep, step_at, step_at_refusing}
use Rattle.format3_picture.specs.Symbols.{Symbol}
use Rattle.format3_picture.proofs.WriteLaws.{plan-rows-most}
use Rattle.format3_picture.proofs.RecordLaws.{made_record, StepCases, refuses, matrix-passes, slice-starts, macroblocks-made, step-cases, found_after}

-- ---- what holds of a picture's type holds for each direction in use
if-used : {P Q : Type 0} (v : Option Vector) → (P → Q) → OnSome v P → OnSome v Q
if-used (Some v) f p = f p
if-used None f p = tt

vector-used : {P : Type 0} (predicts : Bool) (coding : VectorCoding) (past : Vector) → (predicts ≡ true → P) → OnSome (own_vector predicts coding past) P
vector-used true coding past f = f refl
vector-used false coding past f = tt

module _ (h : Header) (w : HeaderWithin h) (type : ℕ) (past : Vector) (legal : legal_type h.coding_type type ≡ true) where
  pub own-forward : OnSome (own_vector (predicts_forward h.coding_type type) h.forward past) (uses_forward h.coding_type ≡ true)
  own-forward = vector-used (predicts_forward h.coding_type type) h.forward past (own-forward-used h.coding_type type w.first-type w.last-type legal)

  pub own-backward : OnSome (own_vector (predicts_backward type) h.backward past) (uses_backward h.coding_type ≡ true)
  own-backward = vector-used (predicts_backward type) h.backward past (own-backward-used h.coding_type type w.first-type w.last-type legal)

-- ---- symbols of a macroblock that were read can be planned and written
codes-within : {f : ℕ} {c : VectorCodes} → 1 ≤ f → CodesKnown f c → CodesWithin f c
codes-within h k = record {
  across = record { code = k.across.small; residual = k.across.below h };
  down = record { code = k.down.small; residual = k.down.below h };
}

module _ (s : PictureState) (m : SymbolsWithDc) (w : StateWithin s) (l : SymbolsLegal (context_of s) m.symbols) where
  pub plannable : Plannable s.header s.next s.slice m
  plannable = record {
    updatable = record {
      symbols = record {
        forward-few = w.header.forward.most;
        backward-few = w.header.backward.most;
        forward = codes-within (factor-least s.header.forward.f_code) l.forward-known;
        backward = codes-within (factor-least s.header.backward.f_code) l.backward-known;
      };
      pasts = w.pasts;
    };
    some = l.increment-some;
    near = omega (arith, w.inside, w.header.size.few);
  }

  can-plan : PlanWithin s.header.size (plan_of s.header s.next s.slice m)
  unfolding plan_of own_motion
  can-plan = record {
    within = w.header.size;
    follows = refl;
    inside = omega (arith, l.address-inside, l.increment-some);
    skip-within = skip-within s.header.coding_type s.slice.motion w.motion;
    own-within = motion-within s.header m.symbols.macroblock_type (next_vector_pasts s.header m.symbols s.slice.pasts) (pasts-within s.header m s.slice plannable.updatable);
  }

  plan-lent : {forward backward output : List ℕ} → LentLengths s.header forward backward output → PlanLent s.header.size (plan_of s.header s.next s.slice m) forward backward output
  unfolding plan_of own_motion
  plan-lent lent = record {
    skip-lent = record {
      forward-whole = if-used _ lent.forward-whole (skip-forward-used s.header.coding_type s.slice.motion w.forward-used);
      backward-whole = if-used _ lent.backward-whole (skip-backward-used s.header.coding_type s.slice.motion w.backward-used);
      output-whole = lent.output-whole;
    };
    own-lent = record {
      forward-whole = if-used _ lent.forward-whole (own-forward s.header w.header m.symbols.macroblock_type (next_vector_pasts s.header m.symbols s.slice.pasts).forward l.type-legal);
      backward-whole = if-used _ lent.backward-whole (own-backward s.header w.header m.symbols.macroblock_type (next_vector_pasts s.header m.symbols s.slice.pasts).backward l.type-legal);
      output-whole = lent.output-whole;
    };
  }

  pub makeable : {forward backward output : List ℕ} → LentLengths s.header forward backward output → PlanWritable s (plan_of s.header s.next s.slice m) forward backward output
  unfolding plan_of
  makeable lent = record {
    planned = can-plan;
    lent = plan-lent lent;
    follows = record { size = w.header.size; follows = refl; inside = can-plan.inside; counted = omega (arith, w.counted); worked = w.worked };
  }

-- ---- what a record that passes preserves
pub record KeepsInvariant (s : PictureState) (a : Applied) : Type 0 where
  pub within : StateWithin a.state
  pub header : a.state.header ≡ s.header
  pub order : InOrder s.next a.macroblocks a.state.next
  pub rows : a.state.rows ≡ s.rows + rows_of a.macroblocks
  pub in-range : Each (λ m. BlocksInRange m.coefficients) a.macroblocks

-- a record is in turn only if the picture is not complete
due : (t : Turn) (kind : ℕ) → in_turn t kind ≡ true → is_complete t ≡ false
due Turn.Start kind e = refl
due Turn.Header kind e = refl
due Turn.Slice kind e = refl
due Turn.Macroblock kind e = refl
due Turn.Complete kind e = absurd (subst T (sym e) tt)

after_last : (last : Bool) → is_complete (turn_after macroblock_kind last) ≡ last
after_last true = refl
after_last false = refl

-- ---- each outcome of a record that passes
module _ (q : Matrices) (s : PictureState) (w : StateWithin s) where
  -- a record can be in turn only if a macroblock is missing
  missing : (kind : ℕ) → in_turn s.turn kind ≡ true → eqb s.next (macroblock_count s.header.size) ≡ false
  missing kind turn = sym w.complete ∙ due s.turn kind turn

  matrix-within : (kind : ℕ) → in_turn s.turn kind ≡ true → (body : List ℕ) → StateWithin (with_matrix s body)
  matrix-within kind turn body = record {
    header = w.header;
    scale = w.scale;
    dc = w.dc;
    pasts = w.pasts;
    motion = w.motion;
    forward-used = w.forward-used;
    backward-used = w.backward-used;
    inside = w.inside;
    counted = w.counted;
    worked = w.worked;
    complete = sym (missing kind turn);
  }

  slice-within : (kind : ℕ) → in_turn s.turn kind ≡ true → (scale : ℕ) → legal_scale scale ≡ true → StateWithin (with_slice s scale)
  unfolding legal_dc
  slice-within kind turn scale legal = record {
    header = w.header;
    scale = legal;
    dc = record { legal-y = refl; legal-cb = refl; legal-cr = refl };
    pasts = record { forward = zero-within; backward = zero-within };
    motion = no-motion-within;
    forward-used = tt;
    backward-used = tt;
    inside = w.inside;
    counted = w.counted;
    worked = w.worked;
    complete = sym (missing kind turn);
  }
    where
      zero-within : VectorWithin 1024 zero_vector
      zero-within = record { across = within-literal tt; below = within-literal tt }

  module _ (m : Macroblock) (legal : MacroblockLegal (context_of s) m) where
    advanced-within : StateWithin (made_record q s m).state
    unfolding plan_of own_motion
    advanced-within =
        let l = legal.symbols in
        let pasts = pasts-within s.header (symbols_with_dc s.slice.dc m) s.slice (plannable s (symbols_with_dc s.slice.dc m) w l).updatable in
        record {
          header = w.header;
          scale = scale-legal-after s.slice.scale m.symbols w.scale l.scale-legal;
          dc = pasts-after-legal s.slice.dc m w.dc legal.blocks;
          pasts = pasts;
          motion = motion-within s.header m.symbols.macroblock_type (next_vector_pasts s.header m.symbols s.slice.pasts) pasts;
          forward-used = own-forward s.header w.header m.symbols.macroblock_type (next_vector_pasts s.header m.symbols s.slice.pasts).forward l.type-legal;
          backward-used = own-backward s.header w.header m.symbols.macroblock_type (next_vector_pasts s.header m.symbols s.slice.pasts).backward l.type-legal;
          inside = omega (arith, l.address-inside, l.increment-some);
          counted = omega (arith, w.counted, l.increment-some);
          worked = omega (arith, w.worked, plan-rows-most (plan_for s.header s.next s.slice m) (coefficients_for q s.slice m));
          complete = after_last _;
        }

    abbrev skipped : List MadeMacroblock
    skipped = predicted_only_from s.next (m.symbols.increment - 1) (skip_motion s.header.coding_type s.slice.motion)

    abbrev own : List MadeMacroblock
    own = own_macroblock (plan_for s.header s.next s.slice m) (coefficients_for q s.slice m) ∷ []

    made-order : InOrder s.next (made_record q s m).macroblocks (made_record q s m).state.next
    unfolding plan_of macroblocks_of_plan
    made-order = order-both s.next (s.next + (m.symbols.increment - 1)) _ skipped own (uncoded-order s.next _ _) (refl, refl)

    made-in-range : Each (λ n. BlocksInRange n.coefficients) (made_record q s m).macroblocks
    unfolding plan_of macroblocks_of_plan
    made-in-range =
        each_append (λ n. BlocksInRange n.coefficients) skipped own
        (uncoded-each (λ n. BlocksInRange n.coefficients) _ (λ address. record { all = λ block. zeros-between 0 }) s.next _)
        (coefficients-in-range q _ _ m legal.blocks, tt)

  pub kept : {symbol : Symbol} {t : RecordStep} → StepCases q s symbol t → t.applied.verdict ≡ Ok tt → KeepsInvariant s t.applied
  unfolding rows_of
  kept (refuses refusal) e = let z : ◌≡◌ {A = ℕ} 0 1 = cc in absurd (omega arith)
  kept (matrix-passes turn body) e = record { within = matrix-within matrix_kind turn body; header = refl; order = refl; rows = sym (add-zero s.rows); in-range = tt }
  kept (slice-starts turn header legal start) e = record { within = slice-within slice_kind turn header.scale legal; header = refl; order = refl; rows = sym (add-zero s.rows); in-range = tt }
  kept (macroblocks-made begun m legal) e = record { within = advanced-within m legal; header = refl; order = made-order m legal; rows = refl; in-range = made-in-range m legal }

  pub step_keeps : (file : List ℕ) (at : ℕ) → (step_at file at s q).applied.verdict ≡ Ok tt → KeepsInvariant s (step_at file at s q).applied
  step_keeps file at = kept (step-cases file at s q)

-- ---- where it ends: after its start, and inside the file
pub record Ends (file : List ℕ) (at end : ℕ) : Type 0 where
  pub beyond : at < end
  pub in-file : end ≤ length file

pub step-ends : (file : List ℕ) (at : ℕ) (s : PictureState) (q : Matrices) → (step_at file at s q).applied.verdict ≡ Ok tt → Ends file at (step_at file at s q).end
unfolding step_at_refusing
step-ends file at s q = go (record_of file at) refl
  where
    go : (r : Result Record Refusal) → record_of file at ≡ r → (step_at file at s q).applied.verdict ≡ Ok tt → Ends file at (step_at file at s q).end
    go (Err refusal) e = rw e (λ v. let z : ◌≡◌ {A = ℕ} 0 1 = cc in absurd (omega arith))
    go (Ok found) e = rw e (λ v. record {
      beyond = omega (arith, found_after file at found e);
      in-file = (subst (Inside file) e (inside file at)).fits;
    })

-- ---- the start: a header that was read, and the lengths that it requires
pub start-within : (h : Header) → HeaderWithin h → StateWithin (start_state h)
unfolding legal_dc
start-within h w = record {
  header = w;
  scale = refl;
  dc = record { legal-y = refl; legal-cb = refl; legal-cr = refl };
  pasts = record { forward = record { across = within-literal tt; below = within-literal tt }; backward = record { across = within-literal tt; below = within-literal tt } };
  motion = no-motion-within;
  forward-used = tt;
  backward-used = tt;
  inside = zero-le;
  counted = refl;
  worked = zero-le;
  complete = sym (ne_eqb 0 (macroblock_count h.size) (λ none. let some = mul-pos w.size.wide w.size.high in omega arith));
}

pub borrowed-again : {h : Header} {forward backward output next : List ℕ} → LentLengths h forward backward output → length next ≡ length output → LentLengths h forward backward next
borrowed-again p e = record { output-whole = e ∙ p.output-whole; forward-whole = p.forward-whole; backward-whole = p.backward-whole }
