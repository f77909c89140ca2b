-- A record is refused by 18 or 23 exactly when its first macroblock that doesn't fit says so, and by 23 only in a B picture. Assumes nothing.
use mathlib.Core.Bool.{Bool, true, false, cond}
use mathlib.Core.List.{List, [], ◌∷◌, ◌++◌}
use mathlib.Core.Path.{◌≡◌, refl, sym, ap, ◌∙◌, subst}
use Prim.Native.Nat.{ℕ, zero, suc, ◌+◌}
use native.Mathlib.Omega.{arith}
use lib.Dec.{T}
use lib.IntN.{ℤ}
use Rattle.std.specs.Prelude.{Option, Some, None, Result, Ok, Err, ⊤, OnSome}
use Rattle.std.specs.Result.{result_and}
use Rattle.math.specs.Each.{Each}
use Rattle.math.proofs.Each.{each_append}
use Rattle.math.specs.Tab.{tab}
use Rattle.refusals.specs.Refusal.{number_of}
use Rattle.refusals.specs.declared.Refusal.{Refusal}
use Rattle.refusals.specs.declared.Refusal.TheVariants.{ForwardVectorOutside, BackwardVectorOutside}
use Rattle.symbols.specs.Header.{uses_backward}
use Rattle.symbols.specs.declared.size.PictureSize.{PictureSize}
use Rattle.symbols.specs.Macroblock.{Macroblock}
use Rattle.decode_macroblock.specs.Fit.{direction_fits, fit_of, first_misfit}
use Rattle.decode_macroblock.specs.Macroblock.{MadeMacroblock, predicted_only, predicted_only_from}
use Rattle.decode_macroblock.specs.declared.compensation.Motion.{Motion}
use Rattle.decode_macroblock.specs.declared.compensation.Vector.{Vector}
use Rattle.decode_macroblock.specs.declared.fit.Direction.{Direction}
use Rattle.decode_macroblock.specs.declared.fit.Direction.TheVariants.{Forward, Backward}
use Rattle.decode_macroblock.proofs.OrderLaws.{uncoded-each}
use Rattle.decode_macroblock.proofs.RunLaws.{or-else-assoc, or-else-fits}
use Rattle.decode_state.specs.Plan.{plan_of, own_macroblock, macroblocks_of_plan}
use Rattle.decode_state.specs.Vectors.{own_motion, next_vector_pasts}
use Rattle.decode_state.specs.declared.plan.Plan.{Plan}
use Rattle.decode_state.proofs.PlanLaws.{skip-backward-used}
use Rattle.format3_macroblock.proofs.Laws.Macroblock.{MacroblockLegal}
use Rattle.format3_picture.specs.MacroblockRecord.{context_of, record_fit, fit_verdict}
use Rattle.format3_picture.specs.Reconstruction.{plan_for}
use Rattle.format3_picture.specs.Requires.{StateWithin}
use Rattle.format3_picture.specs.declared.state.PictureState.{PictureState}
use Rattle.format3_picture.proofs.InvariantLaws.{own-backward}
use Rattle.theorems_picture.specs.Misfit.{forward_fits, backward_fits, Misfit, forward, backward, FirstMisfit, here, later}

-- ---- the fit of some macroblocks in sequence
abbrev fit_of_made : PictureSize → MadeMacroblock → Result ⊤ Direction
fit_of_made size m = fit_of size m.address m.motion

abbrev fit_of_all : PictureSize → List MadeMacroblock → Result ⊤ Direction
fit_of_all size [] = Ok tt
fit_of_all size (m ∷ macroblocks) = result_and (fit_of_made size m) (fit_of_all size macroblocks)

module _ (size : PictureSize) where
  run-fit : (motion : Motion) (own : MadeMacroblock) (n first : ℕ) (f : ℕ → ℕ) → ((k : ℕ) → f k ≡ first + k)
      → result_and (first_misfit size first n motion) (fit_of_made size own) ≡ fit_of_all size (tab n (λ k. predicted_only (f k) motion) ++ own ∷ [])
  unfolding tab first_misfit
  run-fit motion own zero first f e = sym (or-else-fits (fit_of_made size own))
  run-fit motion own (suc n) first f e =
      let start : f 0 ≡ first = omega (arith, e 0) in
      or-else-assoc (fit_of size first motion) (first_misfit size (first + 1) n motion) (fit_of_made size own)
      ∙ ap (result_and (fit_of size first motion)) (run-fit motion own n (first + 1) (λ k. f (suc k)) (λ k. omega (arith, e (suc k))))
      ∙ ap (λ (address : ℕ). result_and (fit_of size address motion) (fit_of_all size (tab n (λ k. predicted_only (f (suc k)) motion) ++ own ∷ []))) (sym start)

  record-fit : (p : Plan) (c : List (List ℤ)) → record_fit size p ≡ fit_of_all size (macroblocks_of_plan p c)
  unfolding record_fit macroblocks_of_plan
  record-fit p c = run-fit p.skip_motion (own_macroblock p c) p.skipped p.first (λ k. p.first + k) (λ k. refl)

  -- ---- a macroblock, and several
  data FitCases (m : MadeMacroblock) : Result ⊤ Direction → Type 0 where
    fits : forward_fits size m ≡ true → backward_fits size m ≡ true → FitCases m (Ok tt)
    forward-outside : forward_fits size m ≡ false → FitCases m (Err Forward)
    backward-outside : forward_fits size m ≡ true → backward_fits size m ≡ false → FitCases m (Err Backward)

  fit-cases : (m : MadeMacroblock) → FitCases m (fit_of_made size m)
  unfolding fit_of
  fit-cases m = go (forward_fits size m) (backward_fits size m) refl refl
    where
      go : (a b : Bool) → forward_fits size m ≡ a → backward_fits size m ≡ b → FitCases m (cond a (cond b (Ok tt) (Err Backward)) (Err Forward))
      go true true e f = fits e f
      go true false e f = backward-outside e f
      go false b e f = forward-outside e

  first-misfit : (refusal : Refusal) (macroblocks : List MadeMacroblock) → fit_verdict (fit_of_all size macroblocks) ≡ Err refusal → FirstMisfit size refusal macroblocks
  first-misfit refusal [] = λ e. let z : ◌≡◌ {A = ℕ} 0 1 = cc in absurd (omega arith)
  first-misfit refusal (m ∷ macroblocks) = go (fit-cases m) (first-misfit refusal macroblocks)
    where
      go : {f : Result ⊤ Direction} → FitCases m f → (fit_verdict (fit_of_all size macroblocks) ≡ Err refusal → FirstMisfit size refusal macroblocks)
          → fit_verdict (result_and f (fit_of_all size macroblocks)) ≡ Err refusal → FirstMisfit size refusal (m ∷ macroblocks)
      go (fits e f) after v = later e f (after v)
      go (forward-outside e) after v = let same : ◌≡◌ {A = Refusal} ForwardVectorOutside refusal = cc in here (subst (Misfit size m) same (forward e))
      go (backward-outside e f) after v = let same : ◌≡◌ {A = Refusal} BackwardVectorOutside refusal = cc in here (subst (Misfit size m) same (backward e f))

  misfit-refused : {refusal : Refusal} {macroblocks : List MadeMacroblock} → FirstMisfit size refusal macroblocks → fit_verdict (fit_of_all size macroblocks) ≡ Err refusal
  unfolding fit_of
  misfit-refused (here (forward e)) = rw e
  misfit-refused (here (backward e f)) = rw (e, f)
  misfit-refused (later e f more) = rw (e, f) (misfit-refused more)

  -- a backward misfit is one of a macroblock that uses the backward direction
  backward-used : {P : Type 0} {macroblocks : List MadeMacroblock} → FirstMisfit size BackwardVectorOutside macroblocks → Each (λ m. OnSome m.motion.backward P) macroblocks → P
  unfolding direction_fits
  backward-used {P} (here {m} misfit) each = go misfit refl m.motion.backward refl
    where
      go : {refusal : Refusal} → Misfit size m refusal → refusal ≡ BackwardVectorOutside → (v : Option Vector) → m.motion.backward ≡ v → P
      go (forward e) same v is = let z : number_of ForwardVectorOutside ≡ number_of BackwardVectorOutside = ap number_of same in absurd (omega arith)
      go (backward e f) same (Some v) is = subst (λ (o : Option Vector). OnSome o P) is each.0
      go (backward e f) same None is = let z : ◌≡◌ {A = Bool} true false = rw is at f in absurd (subst T z tt)
  backward-used (later e f more) each = backward-used more each.1

-- ---- a plan's macroblocks
pub plan-misfit : (size : PictureSize) (p : Plan) (c : List (List ℤ)) (refusal : Refusal) → fit_verdict (record_fit size p) ≡ Err refusal → FirstMisfit size refusal (macroblocks_of_plan p c)
plan-misfit size p c refusal v = first-misfit size refusal (macroblocks_of_plan p c) (sym (ap fit_verdict (record-fit size p c)) ∙ v)

pub plan-refused : (size : PictureSize) (p : Plan) (c : List (List ℤ)) (refusal : Refusal) → FirstMisfit size refusal (macroblocks_of_plan p c) → fit_verdict (record_fit size p) ≡ Err refusal
plan-refused size p c refusal misfit = ap fit_verdict (record-fit size p c) ∙ misfit-refused size misfit

-- ---- a backward misfit only where the picture's type uses that direction
module _ (s : PictureState) (w : StateWithin s) where
  pub backward-in-B : (m : Macroblock) → MacroblockLegal (context_of s) m
      → fit_verdict (record_fit s.header.size (plan_for s.header s.next s.slice m)) ≡ Err BackwardVectorOutside → uses_backward s.header.coding_type ≡ true
  unfolding plan_of own_motion macroblocks_of_plan
  backward-in-B m legal v =
      let plan = plan_for s.header s.next s.slice m in
      backward-used s.header.size (plan-misfit s.header.size plan [] BackwardVectorOutside v)
      (each_append UsesBackward (predicted_only_from plan.first plan.skipped plan.skip_motion) (own_macroblock plan [] ∷ [])
      (uncoded-each UsesBackward plan.skip_motion (λ address. skip-backward-used s.header.coding_type s.slice.motion w.backward-used) plan.first plan.skipped)
      (own-backward s.header w.header m.symbols.macroblock_type (next_vector_pasts s.header m.symbols s.slice.pasts).backward legal.symbols.type-legal, tt))
    where
      UsesBackward : MadeMacroblock → Type 0
      UsesBackward n = OnSome n.motion.backward (uses_backward s.header.coding_type ≡ true)
