-- Laws of a record's macroblocks: the test that they fit, and writing them. Assumes nothing.
use mathlib.Core.List.{List, [], ◌∷◌}
use mathlib.Core.Path.{◌≡◌, refl, ◌∙◌, sym}
use Prim.Native.Nat.{ℕ, ◌+◌, ◌≤◌}
use native.Mathlib.Omega.{arith}
use lib.IntN.{ℤ}
use Rattle.std.specs.Prelude.{Result, Ok, Err, ⊤}
use Rattle.std.specs.Result.{result_and}
use Rattle.refusals.specs.declared.Refusal.{Refusal}
use Rattle.symbols.specs.declared.size.PictureSize.{PictureSize}
use Rattle.symbols.specs.MacroblockType.{is_intra}
use Rattle.symbols.specs.declared.macroblock.MacroblockSymbols.{MacroblockSymbols}
use Rattle.decode_coefficients.specs.declared.dc.DcPasts.{DcPasts}
use Rattle.decode_coefficients.specs.Dc.{dc_pasts_left}
use Rattle.decode_coefficients.specs.Macroblock.{symbols_with_dc_left}
use Rattle.decode_macroblock.specs.Compensation.{References}
use Rattle.decode_macroblock.specs.Fit.{fit_of, first_misfit}
use Rattle.decode_macroblock.specs.Macroblock.{predicted_only, predicted_only_from, with_blocks, with_macroblock, with_macroblocks}
use Rattle.decode_macroblock.specs.Location.{macroblock_position}
use Rattle.decode_macroblock.specs.declared.fit.Direction.{Direction}
use Rattle.decode_macroblock.specs.declared.fit.Direction.TheVariants.{Forward, Backward}
use Rattle.decode_macroblock.specs.Rows.{macroblock_rows, rows_of}
use Rattle.decode_macroblock.proofs.BlocksLaws.{block-uncoded, macroblocks-last}
use Rattle.decode_macroblock.proofs.RowLaws.{macroblock-rows-most, rows_append, none-coded-rows, predicted-rows}
use Rattle.decode_state.specs.Plan.{plan_of, with_dc, own_macroblock, macroblocks_of_plan}
use Rattle.decode_state.specs.declared.plan.Plan.{Plan}
use Rattle.format3_picture.specs.declared.state.PictureState.{PictureState}
use Rattle.format3_picture.specs.Requires.{starting_plan}
use Rattle.format3_picture.specs.MacroblockRecord.{outcome_of, refused_record, record_fit, fit_verdict, state_after, plan_applied, plan_applied_refusing, with_applied}

-- ---- what the tests imply
passed-fits : (f : Result ⊤ Direction) → fit_verdict f ≡ Ok tt → f ≡ Ok tt
passed-fits (Ok fits) e = refl
passed-fits (Err Forward) e = absurd (let z : ◌≡◌ {A = ℕ} 0 1 = cc in omega arith)
passed-fits (Err Backward) e = absurd (let z : ◌≡◌ {A = ℕ} 0 1 = cc in omega arith)

both-fit : (a b : Result ⊤ Direction) → result_and a b ≡ Ok tt → (a ≡ Ok tt) × (b ≡ Ok tt)
both-fit (Ok fits) b e = (refl, e)
both-fit (Err direction) b e = absurd (let z : ◌≡◌ {A = ℕ} 0 1 = cc in omega arith)

module _ (size : PictureSize) (p : Plan) where
  pub all_fit : fit_verdict (record_fit size p) ≡ Ok tt → record_fit size p ≡ Ok tt
  all_fit e = passed-fits (record_fit size p) e

  pub each_fits : record_fit size p ≡ Ok tt → (first_misfit size p.first p.skipped p.skip_motion ≡ Ok tt) × (fit_of size p.address p.motion ≡ Ok tt)
  unfolding record_fit
  each_fits e = both-fit _ _ e

-- ---- the rows worked for a record's macroblocks: those of its own
pub plan-rows : (p : Plan) (c : List (List ℤ)) → rows_of (macroblocks_of_plan p c) ≡ macroblock_rows p.pattern c
unfolding macroblocks_of_plan rows_of
plan-rows p c =
    let skipped = predicted_only_from p.first p.skipped p.skip_motion in
    rows_append skipped (own_macroblock p c ∷ []) ∙ own (predicted-rows p.first p.skipped p.skip_motion)
  where
    own : rows_of (predicted_only_from p.first p.skipped p.skip_motion) ≡ 0 → rows_of (predicted_only_from p.first p.skipped p.skip_motion) + (macroblock_rows p.pattern c + 0) ≡ macroblock_rows p.pattern c
    own none = omega (arith, none)

pub plan-rows-most : (p : Plan) (c : List (List ℤ)) → rows_of (macroblocks_of_plan p c) ≤ 48
plan-rows-most p c = omega (arith, plan-rows p c, macroblock-rows-most p.pattern c)

module _ (s : PictureState) (p : Plan) where
  module _ (c : List (List ℤ)) where
    pub misfit : {refusal : Refusal} → fit_verdict (record_fit s.header.size p) ≡ Err refusal → plan_applied s p c ≡ refused_record refusal s
    unfolding plan_applied_refusing
    misfit e = rw e

    pub made : fit_verdict (record_fit s.header.size p) ≡ Ok tt → plan_applied s p c ≡ record { verdict = Ok tt; state = state_after s p (rows_of (macroblocks_of_plan p c)); macroblocks = macroblocks_of_plan p c }
    unfolding plan_applied_refusing
    made e = rw e

  -- ---- the skipped macroblocks, then its own
  module _ (transform : List ℤ → ℕ → ℤ) (r : References) where
    pub own-last : (c : List (List ℤ)) (picture : List ℕ)
        → with_macroblock transform r s.header.size (own_macroblock p c) (with_macroblocks transform r s.header.size (predicted_only_from p.first p.skipped p.skip_motion) picture)
        ≡ with_macroblocks transform r s.header.size (macroblocks_of_plan p c) picture
    unfolding macroblocks_of_plan
    own-last c picture = sym (macroblocks-last transform r s.header.size (predicted_only_from p.first p.skipped p.skip_motion) (own_macroblock p c) picture)

    -- ---- if no block is coded, the coefficients don't matter
    module _ (none-coded : p.pattern ≡ 0) where
      pub own-uncoded : (c : List (List ℤ)) (picture : List ℕ) → with_macroblock transform r s.header.size (own_macroblock p c) picture ≡ with_macroblock transform r s.header.size (predicted_only p.address p.motion) picture
      own-uncoded c picture =
          let position = macroblock_position s.header.size p.address in
          rw none-coded (λ i. with_blocks position (λ block. (block-uncoded transform r position p.motion c block ∙ sym (block-uncoded transform r position p.motion [] block)) i) 6 picture)

      pub any-coefficients : (c : List (List ℤ)) (picture : List ℕ) → with_applied transform r s (plan_applied s p c) picture ≡ with_applied transform r s (plan_applied s p []) picture
      unfolding plan_applied_refusing
      any-coefficients c picture = go (fit_verdict (record_fit s.header.size p)) refl
        where
          go : (v : Result ⊤ Refusal) → fit_verdict (record_fit s.header.size p) ≡ v → with_applied transform r s (plan_applied s p c) picture ≡ with_applied transform r s (plan_applied s p []) picture
          go (Ok fits) e = rw e (sym (own-last c picture) ∙ own-uncoded c _ ∙ sym (own-uncoded [] _) ∙ own-last [] picture)
          go (Err refusal) e = rw e

  -- nor do they for the answer
  module _ (none-coded : p.pattern ≡ 0) where
    pub no_rows : (c : List (List ℤ)) → rows_of (macroblocks_of_plan p c) ≡ 0
    no_rows c = plan-rows p c ∙ rw none-coded (none-coded-rows c)

    pub same_outcome : (c : List (List ℤ)) → outcome_of (plan_applied s p c) ≡ outcome_of (plan_applied s p [])
    unfolding plan_applied_refusing
    same_outcome c = go (fit_verdict (record_fit s.header.size p)) refl
      where
        go : (v : Result ⊤ Refusal) → fit_verdict (record_fit s.header.size p) ≡ v → outcome_of (plan_applied s p c) ≡ outcome_of (plan_applied s p [])
        go (Ok fits) e = rw (e, no_rows c, no_rows [])
        go (Err refusal) e = rw e

-- ---- the fit doesn't depend on the DC pasts, so those that the blocks leave can be added later
pub same-fit : (size : PictureSize) (p : Plan) (dc : DcPasts) → record_fit size (with_dc p dc) ≡ record_fit size p
unfolding record_fit
same-fit size p dc = refl

pub later-pasts : (s : PictureState) (m : MacroblockSymbols) (running : DcPasts) → with_dc (starting_plan s m) (dc_pasts_left (is_intra m.macroblock_type) running) ≡ plan_of s.header s.next s.slice (symbols_with_dc_left m running)
unfolding plan_of
later-pasts s m running = refl
