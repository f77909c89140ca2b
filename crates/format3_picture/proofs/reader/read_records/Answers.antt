-- `reader::read_records` meets its contract: the macroblocks made so far plus those still in the file make up the picture.
-- The measure is the number of bytes left. Assumes nothing.
use Prim.Native.Nat.{ℕ}
use mathlib.Core.Path.{◌≡◌, sym, ap, ◌∙◌, subst}
use native.Mathlib.Nat.{add-sub_cancel_left}
use native.Mathlib.Omega.{arith}
use borrow.Author.Tests.{eq-eqb, ne_eqb}
use lib.ListN.{take, drop}
use Rattle.std.specs.Prelude.{Ok}
use Rattle.format3_records.specs.Record.{matrix_kind}
use Rattle.format3_records.proofs.Laws.Record.{Inside, inside}
use Rattle.format3_picture.specs.declared.state.PictureState.{PictureState}
use Rattle.format3_picture.specs.Step.{record_applied}
use Rattle.format3_picture.proofs.ReaderLaws.{whole-start, whole-done, whole-unfound, whole-stops, whole-goes, goes-on}
use Rattle.format3_picture.proofs.RecordLaws.{matrix-long, outcome-passed}
use Rattle.format3_picture.proofs.reader.read_records.Goals as goal

pub loop-at-init : goal.loop-at-init
loop-at-init c =
    rw (c.default_matrices-matrices.ensures, c.start_state-picture.ensures) (whole-start _ _ _ _ _ _ c.requires.0 c.requires.1 c.requires.2)

pub returns-in-Err-clause-value : goal.returns-in-Err-clause-value
returns-in-Err-clause-value c =
    let same-header : c.start_state-picture.result.header ≡ c.args.header = ap (λ (s : PictureState). s.header) c.start_state-picture.ensures in
    let whole = rw same-header at (whole-unfound _ _ _ c.loop-at.invariant c.loop-at-test.true (sym c.record_at.ensures ∙ c.in-Err.is)) in
    c.refused_at.ensures ∙ sym whole.0

pub returns-in-Err-clause-output_after : goal.returns-in-Err-clause-output_after
returns-in-Err-clause-output_after c =
    let same-header : c.start_state-picture.result.header ≡ c.args.header = ap (λ (s : PictureState). s.header) c.start_state-picture.ensures in
    let whole = rw same-header at (whole-unfound _ _ _ c.loop-at.invariant c.loop-at-test.true (sym c.record_at.ensures ∙ c.in-Err.is)) in
    whole.1

-- ---- the record's body lies in the file
pub overflow_add-end : goal.overflow_add-end
overflow_add-end c =
    let within = (subst (Inside c.args.file.now) (sym c.record_at.ensures ∙ c.in-Ok.is) (inside c.args.file.now c.loop-at.at)).fits in
    omega (arith, within, c.well_formed.0.0)

pub slice_bounds-body-end : goal.slice_bounds-body-end
slice_bounds-body-end c = (subst (Inside c.args.file.now) (sym c.record_at.ensures ∙ c.in-Ok.is) (inside c.args.file.now c.loop-at.at)).fits

-- ---- it is refused
pub returns-in-Err-apply_record-clause-value : goal.returns-in-Err-apply_record-clause-value
returns-in-Err-apply_record-clause-value c =
    let same-header : c.start_state-picture.result.header ≡ c.args.header = ap (λ (s : PictureState). s.header) c.start_state-picture.ensures in
    let applied = rw add-sub_cancel_left at c.apply_record.ensures in
    let whole = rw same-header at (whole-stops _ _ _ c.loop-at.invariant c.loop-at-test.true (sym c.record_at.ensures ∙ c.in-Ok.is) applied.output_after (sym applied.value ∙ c.in-Err-apply_record.is)) in
    c.refused_at-in-Err-apply_record.ensures ∙ sym whole.0

pub returns-in-Err-apply_record-clause-output_after : goal.returns-in-Err-apply_record-clause-output_after
returns-in-Err-apply_record-clause-output_after c =
    let same-header : c.start_state-picture.result.header ≡ c.args.header = ap (λ (s : PictureState). s.header) c.start_state-picture.ensures in
    let applied = rw add-sub_cancel_left at c.apply_record.ensures in
    let whole = rw same-header at (whole-stops _ _ _ c.loop-at.invariant c.loop-at-test.true (sym c.record_at.ensures ∙ c.in-Ok.is) applied.output_after (sym applied.value ∙ c.in-Err-apply_record.is)) in
    whole.1

-- ---- it passes: the matrices after it, and the records that follow
pub load_matrix-matrices-requires : goal.load_matrix-matrices-requires
load_matrix-matrices-requires c =
    let applied = rw add-sub_cancel_left at c.apply_record.ensures in
    let body = take c.in-Ok.record.length (drop c.in-Ok.record.start c.args.file.now) in
    let passed = (outcome-passed (record_applied c.loop-at.matrices c.loop-at.picture c.in-Ok.record.kind body) (sym applied.value ∙ c.in-Ok-apply_record.is)).0 in
    rw add-sub_cancel_left
    (matrix-long c.loop-at.matrices c.loop-at.picture body (subst (λ (kind : ℕ). (record_applied c.loop-at.matrices c.loop-at.picture kind body).verdict ≡ Ok tt) c.if-record-eq-MATRIX_KIND.true passed))

pub loop-at-smaller-then-record-eq-MATRIX_KIND : goal.loop-at-smaller-then-record-eq-MATRIX_KIND
loop-at-smaller-then-record-eq-MATRIX_KIND c =
    let applied = rw add-sub_cancel_left at c.apply_record.ensures in
    let ends = goes-on _ _ _ c.loop-at.invariant c.loop-at-test.true (sym c.record_at.ensures ∙ c.in-Ok.is) (sym applied.value ∙ c.in-Ok-apply_record.is) in
    omega (arith, ends.beyond, ends.in-file)

pub loop-at-smaller : goal.loop-at-smaller
loop-at-smaller c =
    let applied = rw add-sub_cancel_left at c.apply_record.ensures in
    let ends = goes-on _ _ _ c.loop-at.invariant c.loop-at-test.true (sym c.record_at.ensures ∙ c.in-Ok.is) (sym applied.value ∙ c.in-Ok-apply_record.is) in
    omega (arith, ends.beyond, ends.in-file)

pub loop-at-preserved-then-record-eq-MATRIX_KIND : goal.loop-at-preserved-then-record-eq-MATRIX_KIND
loop-at-preserved-then-record-eq-MATRIX_KIND c =
    let applied = rw add-sub_cancel_left at c.apply_record.ensures in
    let whole = whole-goes _ _ _ c.loop-at.invariant c.loop-at-test.true (sym c.record_at.ensures ∙ c.in-Ok.is) applied.output_after (sym applied.value ∙ c.in-Ok-apply_record.is) c.apply_record.auto.output in
    let loaded = rw add-sub_cancel_left at c.load_matrix-matrices.ensures in
    rw loaded (rw (eq-eqb c.in-Ok.record.kind matrix_kind c.if-record-eq-MATRIX_KIND.true) at whole)

pub loop-at-preserved : goal.loop-at-preserved
loop-at-preserved c =
    let applied = rw add-sub_cancel_left at c.apply_record.ensures in
    let whole = whole-goes _ _ _ c.loop-at.invariant c.loop-at-test.true (sym c.record_at.ensures ∙ c.in-Ok.is) applied.output_after (sym applied.value ∙ c.in-Ok-apply_record.is) c.apply_record.auto.output in
    rw (ne_eqb c.in-Ok.record.kind matrix_kind c.if-record-eq-MATRIX_KIND.false) at whole

-- ---- no record is left
pub returns-clause-value : goal.returns-clause-value
returns-clause-value c =
    let same-header : c.start_state-picture.result.header ≡ c.args.header = ap (λ (s : PictureState). s.header) c.start_state-picture.ensures in
    let whole = rw same-header at (whole-done _ _ _ c.loop-at.invariant c.loop-at-test.false) in
    c.answer_at_end.ensures ∙ sym whole.0

pub returns-clause-output_after : goal.returns-clause-output_after
returns-clause-output_after c =
    let same-header : c.start_state-picture.result.header ≡ c.args.header = ap (λ (s : PictureState). s.header) c.start_state-picture.ensures in
    let whole = rw same-header at (whole-done _ _ _ c.loop-at.invariant c.loop-at-test.false) in
    whole.1
