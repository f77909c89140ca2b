-- `decode_idct::inverse_transform` meets its contract: the two passes give the double sum, and so does the short way if the DC is alone.
-- Assumes nothing.
use Prim.Native.Nat.{◌^◌}
use mathlib.Core.List.{List}
use mathlib.Core.Path.{◌≡◌, sym, ap, ◌∙◌, subst}
use mathlib.Core.Bool.{true}
use borrow.Author.Tests.{not-false}
use lib.IntN.{ℤ}
use mir.Syntax.{w16}
use mir.Val.{to_z, of_z}
use Rattle.math.specs.Bound.{at, AllWithin}
use borrow.Author.Rules.{rules}
use Rattle.math.specs.Tab.{tab}
use Rattle.decode_coefficients.proofs.MarkLaws.{is_dc_alone, ac-marked}
use Rattle.decode_idct.proofs.DcAlone.{dc-residues, dc-rows}
use Rattle.decode_idct.proofs.Passes.{pass-within, passes}
use Rattle.decode_idct.specs.Line.{pass_result, residue_of}
use Rattle.decode_idct.proofs.inverse_transform.Goals as goal

pub returns-then-not-has_ac-clause-values : goal.returns-then-not-has_ac-clause-values
returns-then-not-has_ac-clause-values c =
    let same-dc : let dc = at c.args.coefficients 0 in to_z w16 (of_z w16 dc) ≡ dc = search rules in
    let alone : is_dc_alone c.args.coefficients ≡ true = not-false _ (sym (ac-marked c.requires.1) ∙ sym c.has_ac.ensures ∙ c.if-not-has_ac.true) in
    rw same-dc at c.dc_residues.ensures.values_value ∙ sym (dc-residues c.args.coefficients alone)

pub returns-then-not-has_ac-clause-rows : goal.returns-then-not-has_ac-clause-rows
returns-then-not-has_ac-clause-rows c =
    let same-dc : let dc = at c.args.coefficients 0 in to_z w16 (of_z w16 dc) ≡ dc = search rules in
    let alone : is_dc_alone c.args.coefficients ≡ true = not-false _ (sym (ac-marked c.requires.1) ∙ sym c.has_ac.ensures ∙ c.if-not-has_ac.true) in
    rw same-dc at c.dc_residues.ensures.rows_value ∙ sym (dc-rows c.args.coefficients alone)

pub column_pass-requires : goal.column_pass-requires
column_pass-requires c = subst (AllWithin (2 ^ 34)) (sym c.row_pass-row_pass.ensures.numbers_value) (pass-within _ c.requires.0)

pub returns-clause-values : goal.returns-clause-values
returns-clause-values c = let rows = c.row_pass-row_pass.ensures in
    c.column_pass.ensures ∙ ap (λ (t : List ℤ). tab 64 (λ k. residue_of (pass_result t k))) rows.numbers_value ∙ passes _
