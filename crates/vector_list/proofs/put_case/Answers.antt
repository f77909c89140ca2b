-- `put_case` meets its contract: it writes five fields in order, the last with the vector that the vector entry gives. Assumes nothing.
use mathlib.Core.Path.{◌≡◌, refl, ap, ◌∙◌}
use Prim.Native.Nat.{ℕ}
use native.Mathlib.Omega.{arith}
use borrow.Author.Rules.{rules}
use lib.IntN.{ℤ, pos}
use lib.ListN.{length}
use mir.Syntax.{w32}
use mir.Val.{to_z, of_z}
use mir.ValLaws.{to_z-of_z}
use Rattle.std.specs.Prelude.{Result, Ok, Err}
use Rattle.std.specs.Result.{result_unwrap_or}
use Rattle.refusals.specs.Refusal.{value_in}
use Rattle.refusals.specs.declared.Refusal.{Refusal}
use Rattle.decode_vectors.specs.Vector.{vector_value}
use Rattle.text_writer.specs.Number.{space, line_end, field, signed_field}
use Rattle.text_writer.proofs.PutLaws.{put, put_then}
use Rattle.vector_list.specs.List.{case_line}
use Rattle.vector_list.proofs.LineLaws.{line-long}
use Rattle.vector_list.proofs.put_case.Goals as goal

unwrapped : (other : ℤ) (answer : Result ℤ Refusal) → result_unwrap_or answer other ≡ value_in other answer
unwrapped other (Ok vector) = refl
unwrapped other (Err refusal) = refl

pub put_signed_field-requires : goal.put_signed_field-requires
put_signed_field-requires c =
    let past_is = to_z-of_z w32 c.args.case.past (search rules) in
    let code_is = to_z-of_z w32 c.args.case.code (search rules) in
    let vector_is : to_z w32 (of_z w32 c.unwrap_or-vector.result) ≡ vector_value c.args.f_code c.args.case.past c.args.case.code c.args.case.residual =
    to_z-of_z w32 c.unwrap_or-vector.result (search rules) ∙ c.unwrap_or-vector.ensures ∙ unwrapped (pos 0) c.decode_vector.result ∙ rw (past_is, code_is) at c.decode_vector.ensures.vector in
    omega (
      arith,
      line-long c.args.f_code c.args.case,
      ap (λ (n : ℕ). length (field n space)) c.from.ensures,
      ap (λ (n : ℕ). length (field n space)) c.from-2.ensures,
      ap (λ (z : ℤ). length (signed_field z space)) past_is,
      ap (λ (z : ℤ). length (signed_field z space)) code_is,
      ap (λ (z : ℤ). length (signed_field z line_end)) vector_is,
    )

pub returns : goal.returns
unfolding case_line
returns c =
    let past_is = to_z-of_z w32 c.args.case.past (search rules) in
    let code_is = to_z-of_z w32 c.args.case.code (search rules) in
    let vector_is : to_z w32 (of_z w32 c.unwrap_or-vector.result) ≡ vector_value c.args.f_code c.args.case.past c.args.case.code c.args.case.residual =
    to_z-of_z w32 c.unwrap_or-vector.result (search rules) ∙ c.unwrap_or-vector.ensures ∙ unwrapped (pos 0) c.decode_vector.result ∙ rw (past_is, code_is) at c.decode_vector.ensures.vector in
    let from-residual = put_then (put c.put_field-residual_end.ensures.value c.put_field-residual_end.ensures.text_after) (put c.put_signed_field.ensures.value c.put_signed_field.ensures.text_after) in
    let from-code = put_then (put c.put_signed_field-code_end.ensures.value c.put_signed_field-code_end.ensures.text_after) from-residual in
    let from_past = put_then (put c.put_signed_field-past_end.ensures.value c.put_signed_field-past_end.ensures.text_after) from-code in
    let whole = put_then (put c.put_field-f_code_end.ensures.value c.put_field-f_code_end.ensures.text_after) from_past in
    let line = rw (c.from.ensures, c.from-2.ensures, past_is, code_is, vector_is) at whole in
    record { value = line.ends; text_after = line.lies }
