-- `vector::vector_entry_in_range` meets its contract: the first test bounds the f_code. Assumes nothing.
use mathlib.Core.Path.{sym, ◌∙◌}
use Rattle.math.proofs.Test.{clash}
use Rattle.decode_vectors.proofs.VectorLaws.{f-code-and-past-known}
use Rattle.decode_vectors.proofs.vector.vector_entry_in_range.Goals as goal
use Rattle.decode_vectors.proofs.vector.vector_entry_in_range.Goals.{then-f_code_and_past_in_range, else-f_code_and_past_in_range}

pub f_of_code-requires : goal.f_of_code-requires
f_of_code-requires c = elim c.if-f_code_and_past_in_range.branch [
  | then-f_code_and_past_in_range w ↦ let known = f-code-and-past-known _ _ (sym c.f_code_and_past_in_range.ensures ∙ w.if-f_code_and_past_in_range.true) in (known.least, known.most)
  | else-f_code_and_past_in_range w ↦ clash c.if-code_in_range.true (w.value-is ∙ w.if-f_code_and_past_in_range.false)
]
