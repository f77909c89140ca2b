-- `vector_reachable` meets its contract: the first test bounds the f_code. Assumes nothing.
use mathlib.Core.Path.{sym}
use Rattle.decode_vectors.proofs.VectorLaws.{factor-most, f-code-and-past-known}
use Rattle.encode_vectors.proofs.vector_reachable.Goals as goal

pub f_of_code-requires : goal.f_of_code-requires
f_of_code-requires c = let known = f-code-and-past-known _ _ (sym c.if-f_code_and_past_in_range.ensures) in (known.least, known.most)

pub past_in_range-requires : goal.past_in_range-requires
past_in_range-requires c = rw c.f_of_code.ensures (factor-most _ (f-code-and-past-known _ _ (sym c.if-f_code_and_past_in_range.ensures)).most)
