-- `vector::decode_vector` meets its contract: the test bounds the numbers for `next_vector`. Assumes nothing.
use mathlib.Core.Path.{sym}
use native.Mathlib.Nat.{lt_of_lt_of_le}
use Rattle.decode_vectors.proofs.VectorLaws.{factor-most, all_known}
use Rattle.decode_vectors.proofs.WrapLaws.{inside-within}
use Rattle.decode_vectors.proofs.vector.decode_vector.Goals as goal

pub f_of_code-requires : goal.f_of_code-requires
f_of_code-requires c = let known = all_known _ _ _ _ (sym c.if-not-vector_entry_in_range.ensures) in (known.of-past.least, known.of-past.most)

pub next_vector-requires : goal.next_vector-requires
next_vector-requires c =
    let known = all_known _ _ _ _ (sym c.if-not-vector_entry_in_range.ensures) in
    let most = factor-most _ known.of-past.most in
    (rw c.f_of_code.ensures most, inside-within _ _ most known.of-past.range, known.code-size, lt_of_lt_of_le known.residual-size most)
