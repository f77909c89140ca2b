-- `vector::f_code_and_past_in_range` meets its contract: an f_code up to 7 gives an f that `past_in_range` takes. Assumes nothing.
use Prim.Native.Nat.{◌≤◌}
use borrow.Author.Rules.{rules}
use Rattle.decode_vectors.proofs.VectorLaws.{factor-most}
use Rattle.decode_vectors.proofs.vector.f_code_and_past_in_range.Goals as goal

pub past_in_range-requires : goal.past_in_range-requires
past_in_range-requires c = let most : c.args.f_code ≤ 7 = search rules in rw c.f_of_code.ensures (factor-most _ most)
