-- `put_cases` meets its contract: the lines of each past so far are written. Assumes nothing.
use mathlib.Core.Path.{◌≡◌}
use Prim.Native.Nat.{◌+◌}
use native.Mathlib.Omega.{arith}
use lib.IntN.{pos, ◌+ℤ◌}
use mir.Syntax.{w32}
use mir.Val.{to_z}
use Rattle.decode_vectors.specs.Vector.{f_of, lowest}
use Rattle.decode_vectors.proofs.VectorLaws.{factor-most}
use Rattle.text_writer.proofs.PutLaws.{put, block-fits, put-block, put_all}
use Rattle.std.proofs.lemmas.Int.{ints}
use Rattle.vector_list.proofs.BlockLaws.{past-lines}
use Rattle.vector_list.proofs.LoopLaws.{from-none}
use Rattle.vector_list.proofs.put_cases.Goals as goal

pub loop-past-init : goal.loop-past-init
loop-past-init c = from-none (omega (arith, ints, factor-most))

pub put_cases_of_past-end-requires-clause-past_in_bounds : goal.put_cases_of_past-end-requires-clause-past_in_bounds
put_cases_of_past-end-requires-clause-past_in_bounds c =
    let p = c.loop-past.invariant in
    let past_is : to_z w32 c.loop-past.past-bits ≡ lowest (pos (f_of c.args.f_code)) +ℤ pos p.k = omega (arith, ints, factor-most) in
    rw past_is (block-fits p.done (omega (arith, ints, factor-most)) (rw past-lines at c.requires.f_code_in_bounds))

pub loop-past-preserved : goal.loop-past-preserved
loop-past-preserved c =
    let p = c.loop-past.invariant in
    let past_is : to_z w32 c.loop-past.past-bits ≡ lowest (pos (f_of c.args.f_code)) +ℤ pos p.k = omega (arith, ints, factor-most) in
    let lines = rw past_is at (put c.put_cases_of_past-end.ensures.value c.put_cases_of_past-end.ensures.text_after) in
    record { k = p.k + 1; here = omega (arith, ints, factor-most); done = put-block p.done (omega (arith, ints, factor-most)) lines }

pub returns : goal.returns
returns c =
    let all = rw (← past-lines c.args.f_code (f_of c.args.f_code)) at (put_all c.loop-past.invariant.done (omega (arith, ints, factor-most))) in
    record { value = all.ends; text_after = all.lies }
