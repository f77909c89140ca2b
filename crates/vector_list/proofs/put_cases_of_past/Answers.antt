-- `put_cases_of_past` meets its contract: the lines of each code so far are written. Assumes nothing.
use mathlib.Core.Path.{◌≡◌, refl}
use Prim.Native.Nat.{◌+◌}
use native.Mathlib.Omega.{arith}
use lib.IntN.{pos, negsuc, ◌+ℤ◌}
use mir.Syntax.{w32}
use mir.Val.{to_z}
use mir.ValLaws.{to_z-of_z}
use Rattle.decode_vectors.specs.Vector.{f_of}
use Rattle.text_writer.proofs.PutLaws.{put, block-fits, put-block, put_all}
use Rattle.std.proofs.lemmas.Int.{ints}
use Rattle.vector_list.proofs.BlockLaws.{code_lines_lem}
use Rattle.vector_list.proofs.LoopLaws.{from-none}
use Rattle.vector_list.proofs.put_cases_of_past.Goals as goal

pub loop-code-init : goal.loop-code-init
loop-code-init c = from-none refl

pub put_cases_of_code-end-requires-clause-code_in_bounds : goal.put_cases_of_code-end-requires-clause-code_in_bounds
put_cases_of_code-end-requires-clause-code_in_bounds c =
    let p = c.loop-code.invariant in
    let code_is : to_z w32 c.loop-code.code-bits ≡ negsuc 15 +ℤ pos p.k = omega (arith, ints) in
    let whole = rw code_lines_lem at c.requires.past_in_bounds in
    rw code_is (block-fits p.done (omega (arith, ints)) (rw (to_z-of_z w32 c.args.past c.ranges.past) whole))

pub loop-code-preserved : goal.loop-code-preserved
loop-code-preserved c =
    let p = c.loop-code.invariant in
    let code_is : to_z w32 c.loop-code.code-bits ≡ negsuc 15 +ℤ pos p.k = omega (arith, ints) in
    let lines = rw code_is at (put c.put_cases_of_code-end.ensures.value c.put_cases_of_code-end.ensures.text_after) in
    record { k = p.k + 1; here = omega (arith, ints); done = put-block p.done (omega (arith, ints)) lines }

pub returns : goal.returns
returns c =
    let all = rw (to_z-of_z w32 c.args.past c.ranges.past, ← code_lines_lem c.args.f_code (f_of c.args.f_code) c.args.past) at (put_all c.loop-code.invariant.done (omega (arith, ints))) in
    record { value = all.ends; text_after = all.lies }
