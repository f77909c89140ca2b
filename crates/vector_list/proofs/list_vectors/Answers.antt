-- `list_vectors` meets its contract: the lines of f_code 1, then those of f_code 2, which the buffer has room for. Assumes nothing.
use mathlib.Core.Path.{◌≡◌}
use Prim.Native.Nat.{◌+◌}
use native.Mathlib.Omega.{arith}
use lib.ListN.{length, length-append}
use Rattle.text_writer.proofs.PutLaws.{put, put_then, put_whole}
use Rattle.vector_list.specs.Cases.{cases_of}
use Rattle.vector_list.specs.List.{case_lines, vector_list}
use Rattle.vector_list.proofs.LineLaws.{list-fits}
use Rattle.vector_list.proofs.list_vectors.Goals as goal

list-long : length vector_list ≡ length (case_lines 1 (cases_of 1)) + length (case_lines 2 (cases_of 2))
unfolding vector_list
list-long = length-append (case_lines 1 (cases_of 1)) (case_lines 2 (cases_of 2))

pub put_cases-first_end-requires-clause-f_code_in_bounds : goal.put_cases-first_end-requires-clause-f_code_in_bounds
put_cases-first_end-requires-clause-f_code_in_bounds c = omega (arith, list-long, list-fits)

pub put_cases-requires-clause-f_code_in_bounds : goal.put_cases-requires-clause-f_code_in_bounds
put_cases-requires-clause-f_code_in_bounds c = omega (arith, list-long, list-fits)

pub returns : goal.returns
unfolding vector_list
returns c =
    let all = put_whole (omega (arith, list-fits)) (put_then (put c.put_cases-first_end.ensures.value c.put_cases-first_end.ensures.text_after) (put c.put_cases.ensures.value c.put_cases.ensures.text_after)) in
    record { prefix_len = all.0; value = all.1.0; text_after = all.1.1 }
