-- `put_cases_of_past` meets its contract: the lines of each code so far are written. Assumes nothing.
use lib.IntN.{negsuc}
use mir.Syntax.{w32}
use mir.Val.{of_z}
use Rattle.decode_vectors.specs.Vector.{f_of}
use Rattle.vector_list.specs.Cases.{code_count}
use Rattle.vector_list.proofs.BlockLaws.{code_lines}
use Rattle.vector_list.proofs.LoopLaws.{PutFrom}
use Rattle.vector_list.proofs.put_cases_of_past.Given as goal

abbrev pub invariant-loop-code : goal.invariant-loop-code
invariant-loop-code l = PutFrom (negsuc 15) code_count (code_lines l.f_code (f_of l.f_code) l.past) l.at l.initial.text (of_z w32 l.code) l.end l.text
