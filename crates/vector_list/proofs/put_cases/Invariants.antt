-- `put_cases` meets its contract: the lines of each past so far are written. Assumes nothing.
use lib.IntN.{pos}
use mir.Syntax.{w32}
use mir.Val.{of_z}
use Rattle.decode_vectors.specs.Vector.{f_of, lowest}
use Rattle.vector_list.specs.Cases.{past_count}
use Rattle.vector_list.proofs.BlockLaws.{past_lines}
use Rattle.vector_list.proofs.LoopLaws.{PutFrom}
use Rattle.vector_list.proofs.put_cases.Given as goal

abbrev pub invariant-loop-past : goal.invariant-loop-past
invariant-loop-past l = PutFrom (lowest (pos (f_of l.f_code))) (past_count (f_of l.f_code)) (past_lines l.f_code (f_of l.f_code)) l.at l.initial.text (of_z w32 l.past) l.end l.text
