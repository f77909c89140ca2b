-- `put_cases_of_code` meets its contract: a line for each residual so far is written. Assumes nothing.
use Rattle.text_writer.proofs.PutLaws.{PutBlocks}
use Rattle.vector_list.proofs.BlockLaws.{residual_line}
use Rattle.vector_list.proofs.put_cases_of_code.Given as goal

abbrev pub invariant-loop-residual : goal.invariant-loop-residual
invariant-loop-residual l = PutBlocks (residual_line l.f_code l.past l.code) l.count l.at l.initial.text l.residual l.end l.text
