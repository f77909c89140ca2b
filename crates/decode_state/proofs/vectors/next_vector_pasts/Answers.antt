-- `vectors::next_vector_pasts` meets its contract: the pasts before the macroblock are in range, so its codes can be added. Assumes nothing.
use Rattle.decode_state.proofs.PlanLaws.{before-within}
use Rattle.decode_state.proofs.vectors.next_vector_pasts.Goals as goal

pub vector_pasts_after-requires : goal.vector_pasts_after-requires
vector_pasts_after-requires c = (c.requires.0, rw c.vector_pasts_before-pasts.ensures (before-within _ _ _ c.requires.1))
