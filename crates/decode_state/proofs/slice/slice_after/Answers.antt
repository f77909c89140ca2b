-- `slice::slice_after` meets its contract: each field is the macroblock's, or a call's result. Assumes nothing.
use Rattle.decode_state.proofs.PlanLaws.{pasts-within}
use Rattle.decode_state.proofs.slice.slice_after.Goals as goal

pub own_motion-motion-requires : goal.own_motion-motion-requires
own_motion-motion-requires c = rw c.next_vector_pasts-pasts.ensures (pasts-within _ _ _ c.requires)
