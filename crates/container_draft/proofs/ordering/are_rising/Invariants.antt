use Rattle.container_draft.proofs.ByLeads.{RiseTo}
use Rattle.container_draft.proofs.ordering.are_rising.Given as goal

abbrev pub invariant-loop-place : goal.invariant-loop-place
invariant-loop-place l = RiseTo l.shape l.rows l.places l.place-index l.last
