use Rattle.state_laws.proofs.Unshaped.{unshaped_state}
use Rattle.state_laws.proofs.laws.projections_may_be_dropped.Goals as goal

pub returns : goal.returns
returns c = unshaped_state
