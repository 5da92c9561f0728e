use Rattle.state_laws.proofs.Events.{dropped_state}
use Rattle.state_laws.proofs.laws.tables_may_be_dropped.Goals as goal

pub returns : goal.returns
returns c = dropped_state
