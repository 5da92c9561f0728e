use Rattle.state_laws.proofs.Events.{dropped_changes}
use Rattle.state_laws.proofs.laws.changes_may_be_dropped.Goals as goal

pub returns : goal.returns
returns c = dropped_changes
