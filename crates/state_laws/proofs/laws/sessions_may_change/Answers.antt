use Rattle.state_laws.proofs.Events.{current_sound}
use Rattle.state_laws.proofs.laws.sessions_may_change.Goals as goal

pub returns : goal.returns
returns c = current_sound
