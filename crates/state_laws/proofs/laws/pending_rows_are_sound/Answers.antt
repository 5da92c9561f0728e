use Rattle.state_laws.proofs.Events.{pending_state}
use Rattle.state_laws.proofs.laws.pending_rows_are_sound.Goals as goal

pub returns : goal.returns
returns c = pending_state
