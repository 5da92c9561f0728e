use Rattle.state_laws.proofs.Events.{created_state}
use Rattle.state_laws.proofs.laws.a_new_table_is_sound.Goals as goal

pub returns : goal.returns
returns c = created_state
