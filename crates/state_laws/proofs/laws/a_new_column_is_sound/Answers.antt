use Rattle.state_laws.proofs.Added.{added_state}
use Rattle.state_laws.proofs.laws.a_new_column_is_sound.Goals as goal

pub returns : goal.returns
returns c = added_state
