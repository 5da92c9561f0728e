use Rattle.change_laws.proofs.Updated.{updated_state}
use Rattle.change_laws.proofs.laws.updates_are_sound.Goals as goal

pub returns : goal.returns
returns c = updated_state
