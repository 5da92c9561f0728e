use Rattle.state_laws.proofs.Shaped.{shaped_state}
use Rattle.state_laws.proofs.laws.a_new_projection_is_sound.Goals as goal

pub returns : goal.returns
returns c = shaped_state
