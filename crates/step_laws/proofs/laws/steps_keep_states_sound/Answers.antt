use Rattle.step_laws.proofs.Steps.{stepped}
use Rattle.step_laws.proofs.laws.steps_keep_states_sound.Goals as goal

pub returns : goal.returns
returns c = stepped c.loaded_rows_fit.ensures.fit
