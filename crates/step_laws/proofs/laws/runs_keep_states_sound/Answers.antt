use Rattle.step_laws.proofs.Runs.{run_sound}
use Rattle.step_laws.proofs.laws.runs_keep_states_sound.Goals as goal

pub returns : goal.returns
returns c setting start script printed refused new sound ran = run_sound c.steps_keep_states_sound.ensures setting start script printed refused new ran sound
