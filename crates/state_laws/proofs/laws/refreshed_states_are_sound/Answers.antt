use Rattle.state_laws.proofs.Reached.{all_refreshed, refreshed_state, started_state}
use Rattle.state_laws.proofs.laws.refreshed_states_are_sound.Goals as goal

pub returns : goal.returns
returns c = record { one = refreshed_state; all = all_refreshed; started = started_state }
