use Rattle.state_laws.proofs.Reached.{all_raised, risen_state}
use Rattle.state_laws.proofs.laws.risen_states_are_sound.Goals as goal

pub returns : goal.returns
returns c = record { one = risen_state; all = λ meant stopped old new raises sound. all_raised meant stopped old new raises sound }
