use Rattle.state_laws.proofs.Reached.{all_moved}
use Rattle.step_laws.proofs.Moves.{mover_stepped}
use Rattle.step_laws.proofs.laws.moves_keep_states_sound.Goals as goal

pub returns : goal.returns
returns c = record { mover = mover_stepped; all = all_moved }
