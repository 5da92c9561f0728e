use Rattle.state_laws.proofs.Marked.{raised_state}
use Rattle.state_laws.proofs.laws.marks_up_to_the_last_good_epoch_are_sound.Goals as goal

pub returns : goal.returns
returns c = raised_state
