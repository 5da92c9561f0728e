use Rattle.steps_exist.proofs.Drained.{moveouts_reach}
use Rattle.steps_exist.proofs.Moves.{all_moved, mover_steps}
use Rattle.steps_exist.proofs.laws.every_state_moves_on.Goals as goal

pub returns : goal.returns
returns c = record { step = mover_steps; all = λ old sound. all_moved old sound.database.names; reached = moveouts_reach }
