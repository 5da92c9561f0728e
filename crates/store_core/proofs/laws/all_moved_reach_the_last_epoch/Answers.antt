use Rattle.store_core.proofs.Ended.{all_reach}
use Rattle.store_core.proofs.laws.all_moved_reach_the_last_epoch.Goals as goal

pub returns : goal.returns
returns c = λ old new sound moves. all_reach old new sound moves
