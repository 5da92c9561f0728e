use Rattle.mover_policy.proofs.ByName.{moved_by_name}
use Rattle.mover_policy.proofs.laws.moveouts_go_by_names.Goals as goal

pub returns : goal.returns
returns c = moved_by_name
