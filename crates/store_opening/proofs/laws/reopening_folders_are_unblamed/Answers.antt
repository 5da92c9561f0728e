use Rattle.store_opening.proofs.Unblamed.{reopening_unblamed}
use Rattle.store_opening.proofs.laws.reopening_folders_are_unblamed.Goals as goal

pub returns : goal.returns
returns c = reopening_unblamed
