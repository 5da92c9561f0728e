use Rattle.folder_model.proofs.Committing.{stands_committed}
use Rattle.folder_model.proofs.laws.commits_stand.Goals as goal

pub returns : goal.returns
returns g c = λ disk version k stores m d are sound drawn replaced. stands_committed _ _ version k stores m d are sound drawn replaced
