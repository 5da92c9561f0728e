use Rattle.folder_model.proofs.Committing.{stands_undone}
use Rattle.folder_model.proofs.laws.undone_commits_stand.Goals as goal

pub returns : goal.returns
returns g c = λ old new version k stores d stands moved each. stands_undone g.D.Disk version k stores d stands moved each
