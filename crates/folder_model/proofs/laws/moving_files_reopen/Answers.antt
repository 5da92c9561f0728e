use Rattle.folder_model.proofs.Committing.{moved_reopens}
use Rattle.folder_model.proofs.laws.moving_files_reopen.Goals as goal

pub returns : goal.returns
returns g c = λ old new k stores d stands moved. moved_reopens g.D.Disk k stores d stands (λ q is. is) (λ q is. is) moved
