use Rattle.folder_model.proofs.Committing.{stands_moved}
use Rattle.folder_model.proofs.laws.other_files_move.Goals as goal

pub returns : goal.returns
returns g c = λ old new k stores d stands moved. stands_moved g.D.Disk k stores d stands (λ q is. is) (λ q is. is) moved
