use Rattle.folder_model.proofs.Committing.{commit_reopens}
use Rattle.folder_model.proofs.laws.a_commit_reopens.Goals as goal

pub returns : goal.returns
returns g c = λ k n stores others disk version d e stands are sound drawn x is. commit_reopens k n stores others _ _ version d e stands are sound drawn x is
