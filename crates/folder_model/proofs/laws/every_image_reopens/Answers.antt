use Rattle.folder_model.proofs.Committing.{stands_reopens}
use Rattle.folder_model.proofs.laws.every_image_reopens.Goals as goal

pub returns : goal.returns
returns g c = λ k stores disk d stands x is. stands_reopens k stores _ _ d stands x is
