use Rattle.cut_model.proofs.Cutting.{cut_reopens}
use Rattle.cut_model.proofs.laws.a_cut_reopens.Goals as goal

pub returns : goal.returns
returns c = cut_reopens
