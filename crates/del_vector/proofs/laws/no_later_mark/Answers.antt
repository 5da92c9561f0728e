use Rattle.del_vector.proofs.Places.{cut_epochs}
use Rattle.del_vector.proofs.laws.no_later_mark.Goals as goal

pub returns : goal.returns
returns c = λ epoch ms is position. cut_epochs 0 epoch ms is position
