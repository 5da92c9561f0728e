use Rattle.folder_model.proofs.LastGoods.{good_same}
use Rattle.folder_model.proofs.laws.last_good_is_reached.Goals as goal

pub returns : goal.returns
returns c = good_same
