use Rattle.cut_model.proofs.Uncut.{root_uncut}
use Rattle.cut_model.proofs.laws.nothing_later_needs_no_cut.Goals as goal

pub returns : goal.returns
returns c = root_uncut
