use Rattle.cut_model.proofs.Least.{mark_reached, least_closed}
use Rattle.cut_model.proofs.laws.a_valid_mark_is_reached.Goals as goal

pub returns : goal.returns
returns c = record { mark = mark_reached; last = least_closed }
