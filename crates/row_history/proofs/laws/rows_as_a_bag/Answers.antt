use Rattle.row_history.proofs.Histories.{bag_visible, bag_retained, bag_cut}
use Rattle.row_history.proofs.laws.rows_as_a_bag.Goals as goal

pub returns : goal.returns
returns c = record { seen = bag_visible; kept = bag_retained; cut = bag_cut }
