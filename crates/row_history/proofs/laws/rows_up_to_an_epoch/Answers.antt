use Rattle.row_history.proofs.Histories.{retained_cut, visible_retained, retained_later, cut_append, cut_none}
use Rattle.row_history.proofs.laws.rows_up_to_an_epoch.Goals as goal

pub returns : goal.returns
returns c = record { cut = retained_cut; seen = visible_retained; later_mark = retained_later; joined = cut_append; later_rows = cut_none }
