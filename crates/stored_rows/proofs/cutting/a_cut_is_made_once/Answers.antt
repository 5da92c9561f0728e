use Rattle.stored_rows.proofs.EarlyCuts.{all_up, cut_twice}
use Rattle.stored_rows.proofs.cutting.a_cut_is_made_once.Goals as goal

pub returns : goal.returns
returns c = record { left = all_up; again = cut_twice }
