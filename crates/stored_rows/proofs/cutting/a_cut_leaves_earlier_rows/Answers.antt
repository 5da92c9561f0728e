use Rattle.stored_rows.proofs.EarlyCuts.{cut_same}
use Rattle.stored_rows.proofs.EarlyHeld.{entry_same}
use Rattle.stored_rows.proofs.cutting.a_cut_leaves_earlier_rows.Goals as goal

pub returns : goal.returns
returns c = record { rows = cut_same; held = entry_same }
