use Rattle.cut_model.proofs.Staying.{opens_stay, cut_stays, undrawn_spare}
use Rattle.cut_model.proofs.laws.other_files_stay.Goals as goal

pub returns : goal.returns
returns c = record { opens = opens_stay; is_cut = cut_stays; undrawn = undrawn_spare }
