use Rattle.db_laws.proofs.Sounds.{opened_sound, cut_sound}
use Rattle.db_laws.proofs.laws.openings_are_sound.Goals as goal

pub returns : goal.returns
returns c = record { opened = opened_sound; cut = cut_sound }
