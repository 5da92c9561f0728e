use Rattle.sound_laws.proofs.Created.{created_sound}
use Rattle.sound_laws.proofs.laws.created_tables_are_sound.Goals as goal

pub returns : goal.returns
returns c = created_sound
