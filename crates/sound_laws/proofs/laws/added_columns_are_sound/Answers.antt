use Rattle.sound_laws.proofs.Widened.{widened_sound}
use Rattle.sound_laws.proofs.laws.added_columns_are_sound.Goals as goal

pub returns : goal.returns
returns c = widened_sound
