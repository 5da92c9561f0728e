use Rattle.sound_laws.proofs.Moved.{moved_sound}
use Rattle.sound_laws.proofs.laws.moveouts_are_sound.Goals as goal

pub returns : goal.returns
returns c = moved_sound
