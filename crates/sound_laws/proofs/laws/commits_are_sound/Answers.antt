use Rattle.sound_laws.proofs.Committed.{committed_sound}
use Rattle.sound_laws.proofs.laws.commits_are_sound.Goals as goal

pub returns : goal.returns
returns c = committed_sound
