use Rattle.alike_laws.proofs.Sound.{session_alike}
use Rattle.alike_laws.proofs.laws.alike_changes_are_sound.Goals as goal

pub returns : goal.returns
returns c = session_alike
