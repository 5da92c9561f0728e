use Rattle.change_laws.proofs.Deleted.{deleted_state}
use Rattle.change_laws.proofs.laws.deletes_are_sound.Goals as goal

pub returns : goal.returns
returns c = deleted_state
