use Rattle.row_history.proofs.Taking.{taken_alike, mark_takes}
use Rattle.row_history.proofs.laws.deletes_stay_alike.Goals as goal

pub returns : goal.returns
returns c = record { alike = taken_alike; marked = mark_takes }
