use Rattle.row_history.proofs.Inserting.{alike_inserted}
use Rattle.row_history.proofs.laws.inserts_stay_alike.Goals as goal

pub returns : goal.returns
returns c = alike_inserted
