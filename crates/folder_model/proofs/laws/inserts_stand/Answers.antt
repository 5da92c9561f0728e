use Rattle.folder_model.proofs.Inserting.{table_inserted}
use Rattle.folder_model.proofs.laws.inserts_stand.Goals as goal

pub returns : goal.returns
returns c = table_inserted
