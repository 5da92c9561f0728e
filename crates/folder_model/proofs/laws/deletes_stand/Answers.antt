use Rattle.folder_model.proofs.Taking.{table_taken}
use Rattle.folder_model.proofs.laws.deletes_stand.Goals as goal

pub returns : goal.returns
returns c = table_taken
