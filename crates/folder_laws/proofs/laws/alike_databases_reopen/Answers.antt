use Rattle.folder_laws.proofs.Open.{reopened_alike}
use Rattle.folder_laws.proofs.laws.alike_databases_reopen.Goals as goal

pub returns : goal.returns
returns c = reopened_alike
