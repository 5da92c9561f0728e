use Rattle.folder_laws.proofs.Alike.{alike_reopened}
use Rattle.folder_laws.proofs.laws.one_folder_reopens_alike.Goals as goal

pub returns : goal.returns
returns c = alike_reopened c.one_list_of_rows.ensures.held
