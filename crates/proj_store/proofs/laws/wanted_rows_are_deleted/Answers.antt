use Rattle.proj_store.proofs.Marked.{prepared_takes}
use Rattle.proj_store.proofs.laws.wanted_rows_are_deleted.Goals as goal

pub returns : goal.returns
returns c = prepared_takes
