use Rattle.proj_store.proofs.Vectors.{valid_loads}
use Rattle.proj_store.proofs.laws.valid_entries_load.Goals as goal

pub returns : goal.returns
returns c = valid_loads
