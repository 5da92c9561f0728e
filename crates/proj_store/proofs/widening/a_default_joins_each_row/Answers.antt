use Rattle.proj_store.proofs.Wider.{stores_wide, wide_above}
use Rattle.proj_store.proofs.widening.a_default_joins_each_row.Goals as goal

pub returns : goal.returns
returns c = record { stores = stores_wide; above = wide_above }
