use Rattle.catalog_laws.proofs.Alone.{entry_kept}
use Rattle.catalog_laws.proofs.laws.an_entry_keeps_its_table_valid.Goals as goal

pub returns : goal.returns
returns c = entry_kept
