use Rattle.std.proofs.Common.{ap}
use Rattle.catalog_types.specs.Numbers.{table_spans}
use Rattle.table_store.proofs.store.prepare_table.Goals as goal

pub with_table-requires-clause-bare : goal.with_table-requires-clause-bare
with_table-requires-clause-bare c = ap table_spans c.in_ok-table.ensures
