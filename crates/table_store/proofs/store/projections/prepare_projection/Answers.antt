use Rattle.std.proofs.Common.{ap}
use Rattle.catalog_types.specs.Numbers.{projection_spans}
use Rattle.table_store.proofs.store.projections.prepare_projection.Goals as goal

pub with_projection_at-requires-clause-bare : goal.with_projection_at-requires-clause-bare
with_projection_at-requires-clause-bare c = ap projection_spans c.new_entry-entry.ensures
