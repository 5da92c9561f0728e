use Rattle.proj_store.proofs.Indexed.{rows_blamed}
use Rattle.proj_store.proofs.indexes.Indexes.index_in.Goals as goal

pub returns-in-Ok-clause-blamed : goal.returns-in-Ok-clause-blamed
returns-in-Ok-clause-blamed c = rows_blamed c.args.name c.args.rows c.args.bytes.items c.in-Ok.index c.in-Ok.ensures.found c.of_rows.result c.of_rows.ensures.blamed
