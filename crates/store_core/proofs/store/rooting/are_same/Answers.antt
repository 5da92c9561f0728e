use Rattle.table_jobs.proofs.SameTables.{tables_same}
use Rattle.store_core.proofs.store.rooting.are_same.Goals as goal

pub returns : goal.returns
returns c = tables_same c.orders_are_exact.ensures.value c.args.one.now c.args.other.now c.eq.result c.eq.ensures
