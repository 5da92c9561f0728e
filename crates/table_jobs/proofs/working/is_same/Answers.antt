use Rattle.table_jobs.proofs.SameTables.{entries_same}
use Rattle.table_jobs.proofs.working.is_same.Goals as goal

pub returns : goal.returns
returns c = entries_same c.orders_are_exact.ensures.value c.args.one.now c.args.other.now c.eq.result c.eq.ensures
