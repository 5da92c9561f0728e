use Rattle.store_query.proofs.Bound.{bound_over_tables, bound_reads}
use Rattle.store_query.proofs.laws.bound_queries_read_their_tables.Goals as goal

pub returns-clause-over : goal.returns-clause-over
returns-clause-over c = bound_over_tables

pub returns-clause-rows : goal.returns-clause-rows
returns-clause-rows c = bound_reads
