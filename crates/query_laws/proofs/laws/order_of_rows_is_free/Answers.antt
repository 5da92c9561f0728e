use Rattle.query_laws.proofs.Great.{fails_the_same, prints_the_same}
use Rattle.query_laws.proofs.laws.order_of_rows_is_free.Goals as goal

pub returns-clause-printed : goal.returns-clause-printed
returns-clause-printed c = prints_the_same

pub returns-clause-fault : goal.returns-clause-fault
returns-clause-fault c = fails_the_same
