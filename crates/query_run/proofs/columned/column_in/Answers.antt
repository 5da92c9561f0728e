use Rattle.query_run.proofs.Finding.{column_none, column_some}
use Rattle.query_run.proofs.columned.column_in.Goals as goal

pub returns-then-is_null_in : goal.returns-then-is_null_in
returns-then-is_null_in c = column_none c.args.rows.now c.args.column (c.is_null_in.ensures c.if-is_null_in.true)

pub returns : goal.returns
returns c = column_some c.args.rows.now c.args.column c.in_ok-block_in.field-0 c.in_ok-block_in.ensures
