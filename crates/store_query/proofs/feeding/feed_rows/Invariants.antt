use Rattle.std.proofs.Common.{take}
use Rattle.query_run.specs.Runs.{IsRunOf}
use Rattle.store_query.specs.Feeding.{TakesRows}
use Rattle.store_query.proofs.feeding.feed_rows.Given as goal

abbrev pub invariant-loop-row : goal.invariant-loop-row
invariant-loop-row l = record {
  taken : TakesRows l.query (take l.row-index l.rows) l.fn.run l.run;
  run : IsRunOf l.query l.run;
}
