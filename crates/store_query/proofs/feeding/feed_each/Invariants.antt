use Rattle.std.proofs.Common.{take}
use Rattle.query_run.specs.Runs.{IsRunOf}
use Rattle.wanted_rows.specs.Wanted.{need_in}
use Rattle.store_query.specs.Feeding.{Feeds}
use Rattle.store_query.proofs.feeding.feed_each.Given as goal

abbrev pub invariant-loop-i : goal.invariant-loop-i
invariant-loop-i l = record {
  fed : Feeds l.query (take l.i l.batch.rows) (need_in l.fn.wants) l.fn.run (need_in l.wants) l.run;
  run : IsRunOf l.query l.run;
}
