use Rattle.std.proofs.Common.{map, take}
use Rattle.std.specs.List.{enumerate_from}
use Rattle.std.specs.Option.{IfSome}
use Rattle.query_order.specs.Enough.{AreFew, IsEnough}
use Rattle.sql_bound.specs.Outputs.{window_scope}
use Rattle.query_run.specs.Outputs.{items_in, IsBar}
use Rattle.query_run.proofs.windows.rows_beside.Given as goal

abbrev pub invariant-loop-i : goal.invariant-loop-i
invariant-loop-i l = record {
  enough : IsEnough l.query.order l.query.limit (map (λ t. items_in l.query (window_scope l.query l.rows t)) (take l.i (enumerate_from 0 l.rows))) l.out.items;
  few : AreFew l.query.limit l.out.items;
  bar : IfSome l.bar (IsBar l.query.order l.query.limit l.out.items);
}
