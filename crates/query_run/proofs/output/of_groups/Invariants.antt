use Rattle.std.proofs.Common.{drop}
use Rattle.std.specs.List.{All}
use Rattle.std.specs.Option.{IfSome}
use Rattle.query_laws.specs.Scopes.{IsGroupOf}
use Rattle.query_run.proofs.Scopes.{SoFar}
use Rattle.query_order.specs.Enough.{AreFew}
use Rattle.query_run.specs.Outputs.{IsBar, scopes_of, shown}
use Rattle.query_run.proofs.output.of_groups.Given as goal

abbrev pub invariant-loop-group : goal.invariant-loop-group
invariant-loop-group l = record {
  sofar : SoFar l.query l.out.items (shown l.query (scopes_of (drop l.group l.groups.keys) (drop l.group l.groups.aggs))) (shown l.query (scopes_of l.groups.keys l.groups.aggs));
  few : AreFew l.query.limit l.out.items;
  bar : IfSome l.bar (IsBar l.query.order l.query.limit l.out.items);
  fit : All (IsGroupOf l.query) (scopes_of (drop l.group l.groups.keys) (drop l.group l.groups.aggs));
}
