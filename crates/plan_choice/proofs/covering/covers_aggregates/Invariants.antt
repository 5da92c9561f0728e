use Rattle.std.proofs.Common.{◌≡◌, drop}
use Rattle.std.specs.List.{list_all}
use Rattle.plan_choice.specs.Covering.{covers_aggregate}
use Rattle.plan_choice.proofs.covering.covers_aggregates.Given as goal

abbrev pub invariant-loop-a : goal.invariant-loop-a
invariant-loop-a l = list_all (covers_aggregate l.item l.columns) (drop l.a-index l.aggs) ≡ list_all (covers_aggregate l.item l.columns) l.aggs
