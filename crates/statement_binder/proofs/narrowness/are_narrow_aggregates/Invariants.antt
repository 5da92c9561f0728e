use Rattle.std.proofs.Common.{◌≡◌, drop}
use Rattle.std.specs.List.{list_all}
use Rattle.sql_binding.specs.Queries.{is_narrow_aggregate}
use Rattle.statement_binder.proofs.narrowness.are_narrow_aggregates.Given as goal

abbrev pub invariant-loop-aggregate : goal.invariant-loop-aggregate
invariant-loop-aggregate l = list_all is_narrow_aggregate (drop l.aggregate-index l.aggs) ≡ list_all is_narrow_aggregate l.aggs
