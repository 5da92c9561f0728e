use Rattle.std.proofs.Common.{◌≡◌, drop}
use Rattle.std.specs.List.{list_all}
use Rattle.sql_binding.specs.Queries.{is_typed_aggregate}
use Rattle.statement_binder.proofs.types.are_typed_aggregates.Given as goal

abbrev pub invariant-loop-aggregate : goal.invariant-loop-aggregate
invariant-loop-aggregate l = list_all (is_typed_aggregate l.rows) (drop l.aggregate-index l.aggs) ≡ list_all (is_typed_aggregate l.rows) l.aggs
