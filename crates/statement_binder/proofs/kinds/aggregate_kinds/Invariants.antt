use Rattle.std.proofs.Common.{◌≡◌, map, take}
use Rattle.sql_bound.specs.Kinds.{kind_of_aggregate}
use Rattle.sql_binding.specs.Queries.{kind_or_null}
use Rattle.statement_binder.proofs.kinds.aggregate_kinds.Given as goal

abbrev pub invariant-loop-aggregate : goal.invariant-loop-aggregate
invariant-loop-aggregate l = l.out.items ≡ map (λ a. kind_or_null (kind_of_aggregate l.rows a)) (take l.aggregate-index l.aggs)
