use Rattle.std.proofs.Common.{◌≡◌, map, take}
use Rattle.sql_bound.specs.Bounds.{bound_of_aggregate}
use Rattle.expr_check.specs.Capped.{capped}
use Rattle.statement_binder.proofs.narrowness.bounds_of.Given as goal

abbrev pub invariant-loop-aggregate : goal.invariant-loop-aggregate
invariant-loop-aggregate l = l.out.items ≡ map (λ a. capped (bound_of_aggregate a)) (take l.aggregate-index l.aggs)
