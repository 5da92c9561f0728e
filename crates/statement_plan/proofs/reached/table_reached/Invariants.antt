use Rattle.std.proofs.Common.{◌≡◌, None, take, fold}
use Rattle.catalog_types.specs.Reached.{earlier, reached}
use Rattle.statement_plan.proofs.reached.table_reached.Given as goal

abbrev pub invariant-loop-projection : goal.invariant-loop-projection
invariant-loop-projection l = l.least ≡ fold (λ e p. earlier e (reached p)) None (take l.projection-index l.projection-items)
