use Rattle.std.proofs.Common.{◌≡◌, [], map, take, drop}
use Rattle.db_model.specs.Refusing.{repeated_behind}
use Rattle.statement_plan.proofs.Taken.{HasNames}
use Rattle.statement_plan.proofs.creating.repeated.Given as goal

abbrev pub invariant-loop-column : goal.invariant-loop-column
invariant-loop-column l = record {
  names : HasNames l.seen (take l.column-index l.columns);
  rest : repeated_behind (map (λ c. c.name) (take l.column-index l.columns)) (drop l.column-index l.columns) ≡ repeated_behind [] l.columns;
}
