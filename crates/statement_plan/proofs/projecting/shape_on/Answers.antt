use Rattle.std.proofs.Common.{ℕ, List, ap}
use Rattle.col_value.specs.declared.column.Column.{Column}
use Rattle.statement_plan.proofs.Shaped.{never_refused}
use Rattle.statement_plan.proofs.projecting.shape_on.Goals as goal

pub returns-clause-refused : goal.returns-clause-refused
returns-clause-refused c =
    never_refused c.args.frame.now c.args.projection.now c.args.table.now.1 c.found.result.1 c.bind_projection.result
    (ap (λ (f : ℕ × List Column). f.1) c.found.ensures) c.in_ok-check_projection_names.ensures.ok c.in_ok-check_behind_names.ensures.ok c.bind_projection.ensures.refused
