use Rattle.std.proofs.Common.{ℕ, List, Some, sym, ◌∙◌, ap}
use Rattle.col_value.specs.declared.column.Column.{Column}
use Rattle.sql_tree.specs.declared.refusal.Refusal.{Refusal}
use Rattle.statement_plan.proofs.Shaped.{ordered_form}
use Rattle.statement_plan.proofs.projecting.check_form.Goals as goal

pub returns-in-Err-Refused-clause-refused : goal.returns-in-Err-Refused-clause-refused
returns-in-Err-Refused-clause-refused c =
    ordered_form c.args.projection.now c.args.table.now.1 c.found.result.1 c.limit-limit.result c.in-Err-Refused.refusal
    (ap (λ (f : ℕ × List Column). f.1) c.found.ensures) c.limit-limit.ensures
    (rw c.in-Err-Refused.field-0-is at c.in-Err-Refused.ensures.refused)
    ∙ ap (λ (told : Refusal). Some told) (sym c.before_limits.ensures)
