use Rattle.std.proofs.Common.{List, IfErr, ap, length, subst}
use Rattle.std.specs.Prelude.{Option}
use Rattle.col_value.specs.declared.wide.Wide.{Wide}
use Rattle.sql_tree.specs.declared.refusal.Refusal.{Refusal}
use Rattle.name_binder.specs.Refusing.{RefusesBy}
use Rattle.statement_plan.proofs.Joining.{reasons_at}
use Rattle.statement_plan.proofs.inserting.plan_insert.Goals as goal

pub returns-clause-refused : goal.returns-clause-refused
returns-clause-refused c =
    subst (λ (why : Option Refusal). IfErr c.bound_rows.result (RefusesBy why))
    (reasons_at c.args.frame.now c.args.insert.now c.found.result c.other_reason-other.result c.as_slice-name.result.now (length c.as_slice.result.now)
    c.as_slice-name.ensures (ap (λ (rows : List (List Wide)). length rows) c.as_slice.ensures) c.found.ensures c.other_reason-other.ensures)
    c.bound_rows.ensures.refused
