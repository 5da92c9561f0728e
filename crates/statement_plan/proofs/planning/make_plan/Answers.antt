use Rattle.std.proofs.Common.{subst, sym}
use Rattle.sql_tree.specs.declared.statement.Statement.{Statement}
use Rattle.name_binder.specs.Refusing.{RefusesBy}
use Rattle.statement_plan.specs.Planned.{early_refusal}
use Rattle.statement_plan.proofs.planning.make_plan.Goals as goal

pub returns-in-Err-plan_select-clause-refused : goal.returns-in-Err-plan_select-clause-refused
returns-in-Err-plan_select-clause-refused c =
    subst (λ (s : Statement). RefusesBy (early_refusal c.args.frame.now s) c.in-Err-plan_select.fault) (sym c.in-Select.is) c.in-Err-plan_select.ensures.refused
