-- Statements that have no plan.
use Rattle.std.proofs.Common.{◌≡◌}
use Rattle.std.specs.Prelude.{Some, Result, Ok, Err}
use Rattle.col_disk.specs.declared.disk.Disk.{Ghosts}
use Rattle.name_binder.specs.declared.fault.BindFault.{BindFault}
use Rattle.name_binder.specs.Refusing.{RefusesBy}
use Rattle.sql_tree.specs.declared.refusal.Refusal.{Refusal}
use Rattle.sql_tree.specs.declared.statement.Statement.{Statement}
use Rattle.db_model.specs.State.{State}
use Rattle.db_model.specs.Loading.{Files}
use Rattle.db_model.specs.Refusals.{Refuses}
use Rattle.statement_plan.specs.Planned.{early_refusal}
use Rattle.store_core.specs.Running.{Running, IsState}
use Rattle.store_step.specs.declared.answer.Answer.{Answer}
use Rattle.store_step.specs.Arms.{Holds}
use Rattle.store_step.specs.Texts.{IsUnplanned}
use Rattle.store_step.proofs.Answered.{refused_holds}

-- a statement that has no plan is refused, or memory was short
pub unplanned_holds : {D E : Type 0} (disk : Ghosts D) (files : Files) (s : Statement) (is : Running) (now : D) (fault : BindFault) (r : Result Answer E) (state : State) → RefusesBy (early_refusal state s) fault → IsUnplanned fault r
    → ((why : Refusal) → early_refusal state s ≡ Some why → Refuses state files s (Some why)) → IsState disk is now state → Holds disk files s is now r state
unplanned_holds disk files s is now (BindFault.Refused why) r state early refused stand here = refused_holds disk files s is now why r state refused (stand why early) here
unplanned_holds disk files s is now BindFault.Memory (Ok a) state early none stand here = absurd none
unplanned_holds disk files s is now BindFault.Memory (Err e) state early none stand here = record { done = tt; undone = here }
