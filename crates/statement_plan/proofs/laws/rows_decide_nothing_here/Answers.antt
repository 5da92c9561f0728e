use Rattle.statement_plan.proofs.Alike.{columns_of_name, early_same, loaded_same, locked_same, tree_same}
use Rattle.statement_plan.proofs.Carried.{planned_same}
use Rattle.statement_plan.proofs.laws.rows_decide_nothing_here.Goals as goal

pub returns : goal.returns
returns c = record { refusal = early_same; tree = tree_same; plan = planned_same; lock = locked_same; columns = columns_of_name; load = loaded_same }
