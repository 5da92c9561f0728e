-- What a statement was planned to do, and why it is refused before a row is looked at.
use Rattle.std.specs.Prelude.{ℕ, ◌≡◌, Bool, true, false, Option, Some, None}
use Rattle.std.specs.List.{All}
use Rattle.col_value.specs.Order.{IsRow, IsValue}
use Rattle.sql_tree.specs.declared.query.At.{At}
use Rattle.sql_tree.specs.declared.query.Query.{Query}
use Rattle.sql_tree.specs.declared.refusal.Refusal.{Refusal}
use Rattle.sql_tree.specs.declared.statement.Function.{Function}
use Rattle.sql_tree.specs.declared.statement.Statement.{Statement}
use Rattle.sql_bound.specs.declared.query.BoundQuery.{BoundQuery}
use Rattle.sql_binding.specs.Firsts.{first_of}
use Rattle.sql_binding.specs.Changes.{update_refusal}
use Rattle.sql_binding.specs.Inserts.{inserted_rows}
use Rattle.sql_binding.specs.Additions.{default_value}
use Rattle.db_model.specs.State.{State}
use Rattle.db_model.specs.Epochs.{last_good}
use Rattle.db_model.specs.Views.{bound_in, columns_found}
use Rattle.db_model.specs.Refusing.{commit_refusal, epoch_refusal}
use Rattle.db_model.specs.Refusals.{column_added_refusal, copy_table_refusal, mark_refusal, projection_created_refusal, projection_dropped_refusal, query_refusal_in, raise_refusal, rows_deleted_refusal, rows_inserted_refusal, table_created_refusal, table_dropped_refusal, unknown_table_refusal}
use Rattle.query_laws.specs.Bounded.{IsBoundedQuery}
use Rattle.statement_plan.specs.Places.{IsDeleteOf, IsProjectionOf, IsUpdateOf, projection_places, table_place}
use Rattle.statement_plan.specs.declared.plans.Plan.{Plan}

-- why a query is refused for what it says, whatever the rows are
abbrev pub select_refusal : State → At → Query → Option Refusal
select_refusal state at q = first_of (query_refusal_in state q) (epoch_refusal state.database.ahm state.database.last at)

-- why a function is refused by what it says
abbrev pub early_call_refusal : State → Function → Option Refusal
early_call_refusal state Function.MakeAhmNow = raise_refusal (last_good state.database) state
early_call_refusal state (Function.SetAhm n) = first_of (mark_refusal n state.database) (raise_refusal n state)
early_call_refusal state (Function.Purge table) = unknown_table_refusal state table
early_call_refusal state (Function.Refresh table) = unknown_table_refusal state table
early_call_refusal state f = None

-- Why a statement is refused, whatever the rows are. Behind this are looked at the rows that an UPDATE matches, the file of a COPY, a sum
-- that is too great, and the numbers that moveouts and other jobs draw.
abbrev pub early_refusal : State → Statement → Option Refusal
early_refusal state (Statement.CreateTable name columns) = table_created_refusal state name columns
early_refusal state (Statement.CreateProjection p) = projection_created_refusal state p
early_refusal state (Statement.DropTable name) = table_dropped_refusal state name
early_refusal state (Statement.DropProjection name) = projection_dropped_refusal state name
early_refusal state (Statement.Insert i) = rows_inserted_refusal state i
early_refusal state (Statement.Delete d) = rows_deleted_refusal state d
early_refusal state (Statement.Update u) = update_refusal (columns_found state.database.tables u.table) u
early_refusal state (Statement.AddColumn a) = column_added_refusal state a
early_refusal state (Statement.Copy table file) = copy_table_refusal state table
early_refusal state Statement.Commit = commit_refusal state
early_refusal state (Statement.Select at q) = select_refusal state at q
early_refusal state (Statement.Explain q) = query_refusal_in state q
early_refusal state (Statement.Call f) = early_call_refusal state f
early_refusal state s = None

-- the forms that are refused for nothing else: neither rows nor load files are looked at
abbrev pub is_settled_call : Function → Bool
is_settled_call Function.Lge = true
is_settled_call Function.Ahm = true
is_settled_call Function.Current = true
is_settled_call Function.MakeAhmNow = true
is_settled_call (Function.SetAhm n) = true
is_settled_call f = false

abbrev pub is_settled : Statement → Bool
is_settled (Statement.Update u) = false
is_settled (Statement.Copy table file) = false
is_settled (Statement.Select at q) = false
is_settled (Statement.Call f) = is_settled_call f
is_settled s = true

-- the bound tree of a query, whose expressions have static bounds
pub record IsBoundIn (state : State) (q : Query) (b : BoundQuery) : Type 0 where
  pub tree : b ≡ bound_in state q
  pub bounded : IsBoundedQuery b

-- a function of one table has its place, and the others need none
abbrev pub IsCallOn : State → Function → ℕ → Type 0
IsCallOn state (Function.Purge table) place = table_place table state.database.tables ≡ Some place
IsCallOn state (Function.Refresh table) place = table_place table state.database.tables ≡ Some place
IsCallOn state f place = ⊥

abbrev pub IsPlainCall : Function → Type 0
IsPlainCall (Function.Purge table) = ⊥
IsPlainCall (Function.Refresh table) = ⊥
IsPlainCall f = Unit {0}

-- a plan has what the statement needs
abbrev pub IsPlanOf : State → Statement → Plan → Type 0
IsPlanOf state (Statement.CreateTable name columns) Plan.CreateTable = Unit {0}
IsPlanOf state (Statement.CreateProjection p) (Plan.CreateProjection place shape) = IsProjectionOf state p place shape
IsPlanOf state (Statement.DropTable name) (Plan.DropTable place) = table_place name state.database.tables ≡ Some place
IsPlanOf state (Statement.DropProjection name) (Plan.DropProjection table place) = projection_places name state.database.tables ≡ Some (table, place)
IsPlanOf state (Statement.Insert i) (Plan.Insert rows) = (rows.items ≡ inserted_rows i) × All IsRow rows.items
IsPlanOf state (Statement.Delete d) (Plan.Delete place b) = IsDeleteOf state d place b
IsPlanOf state (Statement.Update u) (Plan.Update place b) = IsUpdateOf state u place b
IsPlanOf state (Statement.AddColumn a) (Plan.AddColumn place default) = (table_place a.table state.database.tables ≡ Some place) × (default ≡ default_value a) × IsValue default
IsPlanOf state (Statement.Copy table file) (Plan.Copy place) = table_place table state.database.tables ≡ Some place
IsPlanOf state Statement.Commit Plan.Commit = Unit {0}
IsPlanOf state Statement.Rollback Plan.Rollback = Unit {0}
IsPlanOf state (Statement.Select at q) (Plan.Select b) = IsBoundIn state q b
IsPlanOf state (Statement.Explain q) (Plan.Explain b) = IsBoundIn state q b
IsPlanOf state (Statement.Call f) Plan.Call = IsPlainCall f
IsPlanOf state (Statement.Call f) (Plan.CallOn place) = IsCallOn state f place
IsPlanOf state (Statement.Session n) (Plan.Session m) = m ≡ n
IsPlanOf state Statement.Step Plan.Step = Unit {0}
IsPlanOf state s plan = ⊥

-- the statement isn't refused before a row is looked at, and this is its plan
pub record IsPlanned (state : State) (s : Statement) (plan : Plan) : Type 0 where
  pub accepted : early_refusal state s ≡ None
  pub of : IsPlanOf state s plan
