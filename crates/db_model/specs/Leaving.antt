-- What each statement leaves.
use Rattle.std.specs.Prelude.{ℕ, ◌≡◌, ◌⊎◌, Bool, true, false, List, Option, Some, None}
use Rattle.sql_tree.specs.declared.statement.Function.{Function}
use Rattle.sql_tree.specs.declared.statement.Statement.{Statement}
use Rattle.sql_binding.specs.Inserts.{inserted_rows}
use Rattle.db_model.specs.Database.{Table}
use Rattle.db_model.specs.State.{State}
use Rattle.db_model.specs.Views.{table_found}
use Rattle.db_model.specs.Epochs.{last_good, rises}
use Rattle.db_model.specs.Numbers.{IsDrawn}
use Rattle.db_model.specs.Events.{table_created, projection_created, table_dropped, projection_dropped, is_of_table, column_added, refresh_started, mark_raised, rows_pending, on_table, rows_deleted, rows_updated, rows_loaded, changes_committed, changes_dropped}
use Rattle.db_model.specs.Loading.{Files, Load, Loads}
use Rattle.db_model.specs.Mover.{MovesAll, RaisesAll, RefreshesAll, MoverSteps}

-- COPY loads the rows of its file
abbrev pub LoadLeaves : State → ℕ × Table → List ℕ → State → Type 0
LoadLeaves state e bytes new = (rows : List (List _)) × Loads e.1.columns bytes (Load.Rows rows) × (new ≡ rows_loaded e.1.name rows state)

abbrev pub CopyLeaves : State → Option (ℕ × Table) → Option (List ℕ) → State → Type 0
CopyLeaves state None held new = ⊥
CopyLeaves state (Some e) None new = ⊥
CopyLeaves state (Some e) (Some bytes) new = LoadLeaves state e bytes new

-- a mark that rises draws; one at which the ancient history mark stands leaves all as it is
abbrev pub MarkLeaves : Bool → ℕ → State → State → Type 0
MarkLeaves true mark state new = IsDrawn state (mark_raised mark state) new
MarkLeaves false mark state new = new ≡ state

-- what each function leaves
abbrev pub CallLeaves : State → Function → State → Type 0
CallLeaves state Function.Lge new = new ≡ state
CallLeaves state Function.Ahm new = new ≡ state
CallLeaves state Function.Current new = new ≡ state
CallLeaves state Function.MakeAhmNow new = MarkLeaves (rises (last_good state.database) state.database) (last_good state.database) state new
CallLeaves state (Function.SetAhm n) new = MarkLeaves (rises n state.database) n state new
CallLeaves state Function.Moveout new = MovesAll state false new
CallLeaves state Function.Mergeout new = RaisesAll (λ s. true) state false new
CallLeaves state (Function.Purge table) new = RaisesAll (λ s. is_of_table table state.database.tables s.name) state false new
CallLeaves state (Function.Refresh table) new = RefreshesAll table state false new
CallLeaves state Function.StartRefresh new = new ≡ refresh_started state

-- what a statement leaves that isn't refused
abbrev pub StatementLeaves : State → Files → Statement → State → Type 0
StatementLeaves state files (Statement.CreateTable name columns) new = IsDrawn state (table_created name columns state) new
StatementLeaves state files (Statement.CreateProjection p) new = IsDrawn state (projection_created p state) new
StatementLeaves state files (Statement.DropTable name) new = IsDrawn state (table_dropped name state) new
StatementLeaves state files (Statement.DropProjection name) new = IsDrawn state (projection_dropped name state) new
StatementLeaves state files (Statement.Insert i) new = new ≡ rows_pending i.table (inserted_rows i) state
StatementLeaves state files (Statement.Delete d) new = new ≡ on_table d.table (rows_deleted d state) state
StatementLeaves state files (Statement.Update u) new = new ≡ on_table u.table (rows_updated u state) state
StatementLeaves state files (Statement.AddColumn a) new = IsDrawn state (column_added a state) new
StatementLeaves state files (Statement.Copy table file) new = CopyLeaves state (table_found table state.database.tables) (files file) new
StatementLeaves state files Statement.Commit new = new ≡ changes_committed state
StatementLeaves state files Statement.Rollback new = new ≡ changes_dropped state
StatementLeaves state files (Statement.Select at q) new = new ≡ state
StatementLeaves state files (Statement.Explain q) new = new ≡ state
StatementLeaves state files (Statement.Call f) new = CallLeaves state f new
StatementLeaves state files (Statement.Session n) new = new ≡ record state { current = n }
StatementLeaves state files Statement.Step new = MoverSteps state new

-- What a refused statement leaves: nothing changes. Functions with jobs alone keep those that came before the numbers were spent.
abbrev pub RefusedCallLeaves : State → Function → State → Type 0
RefusedCallLeaves state Function.Lge new = new ≡ state
RefusedCallLeaves state Function.Ahm new = new ≡ state
RefusedCallLeaves state Function.Current new = new ≡ state
RefusedCallLeaves state Function.MakeAhmNow new = new ≡ state
RefusedCallLeaves state (Function.SetAhm n) new = new ≡ state
RefusedCallLeaves state Function.Moveout new = (new ≡ state) ⊎ MovesAll state true new
RefusedCallLeaves state Function.Mergeout new = (new ≡ state) ⊎ RaisesAll (λ s. true) state true new
RefusedCallLeaves state (Function.Purge table) new = (new ≡ state) ⊎ RaisesAll (λ s. is_of_table table state.database.tables s.name) state true new
RefusedCallLeaves state (Function.Refresh table) new = (new ≡ state) ⊎ RefreshesAll table state true new
RefusedCallLeaves state Function.StartRefresh new = new ≡ state

abbrev pub RefusedLeaves : State → Statement → State → Type 0
RefusedLeaves state (Statement.CreateTable name columns) new = new ≡ state
RefusedLeaves state (Statement.CreateProjection p) new = new ≡ state
RefusedLeaves state (Statement.DropTable name) new = new ≡ state
RefusedLeaves state (Statement.DropProjection name) new = new ≡ state
RefusedLeaves state (Statement.Insert i) new = new ≡ state
RefusedLeaves state (Statement.Delete d) new = new ≡ state
RefusedLeaves state (Statement.Update u) new = new ≡ state
RefusedLeaves state (Statement.AddColumn a) new = new ≡ state
RefusedLeaves state (Statement.Copy table file) new = new ≡ state
RefusedLeaves state Statement.Commit new = new ≡ state
RefusedLeaves state Statement.Rollback new = new ≡ state
RefusedLeaves state (Statement.Select at q) new = new ≡ state
RefusedLeaves state (Statement.Explain q) new = new ≡ state
RefusedLeaves state (Statement.Call f) new = RefusedCallLeaves state f new
RefusedLeaves state (Statement.Session n) new = new ≡ state
RefusedLeaves state Statement.Step new = new ≡ state
