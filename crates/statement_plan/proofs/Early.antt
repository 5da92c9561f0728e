-- A refusal before a row is looked at is the statement's.
use Rattle.std.proofs.Common.{◌≡◌, ℕ, Bool, List, false, true, refl, sym, ap}
use Rattle.std.specs.Prelude.{Option, Some, None, option_and_then}
use Rattle.std.specs.Option.{option_map_or}
use Rattle.col_value.specs.declared.value.Value.{Value}
use Rattle.sql_tree.specs.declared.refusal.Refusal.{Refusal}
use Rattle.sql_tree.specs.declared.statement.Function.{Function}
use Rattle.sql_tree.specs.declared.statement.Statement.{Statement}
use Rattle.sql_bound.specs.declared.query.BoundQuery.{BoundQuery}
use Rattle.sql_binding.specs.Firsts.{first_of}
use Rattle.db_model.specs.Database.{Table}
use Rattle.db_model.specs.Loading.{Files}
use Rattle.db_model.specs.State.{State}
use Rattle.db_model.specs.Refusals.{CopyRefuses, Refuses, SumRefuses, TableJobsRefuse, UnlockedRefuses, locked, unknown_table_refusal, update_refusal_over}
use Rattle.db_model.specs.Events.{is_of_table}
use Rattle.db_model.specs.Mover.{RaisesAll, RefreshesAll}
use Rattle.db_model.specs.Views.{bound_in, inputs, table_found}
use Rattle.statement_plan.specs.Planned.{early_call_refusal, early_refusal, is_settled, is_settled_call, select_refusal}

unlocked_refused : (before : Option Refusal) (state : State) (e : ℕ × Table) (held : Option (List ℕ)) (r : Refusal) → before ≡ Some r → UnlockedRefuses before state e held (Some r)
unlocked_refused None state e held r is = absurd (cc)
unlocked_refused (Some x) state e held r is = sym is

copy_refused : (state : State) (table : List ℕ) (found : Option (ℕ × Table)) (held : Option (List ℕ)) (r : Refusal)
    → first_of (option_map_or (λ (e : ℕ × Table). None) found (Some (Refusal.UnknownTable table))) (locked state table false) ≡ Some r → CopyRefuses state table found held (Some r)
copy_refused state table None held r is = sym is
copy_refused state table (Some e) held r is = unlocked_refused (locked state table false) state e held r is

sum_refused : (o : Option Refusal) (b : BoundQuery) (rows : List (List (List Value))) (r : Refusal) → o ≡ Some r → SumRefuses o b rows (Some r)
sum_refused None b rows r is = absurd (cc)
sum_refused (Some x) b rows r is = sym is

table_refused : (o : Option Refusal) (Run : Bool → State → Type 0) (r : Refusal) → o ≡ Some r → TableJobsRefuse o Run (Some r)
table_refused None Run r is = absurd (cc)
table_refused (Some x) Run r is = sym is

call_refused : (state : State) (files : Files) (f : Function) (r : Refusal) → early_call_refusal state f ≡ Some r → Refuses state files (Statement.Call f) (Some r)
call_refused state files Function.Lge r is = absurd (cc)
call_refused state files Function.Ahm r is = absurd (cc)
call_refused state files Function.Current r is = absurd (cc)
call_refused state files Function.MakeAhmNow r is = sym is
call_refused state files (Function.SetAhm n) r is = sym is
call_refused state files Function.Moveout r is = absurd (cc)
call_refused state files Function.Mergeout r is = absurd (cc)
call_refused state files (Function.Purge table) r is = table_refused (unknown_table_refusal state table) (RaisesAll (λ s. is_of_table table state.database.tables s.name) state) r is
call_refused state files (Function.Refresh table) r is = table_refused (unknown_table_refusal state table) (RefreshesAll table state) r is
call_refused state files Function.StartRefresh r is = absurd (cc)

pub refused_early : (state : State) (files : Files) (s : Statement) (r : Refusal) → early_refusal state s ≡ Some r → Refuses state files s (Some r)
refused_early state files (Statement.CreateTable name columns) r is = sym is
refused_early state files (Statement.CreateProjection p) r is = sym is
refused_early state files (Statement.DropTable name) r is = sym is
refused_early state files (Statement.DropProjection name) r is = sym is
refused_early state files (Statement.Insert i) r is = sym is
refused_early state files (Statement.Delete d) r is = sym is
refused_early state files (Statement.Update u) r is =
    sym (ap (λ (o : Option Refusal). first_of o (option_and_then (update_refusal_over state u) (table_found u.table state.database.tables))) is)
refused_early state files (Statement.AddColumn a) r is = sym is
refused_early state files (Statement.Copy table file) r is = copy_refused state table (table_found table state.database.tables) (files file) r is
refused_early state files Statement.Commit r is = sym is
refused_early state files Statement.Rollback r is = absurd (cc)
refused_early state files (Statement.Select at q) r is = sum_refused (select_refusal state at q) (bound_in state q) (inputs at state q) r is
refused_early state files (Statement.Explain q) r is = sym is
refused_early state files (Statement.Call f) r is = call_refused state files f r is
refused_early state files (Statement.Session n) r is = absurd (cc)
refused_early state files Statement.Step r is = absurd (cc)

settled_call : (state : State) (files : Files) (f : Function) → is_settled_call f ≡ true → Refuses state files (Statement.Call f) (early_call_refusal state f)
settled_call state files Function.Lge is = refl
settled_call state files Function.Ahm is = refl
settled_call state files Function.Current is = refl
settled_call state files Function.MakeAhmNow is = refl
settled_call state files (Function.SetAhm n) is = refl
settled_call state files Function.Moveout is = absurd (cc)
settled_call state files Function.Mergeout is = absurd (cc)
settled_call state files (Function.Purge table) is = absurd (cc)
settled_call state files (Function.Refresh table) is = absurd (cc)
settled_call state files Function.StartRefresh is = absurd (cc)

pub settled_early : (state : State) (files : Files) (s : Statement) → is_settled s ≡ true → Refuses state files s (early_refusal state s)
settled_early state files (Statement.CreateTable name columns) is = refl
settled_early state files (Statement.CreateProjection p) is = refl
settled_early state files (Statement.DropTable name) is = refl
settled_early state files (Statement.DropProjection name) is = refl
settled_early state files (Statement.Insert i) is = refl
settled_early state files (Statement.Delete d) is = refl
settled_early state files (Statement.Update u) is = absurd (cc)
settled_early state files (Statement.AddColumn a) is = refl
settled_early state files (Statement.Copy table file) is = absurd (cc)
settled_early state files Statement.Commit is = refl
settled_early state files Statement.Rollback is = refl
settled_early state files (Statement.Select at q) is = absurd (cc)
settled_early state files (Statement.Explain q) is = refl
settled_early state files (Statement.Call f) is = settled_call state files f is
settled_early state files (Statement.Session n) is = refl
settled_early state files Statement.Step is = refl
