-- Each statement is refused or it isn't, and what it prints and leaves is there.
use Rattle.std.proofs.Common.{◌≡◌, ℕ, ◌+◌, inl, inr, Bool, true, false, List, [], length, refl, sym, subst, arith}
use Rattle.std.specs.Prelude.{Option, Some, None, codes}
use Rattle.col_value.specs.declared.value.Value.{Value}
use Rattle.sql_tree.specs.declared.query.At.{At}
use Rattle.sql_tree.specs.declared.query.Query.{Query}
use Rattle.sql_tree.specs.declared.refusal.Refusal.{Refusal}
use Rattle.sql_tree.specs.declared.statement.Function.{Function}
use Rattle.sql_tree.specs.declared.statement.Statement.{Statement}
use Rattle.sql_tree.specs.Lines.{refusal_text}
use Rattle.sql_bound.specs.declared.query.BoundQuery.{BoundQuery}
use Rattle.sql_bound.specs.Outputs.{output, IsSumTooGreat}
use Rattle.sql_binding.specs.Firsts.{first_of}
use Rattle.sql_binding.specs.Inserts.{inserted_rows}
use Rattle.db_model.specs.Answers.{epoch_line, insert_line, listing_text}
use Rattle.db_model.specs.Database.{Shape, Table}
use Rattle.db_model.specs.Epochs.{last_good, rises}
use Rattle.db_model.specs.Events.{changes_committed, changes_dropped, column_added, deleted_count, is_of_table, mark_raised, on_table, projection_created, projection_dropped, refresh_started, rows_deleted, rows_loaded, rows_pending, rows_updated, table_created, table_dropped, updated_old}
use Rattle.db_model.specs.Leaving.{CopyLeaves, StatementLeaves, MarkLeaves, RefusedLeaves}
use Rattle.db_model.specs.Loading.{Files, Load, Loads}
use Rattle.db_model.specs.Mover.{given_up, MovesAll, RaisesAll, RefreshesAll}
use Rattle.db_model.specs.Printing.{commit_text, copy_text, counted_line, explain_text, on_found, CopyPrints, Prints}
use Rattle.db_model.specs.Refusals.{column_added_refusal, is_large_file, load_refusal, locked, mark_refusal, raise_refusal, projection_created_refusal, projection_dropped_refusal, query_refusal_in, rows_deleted_refusal, rows_inserted_refusal, rows_updated_refusal, table_created_refusal, table_dropped_refusal, unknown_table_refusal, CopyRefuses, JobsRefuse, LoadRefuses, Refuses, SumRefuses, TableJobsRefuse, UnlockedRefuses}
use Rattle.db_model.specs.Refusing.{commit_refusal, epoch_refusal}
use Rattle.db_model.specs.State.{State}
use Rattle.db_model.specs.Step.{Effect}
use Rattle.db_model.specs.Views.{bound_in, inputs, table_found}
use Rattle.steps_exist.proofs.Listed.{list_there}
use Rattle.steps_exist.proofs.Loaded.{load_there}
use Rattle.steps_exist.proofs.Moves.{undrawn, nothing_drawn, HasNames, all_moved, mover_steps}
use Rattle.steps_exist.proofs.Refreshes.{all_refreshed}
use Rattle.steps_exist.proofs.Sums.{Decided, sum_decided}

-- why it is refused, if it is, and what it then prints and leaves
pub record Answer (old : State) (files : Files) (s : Statement) : Type 0 where
  pub refusal : Option Refusal
  pub printed : List ℕ
  pub new : State
  pub refuses : Refuses old files s refusal
  pub effect : Effect old files (Some s) refusal printed new

-- one that leaves all as it was where it is refused
told : (old : State) (files : Files) (s : Statement) (why : Option Refusal) → Refuses old files s why → RefusedLeaves old s old
    → (printed : List ℕ) → Prints old files s printed → (new : State) → StatementLeaves old files s new → Answer old files s
told old files s None refuses stays printed prints new leaves = record { refusal = None; printed = printed; new = new; refuses = refuses; effect = (prints, leaves) }
told old files s (Some r) refuses stays printed prints new leaves = record { refusal = Some r; printed = refusal_text r; new = old; refuses = refuses; effect = (refl, stays) }

-- ---- SELECT

sum_by : (q : BoundQuery) (rows : List (List (List Value))) → Decided (IsSumTooGreat q rows) → (why : Option Refusal) × SumRefuses None q rows why
sum_by q rows (inl great) = (Some Refusal.SumOutOfRange, inl (great, refl))
sum_by q rows (inr never) = (None, inr (never, refl))

sum_told : (before : Option Refusal) (q : BoundQuery) (rows : List (List (List Value))) → (why : Option Refusal) × SumRefuses before q rows why
sum_told (Some r) q rows = (Some r, refl)
sum_told None q rows = sum_by q rows (sum_decided q rows)

selected : (old : State) (files : Files) (at : At) (q : Query) → Answer old files (Statement.Select at q)
selected old files at q =
    let (why, refuses) = sum_told (first_of (query_refusal_in old q) (epoch_refusal old.database.ahm old.database.last at)) (bound_in old q) (inputs at old q) in
    let (listed, is) = list_there (bound_in old q).order q.limit (output (bound_in old q) (inputs at old q)) in
    told old files (Statement.Select at q) why refuses refl (listing_text listed) (listed, is, refl) old refl

-- ---- COPY

abbrev CopyEffect : State → Option (ℕ × Table) → Option (List ℕ) → Option Refusal → List ℕ → State → Type 0
CopyEffect old found held (Some r) printed new = (printed ≡ refusal_text r) × (new ≡ old)
CopyEffect old found held None printed new = CopyPrints old found held printed × CopyLeaves old found held new

record Loading (old : State) (e : ℕ × Table) (bytes : List ℕ) (large : Bool) : Type 0 where
  refusal : Option Refusal
  printed : List ℕ
  new : State
  refuses : LoadRefuses old e bytes large refusal
  effect : CopyEffect old (Some e) (Some bytes) refusal printed new

rows_told : (old : State) (e : ℕ × Table) (bytes : List ℕ) (rows : List (List Value)) → Loads e.1.columns bytes (Load.Rows rows) → (why : Option Refusal) → why ≡ load_refusal old e.1.name (Load.Rows rows) → Loading old e bytes false
rows_told old e bytes rows loads (Some r) is = record { refusal = Some r; printed = refusal_text r; new = old; refuses = (Load.Rows rows, loads, is); effect = (refl, refl) }
rows_told old e bytes rows loads None is = record {
  refusal = None;
  printed = copy_text (rows_pending e.1.name rows old) (length rows);
  new = rows_loaded e.1.name rows old;
  refuses = (Load.Rows rows, loads, is);
  effect = ((rows, loads, refl), (rows, loads, refl));
}

load_told : (old : State) (e : ℕ × Table) (bytes : List ℕ) (load : Load) → Loads e.1.columns bytes load → Loading old e bytes false
load_told old e bytes (Load.Rows rows) loads = rows_told old e bytes rows loads (load_refusal old e.1.name (Load.Rows rows)) refl
load_told old e bytes (Load.Wrong line field) loads = record {
  refusal = Some (Refusal.BadLoadLine line field);
  printed = refusal_text (Refusal.BadLoadLine line field);
  new = old;
  refuses = (Load.Wrong line field, loads, refl);
  effect = (refl, refl);
}

file_told : (old : State) (e : ℕ × Table) (bytes : List ℕ) (large : Bool) → Loading old e bytes large
file_told old e bytes true = record { refusal = Some Refusal.FileTooLarge; printed = refusal_text Refusal.FileTooLarge; new = old; refuses = refl; effect = (refl, refl) }
file_told old e bytes false = let (load, loads) = load_there e.1.columns bytes in load_told old e bytes load loads

record Copying (old : State) (table : List ℕ) (found : Option (ℕ × Table)) (held : Option (List ℕ)) : Type 0 where
  refusal : Option Refusal
  printed : List ℕ
  new : State
  refuses : CopyRefuses old table found held refusal
  effect : CopyEffect old found held refusal printed new

record Unlocked (old : State) (before : Option Refusal) (e : ℕ × Table) (held : Option (List ℕ)) : Type 0 where
  refusal : Option Refusal
  printed : List ℕ
  new : State
  refuses : UnlockedRefuses before old e held refusal
  effect : CopyEffect old (Some e) held refusal printed new

unlocked_told : (old : State) (before : Option Refusal) (e : ℕ × Table) (held : Option (List ℕ)) → Unlocked old before e held
unlocked_told old (Some r) e held = record { refusal = Some r; printed = refusal_text r; new = old; refuses = refl; effect = (refl, refl) }
unlocked_told old None e None = record { refusal = Some Refusal.NoFile; printed = refusal_text Refusal.NoFile; new = old; refuses = refl; effect = (refl, refl) }
unlocked_told old None e (Some bytes) =
    let is = file_told old e bytes (is_large_file bytes) in
    record { refusal = is.refusal; printed = is.printed; new = is.new; refuses = is.refuses; effect = is.effect }

copy_told : (old : State) (table : List ℕ) (found : Option (ℕ × Table)) (held : Option (List ℕ)) → Copying old table found held
copy_told old table None held = record { refusal = Some (Refusal.UnknownTable table); printed = refusal_text (Refusal.UnknownTable table); new = old; refuses = refl; effect = (refl, refl) }
copy_told old table (Some e) held =
    let is = unlocked_told old (locked old table false) e held in
    record { refusal = is.refusal; printed = is.printed; new = is.new; refuses = is.refuses; effect = is.effect }

copy_effect : (old : State) (files : Files) (table file : List ℕ) (why : Option Refusal) (printed : List ℕ) (new : State)
    → CopyEffect old (table_found table old.database.tables) (files file) why printed new → Effect old files (Some (Statement.Copy table file)) why printed new
copy_effect old files table file (Some r) printed new is = is
copy_effect old files table file None printed new is = is

copied : (old : State) (files : Files) (table file : List ℕ) → Answer old files (Statement.Copy table file)
copied old files table file =
    let is = copy_told old table (table_found table old.database.tables) (files file) in
    record { refusal = is.refusal; printed = is.printed; new = is.new; refuses = is.refuses; effect = copy_effect old files table file is.refusal is.printed is.new is.effect }

-- ---- calls

moved : (old : State) (files : Files) (stopped : Bool) (new : State) → MovesAll old stopped new → Answer old files (Statement.Call Function.Moveout)
moved old files true new moves = record {
  refusal = Some Refusal.NumbersSpent;
  printed = refusal_text Refusal.NumbersSpent;
  new = new;
  refuses = (true, new, moves, refl);
  effect = (refl, inr moves);
}
moved old files false new moves = record { refusal = None; printed = codes "MOVEOUT\n"; new = new; refuses = (false, new, moves, refl); effect = (refl, moves) }

-- where there is nothing to merge or to purge, there is no job
no_jobs : (meant : Shape → Bool) (old : State) → RaisesAll meant old false (given_up old)
no_jobs meant old = record { count = 0; jobs = (refl, refl); drawn = record { from = omega arith; to = omega arith; parts = omega arith } }

merged : (old : State) (files : Files) → Answer old files (Statement.Call Function.Mergeout)
merged old files =
    let raises = no_jobs (λ s. true) old in
    record { refusal = None; printed = codes "MERGEOUT\n"; new = given_up old; refuses = (false, given_up old, raises, refl); effect = (refl, raises) }

-- a function on a table that isn't there
no_table : (old : State) (r : Refusal) (Run : Bool → State → Type 0) (o : Option Refusal) → o ≡ Some r → TableJobsRefuse o Run (Some r)
no_table old r Run o is = subst (λ (x : Option Refusal). TableJobsRefuse x Run (Some r)) (sym is) refl

on_table_there : (Run : Bool → State → Type 0) (o why : Option Refusal) → o ≡ None → JobsRefuse Run why → TableJobsRefuse o Run why
on_table_there Run o why is jobs = subst (λ (x : Option Refusal). TableJobsRefuse x Run why) (sym is) jobs

purged : (old : State) (files : Files) (table : List ℕ) (o : Option Refusal) → unknown_table_refusal old table ≡ o → Answer old files (Statement.Call (Function.Purge table))
purged old files table (Some r) is = record {
  refusal = Some r;
  printed = refusal_text r;
  new = old;
  refuses = no_table old r (RaisesAll (λ s. is_of_table table old.database.tables s.name) old) (unknown_table_refusal old table) is;
  effect = (refl, inl refl);
}
purged old files table None is =
    let meant : Shape → Bool = λ s. is_of_table table old.database.tables s.name in
    let raises = no_jobs meant old in
    record {
      refusal = None;
      printed = codes "PURGE\n";
      new = given_up old;
      refuses = on_table_there (RaisesAll meant old) (unknown_table_refusal old table) None is (false, given_up old, raises, refl);
      effect = (refl, raises);
    }

refreshed_to : (old : State) (files : Files) (table : List ℕ) (stopped : Bool) (new : State) → unknown_table_refusal old table ≡ None → RefreshesAll table old stopped new → Answer old files (Statement.Call (Function.Refresh table))
refreshed_to old files table true new is refreshes = record {
  refusal = Some Refusal.NumbersSpent;
  printed = refusal_text Refusal.NumbersSpent;
  new = new;
  refuses = on_table_there (RefreshesAll table old) (unknown_table_refusal old table) (Some Refusal.NumbersSpent) is (true, new, refreshes, refl);
  effect = (refl, inr refreshes);
}
refreshed_to old files table false new is refreshes = record {
  refusal = None;
  printed = codes "REFRESH\n";
  new = new;
  refuses = on_table_there (RefreshesAll table old) (unknown_table_refusal old table) None is (false, new, refreshes, refl);
  effect = (refl, refreshes);
}

refreshed : (old : State) (files : Files) (table : List ℕ) (o : Option Refusal) → unknown_table_refusal old table ≡ o → HasNames old.database → Answer old files (Statement.Call (Function.Refresh table))
refreshed old files table (Some r) is names =
    record { refusal = Some r; printed = refusal_text r; new = old; refuses = no_table old r (RefreshesAll table old) (unknown_table_refusal old table) is; effect = (refl, inl refl) }
refreshed old files table None is names = let (stopped, new, refreshes) = all_refreshed table old names in refreshed_to old files table stopped new is refreshes

mark_left : (b : Bool) (mark : ℕ) (old : State) → (new : State) × MarkLeaves b mark old new
mark_left true mark old = (undrawn old (mark_raised mark old), nothing_drawn old (mark_raised mark old))
mark_left false mark old = (old, refl)

called : (old : State) (files : Files) (f : Function) → HasNames old.database → Answer old files (Statement.Call f)
called old files Function.Lge names = told old files (Statement.Call Function.Lge) None refl refl (counted_line (codes "LGE ") (last_good old.database)) refl old refl
called old files Function.Ahm names = told old files (Statement.Call Function.Ahm) None refl refl (counted_line (codes "AHM ") old.database.ahm) refl old refl
called old files Function.Current names = told old files (Statement.Call Function.Current) None refl refl (epoch_line (old.database.last + 1)) refl old refl
called old files Function.MakeAhmNow names =
    let mark = last_good old.database in
    let (new, leaves) = mark_left (rises mark old.database) mark old in
    told old files (Statement.Call Function.MakeAhmNow) (raise_refusal mark old) refl refl (counted_line (codes "AHM ") mark) refl new leaves
called old files (Function.SetAhm n) names =
    let (new, leaves) = mark_left (rises n old.database) n old in
    told old files (Statement.Call (Function.SetAhm n)) (first_of (mark_refusal n old.database) (raise_refusal n old)) refl refl (counted_line (codes "AHM ") n) refl new leaves
called old files Function.Moveout names = let (stopped, new, moves) = all_moved old names in moved old files stopped new moves
called old files Function.Mergeout names = merged old files
called old files (Function.Purge table) names = purged old files table (unknown_table_refusal old table) refl
called old files (Function.Refresh table) names = refreshed old files table (unknown_table_refusal old table) refl names
called old files Function.StartRefresh names = told old files (Statement.Call Function.StartRefresh) None refl refl (codes "START REFRESH\n") refl (refresh_started old) refl

-- ---- all statements

pub answered : (old : State) (files : Files) (s : Statement) → HasNames old.database → Answer old files s
answered old files (Statement.CreateTable name columns) names =
    told old files (Statement.CreateTable name columns) (table_created_refusal old name columns) refl refl (codes "CREATE TABLE\n") refl (undrawn old (table_created name columns old)) (nothing_drawn old (table_created name columns old))
answered old files (Statement.CreateProjection p) names =
    told old files (Statement.CreateProjection p) (projection_created_refusal old p) refl refl (codes "CREATE PROJECTION\n") refl (undrawn old (projection_created p old)) (nothing_drawn old (projection_created p old))
answered old files (Statement.DropTable name) names =
    told old files (Statement.DropTable name) (table_dropped_refusal old name) refl refl (codes "DROP TABLE\n") refl (undrawn old (table_dropped name old)) (nothing_drawn old (table_dropped name old))
answered old files (Statement.DropProjection name) names =
    told old files (Statement.DropProjection name) (projection_dropped_refusal old name) refl refl (codes "DROP PROJECTION\n") refl (undrawn old (projection_dropped name old)) (nothing_drawn old (projection_dropped name old))
answered old files (Statement.Insert i) names =
    told old files (Statement.Insert i) (rows_inserted_refusal old i) refl refl (insert_line (length i.rows)) refl (rows_pending i.table (inserted_rows i) old) refl
answered old files (Statement.Delete d) names =
    told old files (Statement.Delete d) (rows_deleted_refusal old d) refl refl (counted_line (codes "DELETE ") (on_found (table_found d.table old.database.tables) (deleted_count d old))) refl (on_table d.table (rows_deleted d old) old) refl
answered old files (Statement.Update u) names =
    told old files (Statement.Update u) (rows_updated_refusal old u) refl refl (counted_line (codes "UPDATE ") (on_found (table_found u.table old.database.tables) (λ e. length (updated_old u old e)))) refl
    (on_table u.table (rows_updated u old) old) refl
answered old files (Statement.AddColumn a) names =
    told old files (Statement.AddColumn a) (column_added_refusal old a) refl refl (codes "ALTER TABLE\n") refl (undrawn old (column_added a old)) (nothing_drawn old (column_added a old))
answered old files (Statement.Copy table file) names = copied old files table file
answered old files Statement.Commit names = told old files Statement.Commit (commit_refusal old) refl refl (commit_text old) refl (changes_committed old) refl
answered old files Statement.Rollback names = told old files Statement.Rollback None refl refl (codes "ROLLBACK\n") refl (changes_dropped old) refl
answered old files (Statement.Select at q) names = selected old files at q
answered old files (Statement.Explain q) names = told old files (Statement.Explain q) (query_refusal_in old q) refl refl (explain_text old q) refl old refl
answered old files (Statement.Call f) names = called old files f names
answered old files (Statement.Session n) names = told old files (Statement.Session n) None refl refl [] refl (record old { current = n }) refl
answered old files Statement.Step names = let (new, steps) = mover_steps old in told old files Statement.Step None refl refl [] refl new steps

-- ---- where a form isn't served

call_stays : (old : State) (f : Function) → RefusedLeaves old (Statement.Call f) old
call_stays old Function.Lge = refl
call_stays old Function.Ahm = refl
call_stays old Function.Current = refl
call_stays old Function.MakeAhmNow = refl
call_stays old (Function.SetAhm n) = refl
call_stays old Function.Moveout = inl refl
call_stays old Function.Mergeout = inl refl
call_stays old (Function.Purge table) = inl refl
call_stays old (Function.Refresh table) = inl refl
call_stays old Function.StartRefresh = refl

pub all_stays : (old : State) (s : Statement) → RefusedLeaves old s old
all_stays old (Statement.CreateTable name columns) = refl
all_stays old (Statement.CreateProjection p) = refl
all_stays old (Statement.DropTable name) = refl
all_stays old (Statement.DropProjection name) = refl
all_stays old (Statement.Insert i) = refl
all_stays old (Statement.Delete d) = refl
all_stays old (Statement.Update u) = refl
all_stays old (Statement.AddColumn a) = refl
all_stays old (Statement.Copy table file) = refl
all_stays old Statement.Commit = refl
all_stays old Statement.Rollback = refl
all_stays old (Statement.Select at q) = refl
all_stays old (Statement.Explain q) = refl
all_stays old (Statement.Call f) = call_stays old f
all_stays old (Statement.Session n) = refl
all_stays old Statement.Step = refl
