-- A step leaves a sound state sound.
use Rattle.std.proofs.Common.{◌≡◌, ◌≤◌, ℕ, ◌⊎◌, inl, inr, Bool, true, false, List, sym, subst, arith}
use Rattle.std.specs.Prelude.{Option, Some, None}
use Rattle.sql_words.specs.Symbols.{symbols_of}
use Rattle.sql_tree.specs.declared.refusal.Refusal.{Refusal}
use Rattle.sql_tree.specs.declared.statement.Function.{Function}
use Rattle.sql_tree.specs.declared.statement.Statement.{Statement}
use Rattle.db_model.specs.Epochs.{last_good, rises}
use Rattle.db_model.specs.Events.{column_added, is_of_table, mark_raised, projection_created, projection_dropped, table_created, table_dropped}
use Rattle.db_model.specs.Leaving.{CallLeaves, MarkLeaves, StatementLeaves, RefusedCallLeaves, RefusedLeaves}
use Rattle.db_model.specs.Loading.{Files}
use Rattle.db_model.specs.Mover.{MovesAll, RaisesAll, RefreshesAll}
use Rattle.db_model.specs.Refusals.{CallRefuses, Refuses}
use Rattle.db_model.specs.Sound.{IsSound}
use Rattle.db_model.specs.State.{State}
use Rattle.db_model.specs.Step.{Decides, Effect, Reads, RefusesForm, Step}
use Rattle.state_laws.proofs.Added.{added_state}
use Rattle.state_laws.proofs.Events.{created_state, current_sound, drawn_sound, dropped_changes, dropped_state}
use Rattle.state_laws.proofs.Commits.{committed_state}
use Rattle.state_laws.proofs.Marked.{allowed_mark, raised_state}
use Rattle.state_laws.proofs.Reached.{all_moved, all_raised, all_refreshed, started_state}
use Rattle.state_laws.proofs.Shaped.{shaped_state}
use Rattle.state_laws.proofs.Unshaped.{unshaped_state}
use Rattle.change_laws.proofs.Deleted.{deleted_state}
use Rattle.change_laws.proofs.Updated.{updated_state}
use Rattle.step_laws.proofs.Copied.{LoadsFit, copied}
use Rattle.step_laws.proofs.Inserted.{inserted_state}
use Rattle.step_laws.proofs.Moves.{sound_same, mover_stepped}
use Rattle.step_laws.proofs.Named.{NamesASession, names_a_session}

-- ---- statements that aren't refused

marked : (b : Bool) (mark : ℕ) (state new : State) → mark ≤ last_good state.database → MarkLeaves b mark state new → IsSound state → IsSound new
marked true mark state new le drawn is = drawn_sound state (mark_raised mark state) new drawn (raised_state state mark le is)
marked false mark state new le same is = sound_same state new same is

called : (state : State) (f : Function) (new : State) → CallRefuses state f None → CallLeaves state f new → IsSound state → IsSound new
called state Function.Lge new free same is = sound_same state new same is
called state Function.Ahm new free same is = sound_same state new same is
called state Function.Current new free same is = sound_same state new same is
called state Function.MakeAhmNow new free leaves is = marked (rises (last_good state.database) state.database) (last_good state.database) state new (omega arith) leaves is
called state (Function.SetAhm n) new free leaves is = marked (rises n state.database) n state new (allowed_mark n state (sym free)) leaves is
called state Function.Moveout new free moves is = all_moved false state new moves is
called state Function.Mergeout new free raises is = all_raised (λ s. true) false state new raises is
called state (Function.Purge table) new free raises is = all_raised (λ s. is_of_table table state.database.tables s.name) false state new raises is
called state (Function.Refresh table) new free refreshes is = all_refreshed table false state new refreshes is
called state Function.StartRefresh new free same is = subst IsSound (sym same) (started_state state is)

answered : LoadsFit → (state : State) (files : Files) (s : Statement) (new : State) → NamesASession s → Refuses state files s None → StatementLeaves state files s new → IsSound state → IsSound new
answered fit state files (Statement.CreateTable name columns) new named free drawn is = drawn_sound state (table_created name columns state) new drawn (created_state state name columns (sym free) is)
answered fit state files (Statement.CreateProjection p) new named free drawn is = drawn_sound state (projection_created p state) new drawn (shaped_state state p (sym free) is)
answered fit state files (Statement.DropTable name) new named free drawn is = drawn_sound state (table_dropped name state) new drawn (dropped_state state name (sym free) is)
answered fit state files (Statement.DropProjection name) new named free drawn is = drawn_sound state (projection_dropped name state) new drawn (unshaped_state state name (sym free) is)
answered fit state files (Statement.Insert i) new named free same is = subst IsSound (sym same) (inserted_state state i (sym free) is)
answered fit state files (Statement.Delete d) new named free same is = subst IsSound (sym same) (deleted_state state d (sym free) is)
answered fit state files (Statement.Update u) new named free same is = subst IsSound (sym same) (updated_state state u (sym free) is)
answered fit state files (Statement.AddColumn a) new named free drawn is = drawn_sound state (column_added a state) new drawn (added_state state a (sym free) is)
answered fit state files (Statement.Copy table file) new named free leaves is = copied fit state table (files file) new free leaves is
answered fit state files Statement.Commit new named free same is = subst IsSound (sym same) (committed_state state is)
answered fit state files Statement.Rollback new named free same is = subst IsSound (sym same) (dropped_changes state is)
answered fit state files (Statement.Select at q) new named free same is = sound_same state new same is
answered fit state files (Statement.Explain q) new named free same is = sound_same state new same is
answered fit state files (Statement.Call f) new named free leaves is = called state f new free leaves is
answered fit state files (Statement.Session n) new (first, last) free same is = subst IsSound (sym same) (current_sound state n first last is)
answered fit state files Statement.Step new named free steps is = mover_stepped state new steps is

-- ---- refused ones

stopped : (Run : State → Type 0) (state new : State) → (Run new → IsSound state → IsSound new) → (new ≡ state) ⊎ Run new → IsSound state → IsSound new
stopped Run state new keeps (inl same) is = sound_same state new same is
stopped Run state new keeps (inr ran) is = keeps ran is

refused_call : (state : State) (f : Function) (new : State) → RefusedCallLeaves state f new → IsSound state → IsSound new
refused_call state Function.Lge new same is = sound_same state new same is
refused_call state Function.Ahm new same is = sound_same state new same is
refused_call state Function.Current new same is = sound_same state new same is
refused_call state Function.MakeAhmNow new same is = sound_same state new same is
refused_call state (Function.SetAhm n) new same is = sound_same state new same is
refused_call state Function.Moveout new leaves is = stopped (MovesAll state true) state new (all_moved true state new) leaves is
refused_call state Function.Mergeout new leaves is = stopped (RaisesAll (λ s. true) state true) state new (all_raised (λ s. true) true state new) leaves is
refused_call state (Function.Purge table) new leaves is =
    stopped (RaisesAll (λ s. is_of_table table state.database.tables s.name) state true) state new (all_raised (λ s. is_of_table table state.database.tables s.name) true state new) leaves is
refused_call state (Function.Refresh table) new leaves is = stopped (RefreshesAll table state true) state new (all_refreshed table true state new) leaves is
refused_call state Function.StartRefresh new same is = sound_same state new same is

refused : (state : State) (s : Statement) (new : State) → RefusedLeaves state s new → IsSound state → IsSound new
refused state (Statement.CreateTable name columns) new same is = sound_same state new same is
refused state (Statement.CreateProjection p) new same is = sound_same state new same is
refused state (Statement.DropTable name) new same is = sound_same state new same is
refused state (Statement.DropProjection name) new same is = sound_same state new same is
refused state (Statement.Insert i) new same is = sound_same state new same is
refused state (Statement.Delete d) new same is = sound_same state new same is
refused state (Statement.Update u) new same is = sound_same state new same is
refused state (Statement.AddColumn a) new same is = sound_same state new same is
refused state (Statement.Copy table file) new same is = sound_same state new same is
refused state Statement.Commit new same is = sound_same state new same is
refused state Statement.Rollback new same is = sound_same state new same is
refused state (Statement.Select at q) new same is = sound_same state new same is
refused state (Statement.Explain q) new same is = sound_same state new same is
refused state (Statement.Call f) new leaves is = refused_call state f new leaves is
refused state (Statement.Session n) new same is = sound_same state new same is
refused state Statement.Step new same is = sound_same state new same is

-- ---- a step

-- what isn't refused is of a form that is served
served : (state : State) (files : Files) (s : Statement) (serves : Bool) → RefusesForm state files s serves None → Refuses state files s None
served state files s true free = free
served state files s false free = absurd (cc)

effected : LoadsFit → (serves : Statement → Bool) (old : State) (files : Files) (text : List ℕ) (read : Option Statement) (why : Option Refusal) (printed : List ℕ) (new : State)
    → Reads text read → Decides serves old files text read why → Effect old files read why printed new → IsSound old → IsSound new
effected fit serves old files text None None printed new reads decided never is = absurd never
effected fit serves old files text None (Some why) printed new reads decided (line, same) is = sound_same old new same is
effected fit serves old files text (Some s) (Some why) printed new reads decided (line, leaves) is = refused old s new leaves is
effected fit serves old files text (Some s) None printed new reads decided (prints, leaves) is =
    answered fit old files s new (names_a_session (symbols_of text) s reads) (served old files s (serves s) decided) leaves is

pub stepped : LoadsFit → (serves : Statement → Bool) (old new : State) (files : Files) (text printed : List ℕ) (why : Option Refusal) → Step serves old files text printed why new → IsSound old → IsSound new
stepped fit serves old new files text printed why step is = effected fit serves old files text step.read why printed new step.reads step.decided step.effect is
