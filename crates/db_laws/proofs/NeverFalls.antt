-- No statement lets the last good epoch fall.
use Rattle.std.proofs.Common.{◌≡◌, ℕ, ◌≤◌, ◌⊎◌, inl, inr, List, [], ◌∷◌, Bool, true, false, sym, subst}
use Rattle.std.specs.Prelude.{Option, Some, None}
use Rattle.std.specs.Option.{option_map_or}
use Rattle.sql_words.specs.Texts.{statement_texts}
use Rattle.sql_tree.specs.declared.statement.Statement.{Statement}
use Rattle.sql_tree.specs.declared.statement.Function.{Function}
use Rattle.sql_tree.specs.declared.statement.Delete.{Delete}
use Rattle.sql_tree.specs.declared.statement.Update.{Update}
use Rattle.sql_tree.specs.declared.refusal.Refusal.{Refusal}
use Rattle.db_model.specs.Database.{Table}
use Rattle.db_model.specs.State.{State}
use Rattle.db_model.specs.Sound.{IsSoundDatabase}
use Rattle.db_model.specs.Epochs.{last_good, rises}
use Rattle.db_model.specs.Views.{table_found}
use Rattle.db_model.specs.Events.{mark_raised, is_of_table, column_added, table_created, projection_created, table_dropped, projection_dropped, rows_pending, rows_deleted, rows_updated, rows_loaded}
use Rattle.db_model.specs.Loading.{Files}
use Rattle.db_model.specs.Mover.{MovesAll, RaisesAll, RefreshesAll}
use Rattle.db_model.specs.Leaving.{StatementLeaves, MarkLeaves, RefusedLeaves, CallLeaves, RefusedCallLeaves, CopyLeaves}
use Rattle.db_model.specs.Step.{Step, Effect}
use Rattle.db_model.specs.Run.{Setting, RunTexts, Run, EndsUnless, all_dropped}
use Rattle.db_laws.proofs.Goods.{IsGood, good_least, good_itself, good_created, good_projected, good_dropped, good_bared, good_committed, good_widened, good_drawn, good_all, good_raises, good_refreshes, good_mover, good_runs}

same_good : (n : ℕ) (old new : State) → new ≡ old → IsGood n old.database → IsGood n new.database
same_good n old new same good = subst (λ (x : State). IsGood n x.database) (sym same) good

-- statements on one table's rows leave the database
deleted_good : (n : ℕ) (d : Delete) (state : State) (e : Option (ℕ × Table)) → IsGood n state.database → IsGood n (option_map_or (rows_deleted d state) e state).database
deleted_good n d state None good = good
deleted_good n d state (Some e) good = good

updated_good : (n : ℕ) (u : Update) (state : State) (e : Option (ℕ × Table)) → IsGood n state.database → IsGood n (option_map_or (rows_updated u state) e state).database
updated_good n u state None good = good
updated_good n u state (Some e) good = good

copied_good : (n : ℕ) (state : State) (e : Option (ℕ × Table)) (held : Option (List ℕ)) (new : State) → CopyLeaves state e held new → IsGood n state.database → IsGood n new.database
copied_good n state None held new leaves good = absurd leaves
copied_good n state (Some e) None new leaves good = absurd leaves
copied_good n state (Some e) (Some bytes) new (rows, loads, same) good = same_good n (rows_loaded e.1.name rows state) new same (good_committed n (rows_pending e.1.name rows state) good)

pub marked_good : (n : ℕ) (b : Bool) (mark : ℕ) (state new : State) → MarkLeaves b mark state new → IsGood n state.database → IsGood n new.database
marked_good n true mark state new drawn good = good_drawn n state (mark_raised mark state) new drawn (record { closed = good.closed; tables = good.tables })
marked_good n false mark state new same good = same_good n state new same good

called_good : (n : ℕ) (state : State) (f : Function) (new : State) → CallLeaves state f new → IsGood n state.database → IsGood n new.database
called_good n state Function.Lge new same good = same_good n state new same good
called_good n state Function.Ahm new same good = same_good n state new same good
called_good n state Function.Current new same good = same_good n state new same good
called_good n state Function.MakeAhmNow new leaves good = marked_good n (rises (last_good state.database) state.database) (last_good state.database) state new leaves good
called_good n state (Function.SetAhm m) new leaves good = marked_good n (rises m state.database) m state new leaves good
called_good n state Function.Moveout new moves good = good_all n state false new moves good
called_good n state Function.Mergeout new raises good = good_raises n (λ s. true) state false new raises good
called_good n state (Function.Purge table) new raises good = good_raises n (λ s. is_of_table table state.database.tables s.name) state false new raises good
called_good n state (Function.Refresh table) new refreshes good = good_refreshes n table state false new refreshes good
called_good n state Function.StartRefresh new same good = subst (λ (x : State). IsGood n x.database) (sym same) good

left_good : (n : ℕ) (state : State) (files : Files) (s : Statement) (new : State) → StatementLeaves state files s new → IsGood n state.database → IsGood n new.database
left_good n state files (Statement.CreateTable name columns) new drawn good = good_drawn n state (table_created name columns state) new drawn (good_created n name columns state good)
left_good n state files (Statement.CreateProjection p) new drawn good = good_drawn n state (projection_created p state) new drawn (good_projected n p state good)
left_good n state files (Statement.DropTable name) new drawn good = good_drawn n state (table_dropped name state) new drawn (good_dropped n name state good)
left_good n state files (Statement.DropProjection name) new drawn good = good_drawn n state (projection_dropped name state) new drawn (good_bared n name state good)
left_good n state files (Statement.Insert i) new same good = subst (λ (x : State). IsGood n x.database) (sym same) good
left_good n state files (Statement.Delete d) new same good = subst (λ (x : State). IsGood n x.database) (sym same) (deleted_good n d state (table_found d.table state.database.tables) good)
left_good n state files (Statement.Update u) new same good = subst (λ (x : State). IsGood n x.database) (sym same) (updated_good n u state (table_found u.table state.database.tables) good)
left_good n state files (Statement.AddColumn a) new drawn good = good_drawn n state (column_added a state) new drawn (good_widened n a state good)
left_good n state files (Statement.Copy table file) new leaves good = copied_good n state (table_found table state.database.tables) (files file) new leaves good
left_good n state files Statement.Commit new same good = subst (λ (x : State). IsGood n x.database) (sym same) (good_committed n state good)
left_good n state files Statement.Rollback new same good = subst (λ (x : State). IsGood n x.database) (sym same) good
left_good n state files (Statement.Select at q) new same good = same_good n state new same good
left_good n state files (Statement.Explain q) new same good = same_good n state new same good
left_good n state files (Statement.Call f) new leaves good = called_good n state f new leaves good
left_good n state files (Statement.Session m) new same good = subst (λ (x : State). IsGood n x.database) (sym same) good
left_good n state files Statement.Step new steps good = good_mover n state new steps good

stopped_good : (n : ℕ) (Run : State → Type 0) (state new : State) → (Run new → IsGood n state.database → IsGood n new.database) → (new ≡ state) ⊎ Run new → IsGood n state.database → IsGood n new.database
stopped_good n Run state new keeps (inl same) good = same_good n state new same good
stopped_good n Run state new keeps (inr ran) good = keeps ran good

refused_call_good : (n : ℕ) (state : State) (f : Function) (new : State) → RefusedCallLeaves state f new → IsGood n state.database → IsGood n new.database
refused_call_good n state Function.Lge new same good = same_good n state new same good
refused_call_good n state Function.Ahm new same good = same_good n state new same good
refused_call_good n state Function.Current new same good = same_good n state new same good
refused_call_good n state Function.MakeAhmNow new same good = same_good n state new same good
refused_call_good n state (Function.SetAhm m) new same good = same_good n state new same good
refused_call_good n state Function.Moveout new leaves good = stopped_good n (MovesAll state true) state new (good_all n state true new) leaves good
refused_call_good n state Function.Mergeout new leaves good = stopped_good n (RaisesAll (λ s. true) state true) state new (good_raises n (λ s. true) state true new) leaves good
refused_call_good n state (Function.Purge table) new leaves good =
    stopped_good n (RaisesAll (λ s. is_of_table table state.database.tables s.name) state true) state new (good_raises n (λ s. is_of_table table state.database.tables s.name) state true new) leaves good
refused_call_good n state (Function.Refresh table) new leaves good = stopped_good n (RefreshesAll table state true) state new (good_refreshes n table state true new) leaves good
refused_call_good n state Function.StartRefresh new same good = same_good n state new same good

refused_good : (n : ℕ) (state : State) (s : Statement) (new : State) → RefusedLeaves state s new → IsGood n state.database → IsGood n new.database
refused_good n state (Statement.CreateTable name columns) new same good = same_good n state new same good
refused_good n state (Statement.CreateProjection p) new same good = same_good n state new same good
refused_good n state (Statement.DropTable name) new same good = same_good n state new same good
refused_good n state (Statement.DropProjection name) new same good = same_good n state new same good
refused_good n state (Statement.Insert i) new same good = same_good n state new same good
refused_good n state (Statement.Delete d) new same good = same_good n state new same good
refused_good n state (Statement.Update u) new same good = same_good n state new same good
refused_good n state (Statement.AddColumn a) new same good = same_good n state new same good
refused_good n state (Statement.Copy table file) new same good = same_good n state new same good
refused_good n state Statement.Commit new same good = same_good n state new same good
refused_good n state Statement.Rollback new same good = same_good n state new same good
refused_good n state (Statement.Select at q) new same good = same_good n state new same good
refused_good n state (Statement.Explain q) new same good = same_good n state new same good
refused_good n state (Statement.Call f) new leaves good = refused_call_good n state f new leaves good
refused_good n state (Statement.Session m) new same good = same_good n state new same good
refused_good n state Statement.Step new same good = same_good n state new same good

effect_good : (n : ℕ) (old : State) (files : Files) (read : Option Statement) (why : Option Refusal) (printed : List ℕ) (new : State) → Effect old files read why printed new → IsGood n old.database → IsGood n new.database
effect_good n old files None (Some why) printed new (text, same) good = same_good n old new same good
effect_good n old files (Some s) (Some why) printed new (text, leaves) good = refused_good n old s new leaves good
effect_good n old files (Some s) None printed new (prints, leaves) good = left_good n old files s new leaves good
effect_good n old files None None printed new none good = absurd none

step_good : (serves : Statement → Bool) (n : ℕ) (old : State) (files : Files) (text printed : List ℕ) (why : Option Refusal) (new : State) → Step serves old files text printed why new → IsGood n old.database → IsGood n new.database
step_good serves n old files text printed why new step good = effect_good n old files step.read why printed new step.effect good

pub step_never_falls : (serves : Statement → Bool) (old : State) (files : Files) (text printed : List ℕ) (why : Option Refusal) (new : State) → Step serves old files text printed why new → IsSoundDatabase old.database → last_good old.database ≤ last_good new.database
step_never_falls serves old files text printed why new step sound = good_least (last_good old.database) new.database (step_good serves (last_good old.database) old files text printed why new step (good_itself old.database sound))

texts_good : (n : ℕ) (setting : Setting) (old : State) (texts : List (List ℕ)) (printed : List ℕ) (refused : Bool) (new : State) → RunTexts setting old texts printed refused new → IsGood n old.database → IsGood n new.database
texts_good n setting old [] printed refused new (none, never, same) good = same_good n old new same good
texts_good n setting old (text ∷ more) printed refused new (first, why, mid, rest, later, passes, ran, whole, any) good =
    texts_good n setting mid more rest later new ran (good_runs n setting.steps passes.answered mid passes.mover (step_good setting.serves n old setting.files text first why passes.answered passes.step good))

ends_good : (n : ℕ) (b : Bool) (old new : State) → EndsUnless b old new → IsGood n old.database → IsGood n new.database
ends_good n true old new same good = same_good n old new same good
ends_good n false old new (stopped, moves) good = good_all n (all_dropped old) stopped new moves good

pub run_never_falls : (setting : Setting) (start : State) (script printed : List ℕ) (refused : Bool) (new : State) → Run setting start script printed refused new → IsSoundDatabase start.database → last_good start.database ≤ last_good new.database
run_never_falls setting start script printed refused new (mid, ran, ends) sound =
    good_least (last_good start.database) new.database (ends_good (last_good start.database) setting.halts mid new ends
    (texts_good (last_good start.database) setting start (statement_texts script) printed refused mid ran (good_itself start.database sound)))
