-- A step over alike states.
use Rattle.std.proofs.Common.{◌≡◌, ℕ, ◌+◌, Bool, true, false, List, [], length, refl, sym, ap, ap₂, ◌∙◌, subst}
use Rattle.std.specs.Prelude.{◌&&◌, ◌||◌, nat_lt, Option, Some, None, codes, is_some}
use Rattle.col_value.specs.declared.column.Column.{Column}
use Rattle.col_value.specs.declared.value.Value.{Value}
use Rattle.sql_tree.specs.declared.query.At.{At}
use Rattle.sql_tree.specs.declared.query.Query.{Query}
use Rattle.sql_tree.specs.declared.refusal.Refusal.{Refusal}
use Rattle.sql_tree.specs.declared.statement.Function.{Function}
use Rattle.sql_tree.specs.declared.statement.Statement.{Statement}
use Rattle.sql_bound.specs.declared.query.BoundQuery.{BoundQuery}
use Rattle.sql_binding.specs.Firsts.{first_of, refused_where}
use Rattle.sql_binding.specs.Inserts.{inserted_rows}
use Rattle.db_model.specs.Alike.{AreAlikeStates}
use Rattle.db_model.specs.Answers.{epoch_line}
use Rattle.db_model.specs.Database.{Table}
use Rattle.db_model.specs.Epochs.{last_good, rises}
use Rattle.db_model.specs.Events.{changes_committed, changes_dropped, column_added, is_of_table, mark_raised, on_table, projection_created, projection_dropped, refresh_started, rows_deleted, rows_loaded, rows_pending, rows_updated, table_created, table_dropped}
use Rattle.db_model.specs.Leaving.{CallLeaves, CopyLeaves, StatementLeaves, MarkLeaves}
use Rattle.db_model.specs.Loading.{Files, Load, Loads}
use Rattle.db_model.specs.Mover.{MovesAll, RaisesAll, RefreshesAll}
use Rattle.db_model.specs.Numbers.{are_spent}
use Rattle.db_model.specs.Printing.{CallPrints, CopyPrints, Prints, copy_text, counted_line}
use Rattle.db_model.specs.Refusals.{CallRefuses, CopyRefuses, FileRefuses, LoadRefuses, Refuses, SumRefuses, TableJobsRefuse, UnlockedRefuses, is_large_file, load_refusal, locked, mark_refusal, query_refusal_in, raise_refusal, unknown_table_refusal}
use Rattle.db_model.specs.Refusing.{epoch_refusal}
use Rattle.db_model.specs.Sound.{IsSound}
use Rattle.db_model.specs.State.{State}
use Rattle.db_model.specs.Step.{Decides, Effect, Reads, RefusesForm}
use Rattle.db_model.specs.Views.{bound_in, inputs, table_found}
use Rattle.alike_laws.proofs.Refused.{commit_alike, joining_alike, load_alike, locked_alike, put_alike}
use Rattle.one_text.specs.OneText.{HasJobs, QueriesHaveOneCause, QueriesHaveOneText}
use Rattle.one_text.specs.Scripts.{AsksNoMover}
use Rattle.one_text.proofs.Numbered.{IsOther, Others, others_read, text_stays}
use Rattle.one_text.proofs.OneLoad.{load_once, rows_loaded_once}
use Rattle.one_text.proofs.OneQuery.{first_none, refusal_same}
use Rattle.one_text.proofs.OneStep.{OneReading, decided_once, jobs_refused, read_once, table_jobs_refused}
use Rattle.alike_steps.specs.Steps.{AlikeStatesStepAlike, IsDetermined, JobsStepAlike, TheStorageDecides, UnrefusedStepsAlike}
use Rattle.alike_steps.proofs.Changed.{SettingsSeeABag, delete_counts, delete_same, deleted_alike, insert_same, pending_alike, update_counts, update_same, updated_alike}
use Rattle.alike_steps.proofs.Committed.{can_commit, can_load, commit_texts, committed_zip, copy_texts}
use Rattle.alike_steps.proofs.Marked.{raised_alike}
use Rattle.alike_steps.proofs.Moved.{all_alike, refreshes_alike}
use Rattle.alike_steps.proofs.Shaped.{create_same, created_alike, drawn_alike, drop_same, dropped_alike, left_alike, shape_same, shaped_alike, unknown_same, unshape_same, unshaped_alike}
use Rattle.alike_steps.proofs.Tables.{AreAlikeFound, found_both}
use Rattle.alike_steps.proofs.Told.{explain_same, good_same}
use Rattle.alike_steps.proofs.Widened.{add_same, added_alike, started_alike}
use Rattle.alike_steps.proofs.Zipped.{BothThere}

abbrev Cause : Type 0
Cause = Option Refusal

-- what is known of queries and of what an UPDATE sets, in whatever order the rows stand
pub record HaveOneMeaning : Type 0 where
  pub cause : QueriesHaveOneCause
  pub text : QueriesHaveOneText
  pub settings : SettingsSeeABag

-- of what isn't for the mover the storage doesn't decide
quiet_decides : (s : Statement) → IsOther s → TheStorageDecides s → ⊥
quiet_decides Statement.Step quiet decides = quiet.no_step refl
quiet_decides (Statement.Call Function.Mergeout) quiet decides = quiet.no_jobs Function.Mergeout tt refl
quiet_decides (Statement.Call (Function.Purge table)) quiet decides = quiet.no_jobs (Function.Purge table) tt refl
quiet_decides s quiet decides = absurd decides

module _ (a b : State) (alike : AreAlikeStates a b) (sound : IsSound a) where
  abbrev Found : ℕ × Table → ℕ × Table → Type 0
  Found = AreAlikeFound a.database.ahm

  named : (name : List ℕ) → BothThere Found (table_found name a.database.tables) (table_found name b.database.tables)
  named name = found_both a.database.ahm name a.database.tables b.database.tables alike.database.tables

  -- ---- COPY

  -- the same load, read into the columns of either table
  there : (e f : ℕ × Table) (bytes : List ℕ) (load : Load) → Found e f → Loads f.1.columns bytes load → Loads e.1.columns bytes load
  there e f bytes load both loads = subst (λ (cs : List Column). Loads cs bytes load) (sym both.table.columns) loads

  load_same : (name : List ℕ) (load : Load) → load_refusal a name load ≡ load_refusal b name load
  load_same name (Load.Wrong line field) = refl
  load_same name (Load.Rows rows) =
      ap₂ (λ (o p : Cause). first_of o p) (joining_alike a b name (length rows) alike.sessions alike.current)
      (load_alike a b name rows alike.sessions alike.current alike.database.last)

  load_refused : (e f : ℕ × Table) (bytes : List ℕ) (large : Bool) (why also : Cause) → Found e f → LoadRefuses a e bytes large why → LoadRefuses b f bytes large also → why ≡ also
  load_refused e f bytes true why also both first second = first ∙ sym second
  load_refused e f bytes false why also both (load, loads, why_is) (other, others, also_is) =
      why_is ∙ load_same e.1.name load
      ∙ ap₂ (λ (n : List ℕ) (x : Load). load_refusal b n x) both.table.name (load_once e.1.columns bytes load other loads (there e f bytes other both others)) ∙ sym also_is

  file_refused : (e f : ℕ × Table) (held : Option (List ℕ)) (why also : Cause) → Found e f → FileRefuses a e held why → FileRefuses b f held also → why ≡ also
  file_refused e f None why also both first second = first ∙ sym second
  file_refused e f (Some bytes) why also both first second = load_refused e f bytes (is_large_file bytes) why also both first second

  unlocked_refused : (o p : Cause) (e f : ℕ × Table) (held : Option (List ℕ)) (why also : Cause) → o ≡ p → Found e f → UnlockedRefuses o a e held why → UnlockedRefuses p b f held also → why ≡ also
  unlocked_refused (Some r) (Some s) e f held why also same both first second = first ∙ same ∙ sym second
  unlocked_refused (Some r) None e f held why also same both first second = absurd (cc)
  unlocked_refused None (Some s) e f held why also same both first second = absurd (cc)
  unlocked_refused None None e f held why also same both first second = file_refused e f held why also both first second

  copy_refused : (table : List ℕ) (o p : Option (ℕ × Table)) (held : Option (List ℕ)) (why also : Cause) → BothThere Found o p → CopyRefuses a table o held why → CopyRefuses b table p held also → why ≡ also
  copy_refused table None None held why also both first second = first ∙ sym second
  copy_refused table None (Some f) held why also both first second = absurd both
  copy_refused table (Some e) None held why also both first second = absurd both
  copy_refused table (Some e) (Some f) held why also both first second =
      unlocked_refused (locked a table false) (locked b table false) e f held why also (locked_alike a b table false alike.sessions alike.current) both first second

  copy_printed : (o p : Option (ℕ × Table)) (held : Option (List ℕ)) (x y : List ℕ) → BothThere Found o p → CopyPrints a o held x → CopyPrints b p held y → x ≡ y
  copy_printed None p held x y both first second = absurd first
  copy_printed (Some e) None held x y both first second = absurd both
  copy_printed (Some e) (Some f) None x y both first second = absurd first
  copy_printed (Some e) (Some f) (Some bytes) x y both (rs, rows, x_is) (qs, others, y_is) =
      x_is ∙ copy_texts (rows_pending e.1.name rs a) (rows_pending e.1.name rs b) (length rs) (pending_alike a b alike sound.database.mark e.1.name rs)
      ∙ ap₂ (λ (n : List ℕ) (xs : List (List Value)). copy_text (rows_pending n xs b) (length xs)) both.table.name (rows_loaded_once e.1.columns bytes rs qs rows (there e f bytes (Load.Rows qs) both others))
      ∙ sym y_is

  copy_left : (o p : Option (ℕ × Table)) (held : Option (List ℕ)) (x y : State) → BothThere Found o p → CopyLeaves a o held x → CopyLeaves b p held y → AreAlikeStates x y
  copy_left None p held x y both first second = absurd first
  copy_left (Some e) None held x y both first second = absurd both
  copy_left (Some e) (Some f) None x y both first second = absurd first
  copy_left (Some e) (Some f) (Some bytes) x y both (rs, rows, x_is) (qs, others, y_is) =
      left_alike (rows_loaded e.1.name rs a) (rows_loaded e.1.name rs b) x y x_is
      (y_is
      ∙ sym
      (ap₂ (λ (n : List ℕ) (xs : List (List Value)). rows_loaded n xs b) both.table.name (rows_loaded_once e.1.columns bytes rs qs rows (there e f bytes (Load.Rows qs) both others))))
      (committed_zip (rows_pending e.1.name rs a) (rows_pending e.1.name rs b) (pending_alike a b alike sound.database.mark e.1.name rs) (can_load a e.1.name rs sound))

  -- ---- functions

  raise_same : (mark : ℕ) → are_spent a ≡ are_spent b → raise_refusal mark a ≡ raise_refusal mark b
  raise_same mark spent = ap₂ (λ (ahm : ℕ) (s : Bool). refused_where (nat_lt ahm mark && s) Refusal.NumbersSpent) alike.database.ahm spent

  mark_same : (mark : ℕ) → mark_refusal mark a.database ≡ mark_refusal mark b.database
  mark_same mark = ap₂ (λ (ahm good : ℕ). refused_where (nat_lt mark ahm || nat_lt good mark) (Refusal.BadMark mark ahm good)) alike.database.ahm (good_same a b alike)

  mark_left : (c : Bool) (mark : ℕ) (x y : State) → rises mark a.database ≡ c → MarkLeaves c mark a x → MarkLeaves c mark b y → AreAlikeStates x y
  mark_left true mark x y is first second = drawn_alike a b (mark_raised mark a) (mark_raised mark b) x y first second (raised_alike a b alike mark is)
  mark_left false mark x y is first second = left_alike a b x y first second alike

  call_refused : (f : Function) (why also : Cause) → are_spent a ≡ are_spent b → IsOther (Statement.Call f) → CallRefuses a f why → CallRefuses b f also → why ≡ also
  call_refused Function.Lge why also spent quiet first second = first ∙ sym second
  call_refused Function.Ahm why also spent quiet first second = first ∙ sym second
  call_refused Function.Current why also spent quiet first second = first ∙ sym second
  call_refused Function.MakeAhmNow why also spent quiet first second =
      first ∙ ap (λ (mark : ℕ). raise_refusal mark a) (good_same a b alike) ∙ raise_same (last_good b.database) spent ∙ sym second
  call_refused (Function.SetAhm n) why also spent quiet first second = first ∙ ap₂ (λ (o p : Cause). first_of o p) (mark_same n) (raise_same n spent) ∙ sym second
  call_refused Function.Moveout why also spent quiet first second = absurd (quiet.no_jobs Function.Moveout tt refl)
  call_refused Function.Mergeout why also spent quiet first second = absurd (quiet.no_jobs Function.Mergeout tt refl)
  call_refused (Function.Purge table) why also spent quiet first second = absurd (quiet.no_jobs (Function.Purge table) tt refl)
  call_refused (Function.Refresh table) why also spent quiet first second = absurd (quiet.no_jobs (Function.Refresh table) tt refl)
  call_refused Function.StartRefresh why also spent quiet first second = first ∙ sym second

  call_printed : (f : Function) (p q : List ℕ) → CallPrints a f p → CallPrints b f q → p ≡ q
  call_printed Function.Lge p q first second = first ∙ ap (λ (n : ℕ). counted_line (codes "LGE ") n) (good_same a b alike) ∙ sym second
  call_printed Function.Ahm p q first second = first ∙ ap (λ (n : ℕ). counted_line (codes "AHM ") n) alike.database.ahm ∙ sym second
  call_printed Function.Current p q first second = first ∙ ap (λ (n : ℕ). epoch_line (n + 1)) alike.database.last ∙ sym second
  call_printed Function.MakeAhmNow p q first second = first ∙ ap (λ (n : ℕ). counted_line (codes "AHM ") n) (good_same a b alike) ∙ sym second
  call_printed (Function.SetAhm n) p q first second = first ∙ sym second
  call_printed Function.Moveout p q first second = first ∙ sym second
  call_printed Function.Mergeout p q first second = first ∙ sym second
  call_printed (Function.Purge table) p q first second = first ∙ sym second
  call_printed (Function.Refresh table) p q first second = first ∙ sym second
  call_printed Function.StartRefresh p q first second = first ∙ sym second

  call_left : (f : Function) (x y : State) → (TheStorageDecides (Statement.Call f) → ⊥) → CallLeaves a f x → CallLeaves b f y → AreAlikeStates x y
  call_left Function.Lge x y other first second = left_alike a b x y first second alike
  call_left Function.Ahm x y other first second = left_alike a b x y first second alike
  call_left Function.Current x y other first second = left_alike a b x y first second alike
  call_left Function.MakeAhmNow x y other first second =
      let good = last_good b.database in
      mark_left (rises (last_good a.database) a.database) (last_good a.database) x y refl first
      (subst (λ (mark : ℕ). MarkLeaves (nat_lt a.database.ahm mark) mark b y) (sym (good_same a b alike))
      (subst (λ (ahm : ℕ). MarkLeaves (nat_lt ahm good) good b y) (sym alike.database.ahm) second))
  call_left (Function.SetAhm n) x y other first second =
      mark_left (rises n a.database) n x y refl first (subst (λ (ahm : ℕ). MarkLeaves (nat_lt ahm n) n b y) (sym alike.database.ahm) second)
  call_left Function.Moveout x y other first second = all_alike a b x y alike first second
  call_left Function.Mergeout x y other first second = absurd (other tt)
  call_left (Function.Purge table) x y other first second = absurd (other tt)
  call_left (Function.Refresh table) x y other first second = refreshes_alike table a b x y alike first second
  call_left Function.StartRefresh x y other first second = left_alike (refresh_started a) (refresh_started b) x y first second (started_alike a b alike)

  -- ---- all statements

  refused : HaveOneMeaning → (files : Files) (s : Statement) (why also : Cause) → are_spent a ≡ are_spent b → IsOther s → Refuses a files s why → Refuses b files s also → why ≡ also
  refused one files (Statement.CreateTable name columns) why also spent quiet first second = first ∙ create_same a b alike name columns spent ∙ sym second
  refused one files (Statement.CreateProjection p) why also spent quiet first second = first ∙ shape_same a b alike p spent ∙ sym second
  refused one files (Statement.DropTable name) why also spent quiet first second = first ∙ drop_same a b alike name spent ∙ sym second
  refused one files (Statement.DropProjection name) why also spent quiet first second = first ∙ unshape_same a b alike name spent ∙ sym second
  refused one files (Statement.Insert i) why also spent quiet first second = first ∙ insert_same a b alike sound.database.mark i ∙ sym second
  refused one files (Statement.Delete d) why also spent quiet first second = first ∙ delete_same a b alike sound.database.mark d ∙ sym second
  refused one files (Statement.Update u) why also spent quiet first second = first ∙ update_same a b alike sound.database.mark one.settings u ∙ sym second
  refused one files (Statement.AddColumn c) why also spent quiet first second = first ∙ add_same a b alike c spent ∙ sym second
  refused one files (Statement.Copy table file) why also spent quiet first second =
      copy_refused table (table_found table a.database.tables) (table_found table b.database.tables) (files file) why also (named table) first second
  refused one files Statement.Commit why also spent quiet first second = first ∙ commit_alike a b alike.sessions alike.current alike.database.last ∙ sym second
  refused one files Statement.Rollback why also spent quiet first second = first ∙ sym second
  refused one files (Statement.Select at q) why also spent quiet first second = one.cause a b files at q why also alike sound.database.mark first second
  refused one files (Statement.Explain q) why also spent quiet first second = first ∙ refusal_same a b q alike ∙ sym second
  refused one files (Statement.Call f) why also spent quiet first second = call_refused f why also spent quiet first second
  refused one files (Statement.Session n) why also spent quiet first second = first ∙ sym second
  refused one files Statement.Step why also spent quiet first second = absurd (quiet.no_step refl)

  none_before : (before : Cause) (q : BoundQuery) (rows : List (List (List Value))) → SumRefuses before q rows None → before ≡ None
  none_before None q rows is = refl
  none_before (Some refusal) q rows is = absurd (cc)

  -- where a SELECT isn't refused its epoch isn't before the mark
  in_time : (files : Files) (at : At) (q : Query) → Refuses a files (Statement.Select at q) None → epoch_refusal a.database.ahm a.database.last at ≡ None
  in_time files at q is =
      first_none (query_refusal_in a q) (epoch_refusal a.database.ahm a.database.last at)
      (none_before (first_of (query_refusal_in a q) (epoch_refusal a.database.ahm a.database.last at)) (bound_in a q) (inputs at a q) is)

  printed : HaveOneMeaning → (files : Files) (s : Statement) (p q : List ℕ) → Refuses a files s None → Prints a files s p → Prints b files s q → p ≡ q
  printed one files (Statement.CreateTable name columns) p q free first second = first ∙ sym second
  printed one files (Statement.CreateProjection projection) p q free first second = first ∙ sym second
  printed one files (Statement.DropTable name) p q free first second = first ∙ sym second
  printed one files (Statement.DropProjection name) p q free first second = first ∙ sym second
  printed one files (Statement.Insert i) p q free first second = first ∙ sym second
  printed one files (Statement.Delete d) p q free first second = first ∙ ap (λ (n : ℕ). counted_line (codes "DELETE ") n) (delete_counts a b alike sound.database.mark d) ∙ sym second
  printed one files (Statement.Update u) p q free first second = first ∙ ap (λ (n : ℕ). counted_line (codes "UPDATE ") n) (update_counts a b alike sound.database.mark u) ∙ sym second
  printed one files (Statement.AddColumn c) p q free first second = first ∙ sym second
  printed one files (Statement.Copy table file) p q free first second =
      copy_printed (table_found table a.database.tables) (table_found table b.database.tables) (files file) p q (named table) first second
  printed one files Statement.Commit p q free first second = first ∙ commit_texts a b alike ∙ sym second
  printed one files Statement.Rollback p q free first second = first ∙ sym second
  printed one files (Statement.Select at query) p q free first second = one.text a b files at query p q alike sound.database.mark (in_time files at query free) first second
  printed one files (Statement.Explain query) p q free first second = first ∙ explain_same a b query alike ∙ sym second
  printed one files (Statement.Call f) p q free first second = call_printed f p q first second
  printed one files (Statement.Session n) p q free first second = first ∙ sym second
  printed one files Statement.Step p q free first second = first ∙ sym second

  left : (files : Files) (s : Statement) (x y : State) → (TheStorageDecides s → ⊥) → StatementLeaves a files s x → StatementLeaves b files s y → AreAlikeStates x y
  left files (Statement.CreateTable name columns) x y other first second =
      drawn_alike a b (table_created name columns a) (table_created name columns b) x y first second (created_alike a b alike name columns)
  left files (Statement.CreateProjection p) x y other first second = drawn_alike a b (projection_created p a) (projection_created p b) x y first second (shaped_alike a b alike p)
  left files (Statement.DropTable name) x y other first second = drawn_alike a b (table_dropped name a) (table_dropped name b) x y first second (dropped_alike a b alike name)
  left files (Statement.DropProjection name) x y other first second = drawn_alike a b (projection_dropped name a) (projection_dropped name b) x y first second (unshaped_alike a b alike name)
  left files (Statement.Insert i) x y other first second =
      left_alike (rows_pending i.table (inserted_rows i) a) (rows_pending i.table (inserted_rows i) b) x y first second (pending_alike a b alike sound.database.mark i.table (inserted_rows i))
  left files (Statement.Delete d) x y other first second =
      left_alike (on_table d.table (rows_deleted d a) a) (on_table d.table (rows_deleted d b) b) x y first second (deleted_alike a b alike sound.database.mark d)
  left files (Statement.Update u) x y other first second =
      left_alike (on_table u.table (rows_updated u a) a) (on_table u.table (rows_updated u b) b) x y first second (updated_alike a b alike sound.database.mark u)
  left files (Statement.AddColumn c) x y other first second = drawn_alike a b (column_added c a) (column_added c b) x y first second (added_alike a b alike c)
  left files (Statement.Copy table file) x y other first second =
      copy_left (table_found table a.database.tables) (table_found table b.database.tables) (files file) x y (named table) first second
  left files Statement.Commit x y other first second = left_alike (changes_committed a) (changes_committed b) x y first second (committed_zip a b alike (can_commit a sound))
  left files Statement.Rollback x y other first second =
      left_alike (changes_dropped a) (changes_dropped b) x y first second
      (record { database = alike.database; sessions = put_alike a b [] [] alike.sessions alike.current tt; current = alike.current; asked = alike.asked })
  left files (Statement.Select at q) x y other first second = left_alike a b x y first second alike
  left files (Statement.Explain q) x y other first second = left_alike a b x y first second alike
  left files (Statement.Call f) x y other first second = call_left f x y other first second
  left files (Statement.Session n) x y other first second =
      left_alike (record a { current = n }) (record b { current = n }) x y first second (record { database = alike.database; sessions = alike.sessions; current = refl; asked = alike.asked })
  left files Statement.Step x y other first second = absurd (other tt)

  -- ---- texts

  decided : HaveOneMeaning → (serves : Statement → Bool) (files : Files) (text : List ℕ) (read : Option Statement) (why also : Cause) → are_spent a ≡ are_spent b → AsksNoMover text → Reads text read
      → Decides serves a files text read why → Decides serves b files text read also → why ≡ also
  decided one serves files text None why also spent quiet reads first second = decided_once serves a files text None why also reads first second (λ jobs. absurd (quiet.no_jobs jobs))
  decided one serves files text (Some s) why also spent quiet reads first second = by (serves s) first second
    where
      by : (served : Bool) → RefusesForm a files s served why → RefusesForm b files s served also → why ≡ also
      by true here other = refused one files s why also spent (others_read text (Some s) quiet reads) here other
      by false here other = here ∙ sym other

  -- what isn't refused is of a form that is served
  free_of : (files : Files) (s : Statement) (served : Bool) → RefusesForm a files s served None → Refuses a files s None
  free_of files s true is = is
  free_of files s false is = absurd (cc)

  effected : HaveOneMeaning → (serves : Statement → Bool) (files : Files) (text : List ℕ) (read : Option Statement) (why : Cause) (p q : List ℕ) (x y : State) → Others read
      → Decides serves a files text read why → Effect a files read why p x → Effect b files read why q y → (p ≡ q) × AreAlikeStates x y
  effected one serves files text read (Some refusal) p q x y quiet is (first, leaves) (second, leaves_too) =
      (first ∙ sym second, left_alike a b x y (text_stays a read x quiet leaves) (text_stays b read y quiet leaves_too) alike)
  effected one serves files text (Some s) None p q x y quiet is (first, leaves) (second, leaves_too) =
      (printed one files s p q (free_of files s (serves s) is) first second, left files s x y (quiet_decides s quiet) leaves leaves_too)
  effected one serves files text None None p q x y quiet is first second = absurd first

  -- what isn't refused, functions of several jobs too
  went : HaveOneMeaning → (serves : Statement → Bool) (files : Files) (text : List ℕ) (read : Option Statement) (p q : List ℕ) (x y : State) → IsDetermined text → Reads text read
      → Decides serves a files text read None → Effect a files read None p x → Effect b files read None q y → (p ≡ q) × AreAlikeStates x y
  went one serves files text None p q x y determined reads is first second = absurd first
  went one serves files text (Some s) p q x y determined reads is (first, leaves) (second, leaves_too) = (
    printed one files s p q (free_of files s (serves s) is) first second,
    left files s x y (λ decides. determined s decides reads) leaves leaves_too,
  )

pub steps_alike : OneReading → HaveOneMeaning → AlikeStatesStepAlike
steps_alike reading one serves a b files text p q why also m n alike sound quiet spent first second =
    let same : first.read ≡ second.read = read_once reading text first.read second.read first.reads second.reads in
    let quiet_read : Others second.read = others_read text second.read quiet second.reads in
    let here : Decides serves a files text second.read why = subst (λ (r : Option Statement). Decides serves a files text r why) same first.decided in
    let cause : why ≡ also = decided a b alike sound one serves files text second.read why also spent quiet second.reads here second.decided in
    let effect : Effect a files second.read also p m =
    subst (λ (r : Cause). Effect a files second.read r p m) cause (subst (λ (r : Option Statement). Effect a files r why p m) same first.effect) in
    let both =
    effected a b alike sound one serves files text second.read also p q m n quiet_read (subst (λ (r : Cause). Decides serves a files text second.read r) cause here) effect second.effect in
    (both.0, cause, both.1)

pub unrefused_alike : OneReading → HaveOneMeaning → UnrefusedStepsAlike
unrefused_alike reading one serves a b files text p q m n alike sound determined first second =
    let same : first.read ≡ second.read = read_once reading text first.read second.read first.reads second.reads in
    went a b alike sound one serves files text second.read p q m n determined second.reads (subst (λ (r : Option Statement). Decides serves a files text r None) same first.decided)
    (subst (λ (r : Option Statement). Effect a files r None p m) same first.effect) second.effect

-- ---- a function of several jobs

module _ (a b : State) (alike : AreAlikeStates a b) where
  jobs_cause : (f : Function) (why also : Cause) → HasJobs f → is_some why ≡ is_some also → CallRefuses a f why → CallRefuses b f also → why ≡ also
  jobs_cause Function.Moveout why also jobs fate first second = jobs_refused (MovesAll a) (MovesAll b) why also first second fate
  jobs_cause Function.Mergeout why also jobs fate first second = jobs_refused (RaisesAll (λ s. true) a) (RaisesAll (λ s. true) b) why also first second fate
  jobs_cause (Function.Purge table) why also jobs fate first second =
      let Run : Bool → State → Type 0 = RaisesAll (λ s. is_of_table table a.database.tables s.name) a in
      table_jobs_refused (unknown_table_refusal b table) Run (RaisesAll (λ s. is_of_table table b.database.tables s.name) b) why also
      (subst (λ (o : Cause). TableJobsRefuse o Run why) (unknown_same a b alike table) first) second fate
  jobs_cause (Function.Refresh table) why also jobs fate first second =
      table_jobs_refused (unknown_table_refusal b table) (RefreshesAll table a) (RefreshesAll table b) why also
      (subst (λ (o : Cause). TableJobsRefuse o (RefreshesAll table a) why) (unknown_same a b alike table) first) second fate
  jobs_cause f why also jobs fate first second = absurd jobs

  jobs_printed : (f : Function) (p q : List ℕ) → HasJobs f → CallPrints a f p → CallPrints b f q → p ≡ q
  jobs_printed Function.Moveout p q jobs first second = first ∙ sym second
  jobs_printed Function.Mergeout p q jobs first second = first ∙ sym second
  jobs_printed (Function.Purge table) p q jobs first second = first ∙ sym second
  jobs_printed (Function.Refresh table) p q jobs first second = first ∙ sym second
  jobs_printed f p q jobs first second = absurd jobs

  jobs_left : (f : Function) (x y : State) → HasJobs f → (TheStorageDecides (Statement.Call f) → ⊥) → CallLeaves a f x → CallLeaves b f y → AreAlikeStates x y
  jobs_left Function.Moveout x y jobs other first second = all_alike a b x y alike first second
  jobs_left Function.Mergeout x y jobs other first second = absurd (other tt)
  jobs_left (Function.Purge table) x y jobs other first second = absurd (other tt)
  jobs_left (Function.Refresh table) x y jobs other first second = refreshes_alike table a b x y alike first second
  jobs_left f x y jobs other first second = absurd jobs

  jobs_decided : (f : Function) (files : Files) (served : Bool) (why also : Cause) → HasJobs f → is_some why ≡ is_some also
      → RefusesForm a files (Statement.Call f) served why → RefusesForm b files (Statement.Call f) served also → why ≡ also
  jobs_decided f files true why also jobs fate first second = jobs_cause f why also jobs fate first second
  jobs_decided f files false why also jobs fate first second = first ∙ sym second

  jobs_effected : (f : Function) (files : Files) (why : Cause) (p q : List ℕ) (x y : State) → HasJobs f → Effect a files (Some (Statement.Call f)) why p x → Effect b files (Some (Statement.Call f)) why q y
      → (p ≡ q) × (why ≡ None → (TheStorageDecides (Statement.Call f) → ⊥) → AreAlikeStates x y)
  jobs_effected f files (Some refusal) p q x y jobs (first, leaves) (second, leaves_too) = (first ∙ sym second, λ none other. absurd (cc))
  jobs_effected f files None p q x y jobs (first, leaves) (second, leaves_too) = (jobs_printed f p q jobs first second, λ none other. jobs_left f x y jobs other leaves leaves_too)

pub jobs_alike : OneReading → JobsStepAlike
jobs_alike reading serves a b files text p q why also m n alike (f, jobs, spelled) fate first second =
    let call : Statement = Statement.Call f in
    let here : first.read ≡ Some call = read_once reading text first.read (Some call) first.reads spelled in
    let there : second.read ≡ Some call = read_once reading text second.read (Some call) second.reads spelled in
    let cause : why ≡ also =
    jobs_decided a b alike f files (serves call) why also jobs fate (subst (λ (r : Option Statement). Decides serves a files text r why) here first.decided)
    (subst (λ (r : Option Statement). Decides serves b files text r also) there second.decided) in
    let effect : Effect a files (Some call) also p m = subst (λ (r : Cause). Effect a files (Some call) r p m) cause (subst (λ (r : Option Statement). Effect a files r why p m) here first.effect) in
    let both = jobs_effected a b alike f files also p q m n jobs effect (subst (λ (r : Option Statement). Effect b files r also q n) there second.effect) in
    (both.0, cause, λ none determined. both.1 (sym cause ∙ none) (λ decides. determined call decides spelled))
