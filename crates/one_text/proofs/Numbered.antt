-- One statement over two states that are the same but for the numbers of the storage.
use Rattle.std.proofs.Common.{◌≡◌, ℕ, ◌≤◌, Bool, true, false, cond, List, [], length, refl, sym, ap, ◌∙◌, arith, subst}
use Rattle.std.specs.Prelude.{◌&&◌, Option, Some, None, nat_le, option_map, option_and_then}
use Rattle.std.specs.Option.{option_map_or}
use Rattle.std.proofs.lemmas.Bool.Decides.{nat_tests}
use Rattle.col_value.specs.declared.value.Value.{Value}
use Rattle.sql_words.specs.Symbols.{symbols_of}
use Rattle.sql_tree.specs.declared.query.At.{At}
use Rattle.sql_tree.specs.declared.query.Query.{Query}
use Rattle.sql_tree.specs.declared.statement.Delete.{Delete}
use Rattle.sql_tree.specs.declared.statement.Function.{Function}
use Rattle.sql_tree.specs.declared.statement.Statement.{Statement}
use Rattle.sql_tree.specs.declared.statement.Update.{Update}
use Rattle.sql_tree.specs.declared.refusal.Refusal.{Refusal}
use Rattle.sql_tree.specs.Spells.{Spells}
use Rattle.sql_bound.specs.Outputs.{output}
use Rattle.sql_bound.specs.Printed.{IsPrinted}
use Rattle.sql_binding.specs.Additions.{addition_refusal, default_refusal}
use Rattle.sql_binding.specs.Firsts.{first_of, refused_where}
use Rattle.sql_binding.specs.Projections.{projection_name_refusal}
use Rattle.db_model.specs.Database.{Database, Table}
use Rattle.db_model.specs.Epochs.{last_good, rises}
use Rattle.db_model.specs.Events.{changes_committed, column_added, mark_raised, projection_created, projection_dropped, rows_deleted, rows_loaded, rows_pending, rows_updated, table_created, table_dropped}
use Rattle.db_model.specs.Leaving.{CallLeaves, CopyLeaves, StatementLeaves, MarkLeaves, RefusedCallLeaves, RefusedLeaves}
use Rattle.db_model.specs.Loading.{Files, Load}
use Rattle.db_model.specs.Locks.{holder}
use Rattle.db_model.specs.Numbers.{IsDrawn, are_spent}
use Rattle.db_model.specs.Printing.{CallPrints, CopyPrints, Prints}
use Rattle.db_model.specs.Refusals.{CallRefuses, CopyRefuses, LoadRefuses, Refuses, SumRefuses, UnlockedRefuses, is_large_file, last_super_refusal, load_refusal, locked, mark_refusal, owner, projection_refusal_over, query_refusal_in, unknown_table_refusal}
use Rattle.db_model.specs.Refusing.{column_limit, create_refusal, epoch_refusal, if_taken}
use Rattle.db_model.specs.State.{Changes, State, committed, has_changes, own_changes, with_changes}
use Rattle.db_model.specs.Step.{Decides, Effect, Reads, RefusedTextLeaves, RefusesForm, Step}
use Rattle.db_model.specs.Views.{bound_in, columns_found, inputs, table_found}
use Rattle.one_text.specs.OneText.{HasJobs}
use Rattle.one_text.specs.Scripts.{AsksNoMover, IsSameButNumbers}
use Rattle.one_text.proofs.OneLoad.{rows_loaded_once}
use Rattle.one_text.proofs.OneStep.{OneList, OneReading, decided_once, printed_once, read_once}

-- ---- a state with other numbers

abbrev numbered : ℕ → ℕ → ℕ → Database → List (List Changes) → ℕ → List (List ℕ) → State
numbered n k p d sessions current asked = record { database = d; sessions = sessions; current = current; asked = asked; next = n; busy = k; parts = p }

abbrev pub renumbered : State → ℕ → ℕ → ℕ → State
renumbered a n k p = numbered n k p a.database a.sessions a.current a.asked

pub same_renumbered : (a b : State) → IsSameButNumbers a b → renumbered a b.next b.busy b.parts ≡ b
same_renumbered a b same =
    ap (λ (d : Database). numbered b.next b.busy b.parts d a.sessions a.current a.asked) same.database
    ∙ ap (λ (ss : List (List Changes)). numbered b.next b.busy b.parts b.database ss a.current a.asked) same.sessions
    ∙ ap (λ (i : ℕ). numbered b.next b.busy b.parts b.database b.sessions i a.asked) same.current
    ∙ ap (λ (names : List (List ℕ)). numbered b.next b.busy b.parts b.database b.sessions b.current names) same.asked

pub same_states : (a b m n : State) → m ≡ a → n ≡ b → IsSameButNumbers a b → IsSameButNumbers m n
same_states a b m n first second same =
    subst (λ (x : State). IsSameButNumbers x n) (sym first) (subst (λ (x : State). IsSameButNumbers a x) (sym second) same)

-- the statement isn't for the mover
pub record IsOther (s : Statement) : Type 0 where
  pub no_jobs : (f : Function) → HasJobs f → s ≡ Statement.Call f → ⊥
  pub no_step : s ≡ Statement.Step → ⊥

abbrev pub Others : Option Statement → Type 0
Others None = Unit {0}
Others (Some s) = IsOther s

pub others_read : (text : List ℕ) (read : Option Statement) → AsksNoMover text → Reads text read → Others read
others_read text None quiet reads = tt
others_read text (Some s) quiet reads = record {
  no_jobs = λ f jobs is. quiet.no_jobs (f, jobs, subst (λ (t : Statement). Spells (symbols_of text) t) is reads);
  no_step = λ is. quiet.no_step (subst (λ (t : Statement). Spells (symbols_of text) t) is reads);
}

-- ---- why a statement is refused

module _ (a : State) (n k p : ℕ) where
  inputs_same : (at : At) (q : Query) → inputs at (renumbered a n k p) q ≡ inputs at a q
  inputs_same At.View q = refl
  inputs_same At.Latest q = refl
  inputs_same (At.Epoch e) q = refl

  load_same : (table : List ℕ) (load : Load) → load_refusal (renumbered a n k p) table load ≡ load_refusal a table load
  load_same table (Load.Rows rows) = refl
  load_same table (Load.Wrong line field) = refl

  load_other : (e : ℕ × Table) (bytes : List ℕ) (large : Bool) (why : Option Refusal) → LoadRefuses (renumbered a n k p) e bytes large why → LoadRefuses a e bytes large why
  load_other e bytes true why is = is
  load_other e bytes false why (load, loads, is) = (load, loads, is ∙ load_same e.1.name load)

  unlocked_other : (before : Option Refusal) (e : ℕ × Table) (held : Option (List ℕ)) (why : Option Refusal) → UnlockedRefuses before (renumbered a n k p) e held why → UnlockedRefuses before a e held why
  unlocked_other (Some refusal) e held why is = is
  unlocked_other None e None why is = is
  unlocked_other None e (Some bytes) why is = load_other e bytes (is_large_file bytes) why is

  copy_other : (table : List ℕ) (found : Option (ℕ × Table)) (held : Option (List ℕ)) (why : Option Refusal) → CopyRefuses (renumbered a n k p) table found held why → CopyRefuses a table found held why
  copy_other table None held why is = is
  copy_other table (Some e) held why is = unlocked_other (locked a table false) e held why is

  call_other : (f : Function) (why : Option Refusal) → are_spent (renumbered a n k p) ≡ are_spent a → IsOther (Statement.Call f) → CallRefuses (renumbered a n k p) f why → CallRefuses a f why
  call_other Function.Lge why spent quiet is = is
  call_other Function.Ahm why spent quiet is = is
  call_other Function.Current why spent quiet is = is
  call_other Function.MakeAhmNow why spent quiet is = is ∙ ap (λ (b : Bool). refused_where (rises (last_good a.database) a.database && b) Refusal.NumbersSpent) spent
  call_other (Function.SetAhm m) why spent quiet is = is ∙ ap (λ (b : Bool). first_of (mark_refusal m a.database) (refused_where (rises m a.database && b) Refusal.NumbersSpent)) spent
  call_other Function.Moveout why spent quiet is = absurd (quiet.no_jobs Function.Moveout tt refl)
  call_other Function.Mergeout why spent quiet is = absurd (quiet.no_jobs Function.Mergeout tt refl)
  call_other (Function.Purge table) why spent quiet is = absurd (quiet.no_jobs (Function.Purge table) tt refl)
  call_other (Function.Refresh table) why spent quiet is = absurd (quiet.no_jobs (Function.Refresh table) tt refl)
  call_other Function.StartRefresh why spent quiet is = is

  refused_other : (files : Files) (s : Statement) (why : Option Refusal) → are_spent (renumbered a n k p) ≡ are_spent a → IsOther s → Refuses (renumbered a n k p) files s why → Refuses a files s why
  refused_other files (Statement.CreateTable name columns) why spent quiet is =
      is ∙ ap (λ (b : Bool). first_of (create_refusal a.database.tables name columns) (refused_where b Refusal.NumbersSpent)) spent
  refused_other files (Statement.CreateProjection q) why spent quiet is =
      is
      ∙ ap
      (λ (b : Bool). first_of (projection_name_refusal (columns_found a.database.tables q.table) q)
      (first_of (option_and_then (λ (x : List ℕ). Some (Refusal.Exists x)) (if_taken a.database.tables q.name))
      (first_of (option_and_then (λ e. projection_refusal_over q e.1) (table_found q.table a.database.tables)) (refused_where b Refusal.NumbersSpent)))) spent
  refused_other files (Statement.DropTable name) why spent quiet is =
      is ∙ ap (λ (b : Bool). first_of (unknown_table_refusal a name) (first_of (locked a name true) (refused_where b Refusal.NumbersSpent))) spent
  refused_other files (Statement.DropProjection name) why spent quiet is =
      is ∙ ap (λ (b : Bool). first_of (last_super_refusal name (owner name a.database.tables)) (refused_where b Refusal.NumbersSpent)) spent
  refused_other files (Statement.Insert i) why spent quiet is = is
  refused_other files (Statement.Delete d) why spent quiet is = is
  refused_other files (Statement.Update u) why spent quiet is = is
  refused_other files (Statement.AddColumn c) why spent quiet is =
      is
      ∙ ap
      (λ (b : Bool). first_of (addition_refusal (columns_found a.database.tables c.table) c)
      (first_of (option_and_then (λ cs. column_limit (length cs, c.column)) (columns_found a.database.tables c.table))
      (first_of (option_map Refusal.Locked (holder a c.table)) (first_of (default_refusal c) (refused_where b Refusal.NumbersSpent))))) spent
  refused_other files (Statement.Copy table file) why spent quiet is = copy_other table (table_found table a.database.tables) (files file) why is
  refused_other files Statement.Commit why spent quiet is = is
  refused_other files Statement.Rollback why spent quiet is = is
  refused_other files (Statement.Select at q) why spent quiet is =
      subst (λ (rows : List (List (List Value))). SumRefuses (first_of (query_refusal_in a q) (epoch_refusal a.database.ahm a.database.last at)) (bound_in a q) rows why) (inputs_same at q) is
  refused_other files (Statement.Explain q) why spent quiet is = is
  refused_other files (Statement.Call f) why spent quiet is = call_other f why spent quiet is
  refused_other files (Statement.Session m) why spent quiet is = is
  refused_other files Statement.Step why spent quiet is = is

  form_other : (files : Files) (s : Statement) (served : Bool) (why : Option Refusal) → are_spent (renumbered a n k p) ≡ are_spent a → IsOther s → RefusesForm (renumbered a n k p) files s served why → RefusesForm a files s served why
  form_other files s true why spent quiet is = refused_other files s why spent quiet is
  form_other files s false why spent quiet is = is

  decided_other : (serves : Statement → Bool) (files : Files) (text : List ℕ) (read : Option Statement) (why : Option Refusal) → are_spent (renumbered a n k p) ≡ are_spent a → Others read
      → Decides serves (renumbered a n k p) files text read why → Decides serves a files text read why
  decided_other serves files text None why spent quiet is = is
  decided_other serves files text (Some s) why spent quiet is = form_other files s (serves s) why spent quiet is

  -- ---- what a statement prints

  copy_prints : (found : Option (ℕ × Table)) (held : Option (List ℕ)) (text : List ℕ) → CopyPrints (renumbered a n k p) found held text → CopyPrints a found held text
  copy_prints None held text prints = prints
  copy_prints (Some e) None text prints = prints
  copy_prints (Some e) (Some bytes) text prints = prints

  call_prints : (f : Function) (text : List ℕ) → CallPrints (renumbered a n k p) f text → CallPrints a f text
  call_prints Function.Lge text prints = prints
  call_prints Function.Ahm text prints = prints
  call_prints Function.Current text prints = prints
  call_prints Function.MakeAhmNow text prints = prints
  call_prints (Function.SetAhm m) text prints = prints
  call_prints Function.Moveout text prints = prints
  call_prints Function.Mergeout text prints = prints
  call_prints (Function.Purge table) text prints = prints
  call_prints (Function.Refresh table) text prints = prints
  call_prints Function.StartRefresh text prints = prints

  prints_other : (files : Files) (s : Statement) (text : List ℕ) → Prints (renumbered a n k p) files s text → Prints a files s text
  prints_other files (Statement.CreateTable name columns) text prints = prints
  prints_other files (Statement.CreateProjection q) text prints = prints
  prints_other files (Statement.DropTable name) text prints = prints
  prints_other files (Statement.DropProjection name) text prints = prints
  prints_other files (Statement.Insert i) text prints = prints
  prints_other files (Statement.Delete d) text prints = prints
  prints_other files (Statement.Update u) text prints = prints
  prints_other files (Statement.AddColumn c) text prints = prints
  prints_other files (Statement.Copy table file) text prints = copy_prints (table_found table a.database.tables) (files file) text prints
  prints_other files Statement.Commit text prints = prints
  prints_other files Statement.Rollback text prints = prints
  prints_other files (Statement.Select at q) text (listed, is_listed, text_is) = (
    listed,
    subst (λ (rows : List (List (List Value))). IsPrinted (bound_in a q).order q.limit (output (bound_in a q) rows) listed) (inputs_same at q) is_listed,
    text_is,
  )
  prints_other files (Statement.Explain q) text prints = prints
  prints_other files (Statement.Call f) text prints = call_prints f text prints
  prints_other files (Statement.Session m) text prints = prints
  prints_other files Statement.Step text prints = prints

  -- ---- what a statement leaves

  itself : IsSameButNumbers a (renumbered a n k p)
  itself = record { database = refl; sessions = refl; current = refl; asked = refl }

  committed_same : IsSameButNumbers (changes_committed a) (changes_committed (renumbered a n k p))
  committed_same = by (has_changes (own_changes a))
    where
      by : (b : Bool) → IsSameButNumbers (with_changes [] (cond b (record a { database = committed (own_changes a) a.database }) a))
          (with_changes [] (cond b (record (renumbered a n k p) { database = committed (own_changes a) a.database }) (renumbered a n k p)))
      by true = record { database = refl; sessions = refl; current = refl; asked = refl }
      by false = record { database = refl; sessions = refl; current = refl; asked = refl }

  deleted_same : (d : Delete) (found : Option (ℕ × Table)) → IsSameButNumbers (option_map_or (rows_deleted d a) found a) (option_map_or (rows_deleted d (renumbered a n k p)) found (renumbered a n k p))
  deleted_same d None = itself
  deleted_same d (Some e) = record { database = refl; sessions = refl; current = refl; asked = refl }

  updated_same : (u : Update) (found : Option (ℕ × Table)) → IsSameButNumbers (option_map_or (rows_updated u a) found a) (option_map_or (rows_updated u (renumbered a n k p)) found (renumbered a n k p))
  updated_same u None = itself
  updated_same u (Some e) = record { database = refl; sessions = refl; current = refl; asked = refl }

drawn_same : (a b made other m n : State) → IsDrawn a made m → IsDrawn b other n → IsSameButNumbers made other → IsSameButNumbers m n
drawn_same a b made other m n first second same = record {
  database = ap (λ (s : State). s.database) first.same ∙ same.database ∙ sym (ap (λ (s : State). s.database) second.same);
  sessions = ap (λ (s : State). s.sessions) first.same ∙ same.sessions ∙ sym (ap (λ (s : State). s.sessions) second.same);
  current = ap (λ (s : State). s.current) first.same ∙ same.current ∙ sym (ap (λ (s : State). s.current) second.same);
  asked = ap (λ (s : State). s.asked) first.same ∙ same.asked ∙ sym (ap (λ (s : State). s.asked) second.same);
}

copy_left : (a : State) (n k p : ℕ) (found : Option (ℕ × Table)) (held : Option (List ℕ)) (x y : State) → CopyLeaves a found held x → CopyLeaves (renumbered a n k p) found held y → IsSameButNumbers x y
copy_left a n k p None held x y first second = absurd first
copy_left a n k p (Some e) None x y first second = absurd first
copy_left a n k p (Some e) (Some bytes) x y (rs, rows, x_is) (qs, others, y_is) =
    let same : qs ≡ rs = rows_loaded_once e.1.columns bytes qs rs others rows in
    same_states (rows_loaded e.1.name rs a) (rows_loaded e.1.name rs (renumbered a n k p)) x y x_is (y_is ∙ ap (λ (xs : List (List Value)). rows_loaded e.1.name xs (renumbered a n k p)) same)
    (committed_same (rows_pending e.1.name rs a) n k p)

mark_left : (a : State) (n k p : ℕ) (b : Bool) (mark : ℕ) (x y : State) → MarkLeaves b mark a x → MarkLeaves b mark (renumbered a n k p) y → IsSameButNumbers x y
mark_left a n k p true mark x y first second = drawn_same a (renumbered a n k p) (mark_raised mark a) (mark_raised mark (renumbered a n k p)) x y first second (record { database = refl; sessions = refl; current = refl; asked = refl })
mark_left a n k p false mark x y first second = same_states a (renumbered a n k p) x y first second (itself a n k p)

call_left : (a : State) (n k p : ℕ) (f : Function) (x y : State) → IsOther (Statement.Call f) → CallLeaves a f x → CallLeaves (renumbered a n k p) f y → IsSameButNumbers x y
call_left a n k p Function.Lge x y quiet first second = same_states a (renumbered a n k p) x y first second (itself a n k p)
call_left a n k p Function.Ahm x y quiet first second = same_states a (renumbered a n k p) x y first second (itself a n k p)
call_left a n k p Function.Current x y quiet first second = same_states a (renumbered a n k p) x y first second (itself a n k p)
call_left a n k p Function.MakeAhmNow x y quiet first second = mark_left a n k p (rises (last_good a.database) a.database) (last_good a.database) x y first second
call_left a n k p (Function.SetAhm m) x y quiet first second = mark_left a n k p (rises m a.database) m x y first second
call_left a n k p Function.Moveout x y quiet first second = absurd (quiet.no_jobs Function.Moveout tt refl)
call_left a n k p Function.Mergeout x y quiet first second = absurd (quiet.no_jobs Function.Mergeout tt refl)
call_left a n k p (Function.Purge table) x y quiet first second = absurd (quiet.no_jobs (Function.Purge table) tt refl)
call_left a n k p (Function.Refresh table) x y quiet first second = absurd (quiet.no_jobs (Function.Refresh table) tt refl)
call_left a n k p Function.StartRefresh x y quiet first second = same_states _ _ x y first second (record { database = refl; sessions = refl; current = refl; asked = refl })

left_same : (a : State) (n k p : ℕ) (files : Files) (s : Statement) (x y : State) → IsOther s → StatementLeaves a files s x → StatementLeaves (renumbered a n k p) files s y → IsSameButNumbers x y
left_same a n k p files (Statement.CreateTable name columns) x y quiet first second =
    drawn_same a (renumbered a n k p) (table_created name columns a) (table_created name columns (renumbered a n k p)) x y first second (record { database = refl; sessions = refl; current = refl; asked = refl })
left_same a n k p files (Statement.CreateProjection q) x y quiet first second =
    drawn_same a (renumbered a n k p) (projection_created q a) (projection_created q (renumbered a n k p)) x y first second (record { database = refl; sessions = refl; current = refl; asked = refl })
left_same a n k p files (Statement.DropTable name) x y quiet first second =
    drawn_same a (renumbered a n k p) (table_dropped name a) (table_dropped name (renumbered a n k p)) x y first second (record { database = refl; sessions = refl; current = refl; asked = refl })
left_same a n k p files (Statement.DropProjection name) x y quiet first second =
    drawn_same a (renumbered a n k p) (projection_dropped name a) (projection_dropped name (renumbered a n k p)) x y first second (record { database = refl; sessions = refl; current = refl; asked = refl })
left_same a n k p files (Statement.Insert i) x y quiet first second = same_states _ _ x y first second (record { database = refl; sessions = refl; current = refl; asked = refl })
left_same a n k p files (Statement.Delete d) x y quiet first second = same_states _ _ x y first second (deleted_same a n k p d (table_found d.table a.database.tables))
left_same a n k p files (Statement.Update u) x y quiet first second = same_states _ _ x y first second (updated_same a n k p u (table_found u.table a.database.tables))
left_same a n k p files (Statement.AddColumn c) x y quiet first second =
    drawn_same a (renumbered a n k p) (column_added c a) (column_added c (renumbered a n k p)) x y first second (record { database = refl; sessions = refl; current = refl; asked = refl })
left_same a n k p files (Statement.Copy table file) x y quiet first second = copy_left a n k p (table_found table a.database.tables) (files file) x y first second
left_same a n k p files Statement.Commit x y quiet first second = same_states (changes_committed a) (changes_committed (renumbered a n k p)) x y first second (committed_same a n k p)
left_same a n k p files Statement.Rollback x y quiet first second = same_states _ _ x y first second (record { database = refl; sessions = refl; current = refl; asked = refl })
left_same a n k p files (Statement.Select at q) x y quiet first second = same_states a (renumbered a n k p) x y first second (itself a n k p)
left_same a n k p files (Statement.Explain q) x y quiet first second = same_states a (renumbered a n k p) x y first second (itself a n k p)
left_same a n k p files (Statement.Call f) x y quiet first second = call_left a n k p f x y quiet first second
left_same a n k p files (Statement.Session m) x y quiet first second = same_states _ _ x y first second (record { database = refl; sessions = refl; current = refl; asked = refl })
left_same a n k p files Statement.Step x y quiet first second = absurd (quiet.no_step refl)

-- what is refused leaves all as it was
refused_call_stays : (a : State) (f : Function) (x : State) → IsOther (Statement.Call f) → RefusedCallLeaves a f x → x ≡ a
refused_call_stays a Function.Lge x quiet is = is
refused_call_stays a Function.Ahm x quiet is = is
refused_call_stays a Function.Current x quiet is = is
refused_call_stays a Function.MakeAhmNow x quiet is = is
refused_call_stays a (Function.SetAhm m) x quiet is = is
refused_call_stays a Function.Moveout x quiet is = absurd (quiet.no_jobs Function.Moveout tt refl)
refused_call_stays a Function.Mergeout x quiet is = absurd (quiet.no_jobs Function.Mergeout tt refl)
refused_call_stays a (Function.Purge table) x quiet is = absurd (quiet.no_jobs (Function.Purge table) tt refl)
refused_call_stays a (Function.Refresh table) x quiet is = absurd (quiet.no_jobs (Function.Refresh table) tt refl)
refused_call_stays a Function.StartRefresh x quiet is = is

refused_stays : (a : State) (s : Statement) (x : State) → IsOther s → RefusedLeaves a s x → x ≡ a
refused_stays a (Statement.CreateTable name columns) x quiet is = is
refused_stays a (Statement.CreateProjection q) x quiet is = is
refused_stays a (Statement.DropTable name) x quiet is = is
refused_stays a (Statement.DropProjection name) x quiet is = is
refused_stays a (Statement.Insert i) x quiet is = is
refused_stays a (Statement.Delete d) x quiet is = is
refused_stays a (Statement.Update u) x quiet is = is
refused_stays a (Statement.AddColumn c) x quiet is = is
refused_stays a (Statement.Copy table file) x quiet is = is
refused_stays a Statement.Commit x quiet is = is
refused_stays a Statement.Rollback x quiet is = is
refused_stays a (Statement.Select at q) x quiet is = is
refused_stays a (Statement.Explain q) x quiet is = is
refused_stays a (Statement.Call f) x quiet is = refused_call_stays a f x quiet is
refused_stays a (Statement.Session m) x quiet is = is
refused_stays a Statement.Step x quiet is = is

pub text_stays : (a : State) (read : Option Statement) (x : State) → Others read → RefusedTextLeaves a read x → x ≡ a
text_stays a None x quiet is = is
text_stays a (Some s) x quiet is = refused_stays a s x quiet is

-- ---- the next number never falls

stays : (a x y : State) → x ≡ y → y.next ≡ a.next → a.next ≤ x.next
stays a x y is same = let at : x.next ≡ y.next = ap (λ (s : State). s.next) is in omega (arith, at, same)

committed_next : (a : State) → (changes_committed a).next ≡ a.next
committed_next a = by (has_changes (own_changes a))
  where
    by : (b : Bool) → (with_changes [] (cond b (record a { database = committed (own_changes a) a.database }) a)).next ≡ a.next
    by true = refl
    by false = refl

deleted_next : (d : Delete) (a : State) (found : Option (ℕ × Table)) → (option_map_or (rows_deleted d a) found a).next ≡ a.next
deleted_next d a None = refl
deleted_next d a (Some e) = refl

updated_next : (u : Update) (a : State) (found : Option (ℕ × Table)) → (option_map_or (rows_updated u a) found a).next ≡ a.next
updated_next u a None = refl
updated_next u a (Some e) = refl

copy_grows : (a : State) (found : Option (ℕ × Table)) (held : Option (List ℕ)) (x : State) → CopyLeaves a found held x → a.next ≤ x.next
copy_grows a None held x leaves = absurd leaves
copy_grows a (Some e) None x leaves = absurd leaves
copy_grows a (Some e) (Some bytes) x (rows, loads, is) = stays a x (rows_loaded e.1.name rows a) is (committed_next (rows_pending e.1.name rows a))

mark_grows : (b : Bool) (mark : ℕ) (a x : State) → MarkLeaves b mark a x → a.next ≤ x.next
mark_grows true mark a x is = is.drawn.from
mark_grows false mark a x is = stays a x a is refl

call_grows : (a : State) (f : Function) (x : State) → IsOther (Statement.Call f) → CallLeaves a f x → a.next ≤ x.next
call_grows a Function.Lge x quiet is = stays a x a is refl
call_grows a Function.Ahm x quiet is = stays a x a is refl
call_grows a Function.Current x quiet is = stays a x a is refl
call_grows a Function.MakeAhmNow x quiet is = mark_grows (rises (last_good a.database) a.database) (last_good a.database) a x is
call_grows a (Function.SetAhm m) x quiet is = mark_grows (rises m a.database) m a x is
call_grows a Function.Moveout x quiet is = absurd (quiet.no_jobs Function.Moveout tt refl)
call_grows a Function.Mergeout x quiet is = absurd (quiet.no_jobs Function.Mergeout tt refl)
call_grows a (Function.Purge table) x quiet is = absurd (quiet.no_jobs (Function.Purge table) tt refl)
call_grows a (Function.Refresh table) x quiet is = absurd (quiet.no_jobs (Function.Refresh table) tt refl)
call_grows a Function.StartRefresh x quiet is = stays a x _ is refl

left_grows : (a : State) (files : Files) (s : Statement) (x : State) → IsOther s → StatementLeaves a files s x → a.next ≤ x.next
left_grows a files (Statement.CreateTable name columns) x quiet is = is.drawn.from
left_grows a files (Statement.CreateProjection q) x quiet is = is.drawn.from
left_grows a files (Statement.DropTable name) x quiet is = is.drawn.from
left_grows a files (Statement.DropProjection name) x quiet is = is.drawn.from
left_grows a files (Statement.Insert i) x quiet is = stays a x _ is refl
left_grows a files (Statement.Delete d) x quiet is = stays a x _ is (deleted_next d a (table_found d.table a.database.tables))
left_grows a files (Statement.Update u) x quiet is = stays a x _ is (updated_next u a (table_found u.table a.database.tables))
left_grows a files (Statement.AddColumn c) x quiet is = is.drawn.from
left_grows a files (Statement.Copy table file) x quiet is = copy_grows a (table_found table a.database.tables) (files file) x is
left_grows a files Statement.Commit x quiet is = stays a x (changes_committed a) is (committed_next a)
left_grows a files Statement.Rollback x quiet is = stays a x _ is refl
left_grows a files (Statement.Select at q) x quiet is = stays a x a is refl
left_grows a files (Statement.Explain q) x quiet is = stays a x a is refl
left_grows a files (Statement.Call f) x quiet is = call_grows a f x quiet is
left_grows a files (Statement.Session m) x quiet is = stays a x _ is refl
left_grows a files Statement.Step x quiet is = absurd (quiet.no_step refl)

effect_grows : (a : State) (files : Files) (read : Option Statement) (why : Option Refusal) (text : List ℕ) (x : State) → Others read → Effect a files read why text x → a.next ≤ x.next
effect_grows a files read (Some refusal) text x quiet (is, leaves) = stays a x a (text_stays a read x quiet leaves) refl
effect_grows a files (Some s) None text x quiet (is, leaves) = left_grows a files s x quiet leaves
effect_grows a files None None text x quiet is = absurd is

pub step_grows : (serves : Statement → Bool) (a : State) (files : Files) (text printed : List ℕ) (why : Option Refusal) (x : State) → AsksNoMover text → Step serves a files text printed why x → a.next ≤ x.next
step_grows serves a files text printed why x quiet step = effect_grows a files step.read why printed x (others_read text step.read quiet step.reads) step.effect

-- where numbers are left at a later state, they are at an earlier one
pub left_before : (m n : ℕ) → m ≤ n → nat_le 1152921504606846976 n ≡ false → nat_le 1152921504606846976 m ≡ false
left_before m n le is = by (nat_le 1152921504606846976 m) refl
  where
    by : (b : Bool) → nat_le 1152921504606846976 m ≡ b → nat_le 1152921504606846976 m ≡ false
    by true at = absurd (grind (arith, nat_tests))
    by false at = at

-- ---- a step over both

effect_same : OneList → (a : State) (n k p : ℕ) (files : Files) (read : Option Statement) (why : Option Refusal) (text other : List ℕ) (x y : State) → Others read
    → Effect a files read why text x → Effect (renumbered a n k p) files read why other y → (text ≡ other) × IsSameButNumbers x y
effect_same one a n k p files read (Some refusal) text other x y quiet (is, leaves) (also, leaves_too) = (
  is ∙ sym also,
  same_states a (renumbered a n k p) x y (text_stays a read x quiet leaves) (text_stays (renumbered a n k p) read y quiet leaves_too) (itself a n k p),
)
effect_same one a n k p files (Some s) None text other x y quiet (prints, leaves) (prints_too, leaves_too) =
    (printed_once one a files s text other prints (prints_other a n k p files s other prints_too), left_same a n k p files s x y quiet leaves leaves_too)
effect_same one a n k p files None None text other x y quiet is also = absurd is

renumbered_step : OneReading → OneList → (serves : Statement → Bool) (a : State) (n k p : ℕ) (files : Files) (text printed other : List ℕ) (why also : Option Refusal) (x y : State) → AsksNoMover text
    → are_spent (renumbered a n k p) ≡ are_spent a → Step serves a files text printed why x → Step serves (renumbered a n k p) files text other also y → (printed ≡ other) × (why ≡ also) × IsSameButNumbers x y
renumbered_step reading list serves a n k p files text printed other why also x y quiet spent first second =
    let same : first.read ≡ second.read = read_once reading text first.read second.read first.reads second.reads in
    let others : Others second.read = others_read text second.read quiet second.reads in
    let refused : why ≡ also =
    decided_once serves a files text second.read why also second.reads (subst (λ (r : Option Statement). Decides serves a files text r why) same first.decided)
    (decided_other a n k p serves files text second.read also spent others second.decided) (λ jobs. absurd (quiet.no_jobs jobs)) in
    let here : Effect a files second.read also printed x =
    subst (λ (r : Option Refusal). Effect a files second.read r printed x) refused (subst (λ (r : Option Statement). Effect a files r why printed x) same first.effect) in
    let both = effect_same list a n k p files second.read also printed other x y others here second.effect in
    (both.0, refused, both.1)

pub same_step : OneReading → OneList → (serves : Statement → Bool) (a b : State) (files : Files) (text printed other : List ℕ) (why also : Option Refusal) (x y : State) → AsksNoMover text → IsSameButNumbers a b
    → are_spent x ≡ false → are_spent y ≡ false → Step serves a files text printed why x → Step serves b files text other also y → (printed ≡ other) × (why ≡ also) × IsSameButNumbers x y
same_step reading list serves a b files text printed other why also x y quiet same left_x left_y first second =
    let left_a : are_spent a ≡ false = left_before a.next x.next (step_grows serves a files text printed why x quiet first) left_x in
    let left_b : are_spent b ≡ false = left_before b.next y.next (step_grows serves b files text other also y quiet second) left_y in
    renumbered_step reading list serves a b.next b.busy b.parts files text printed other why also x y quiet (left_b ∙ sym left_a) first
    (subst (λ (s : State). Step serves s files text other also y) (sym (same_renumbered a b same)) second)
