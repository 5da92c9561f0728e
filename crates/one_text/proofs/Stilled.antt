-- One statement over a state, and over the same without what the mover makes of it.
use Rattle.std.proofs.Common.{◌≡◌, ℕ, ◌≤◌, ◌+◌, ◌-◌, Bool, true, false, cond, List, [], length, map, refl, sym, ap, ap₂, ◌∙◌, subst, arith, inl}
use Rattle.std.specs.Prelude.{nat_le, Option, Some, None, option_map, option_and_then, slice_set, codes}
use Rattle.std.specs.Option.{option_map_or}
use Rattle.col_value.specs.declared.column.Column.{Column}
use Rattle.col_value.specs.declared.value.Value.{Value}
use Rattle.sql_tree.specs.declared.query.At.{At}
use Rattle.sql_tree.specs.declared.query.Query.{Query}
use Rattle.sql_tree.specs.declared.refusal.Refusal.{Refusal}
use Rattle.sql_tree.specs.declared.refusal.Which.{Which}
use Rattle.sql_tree.specs.declared.statement.AddColumn.{AddColumn}
use Rattle.sql_tree.specs.declared.statement.Delete.{Delete}
use Rattle.sql_tree.specs.declared.statement.Function.{Function}
use Rattle.sql_tree.specs.declared.statement.Insert.{Insert}
use Rattle.sql_tree.specs.declared.statement.NewProjection.{NewProjection}
use Rattle.sql_tree.specs.declared.statement.Statement.{Statement}
use Rattle.sql_tree.specs.declared.statement.Update.{Update}
use Rattle.sql_bound.specs.declared.query.BoundQuery.{BoundQuery}
use Rattle.sql_bound.specs.Outputs.{output}
use Rattle.sql_bound.specs.Printed.{IsPrinted}
use Rattle.sql_binding.specs.Additions.{addition_refusal, default_refusal, default_value}
use Rattle.sql_binding.specs.Changes.{delete_refusal, update_refusal}
use Rattle.sql_binding.specs.Firsts.{first_of, refused_where}
use Rattle.sql_binding.specs.Inserts.{insert_refusal, inserted_rows, stored_refusal}
use Rattle.sql_binding.specs.Projections.{name_limit, projection_form_refusal, projection_name_refusal}
use Rattle.sql_binding.specs.Queries.{query_refusal}
use Rattle.db_model.specs.Database.{Shape, Table, is_taken, super_name}
use Rattle.db_model.specs.Events.{changes_committed, changes_dropped, new_shape, refresh_started, column_added, deleted_count, empty_table, on_table, projection_created, rows_deleted, rows_pending, rows_updated, table_created, table_dropped, updated_old, widened, with_shape}
use Rattle.db_model.specs.Leaving.{CallLeaves, CopyLeaves, RefusedCallLeaves, RefusedLeaves, StatementLeaves}
use Rattle.db_model.specs.Loading.{Files, Load}
use Rattle.db_model.specs.Locks.{holder}
use Rattle.db_model.specs.Numbers.{IsDrawn, are_spent, most_drawn}
use Rattle.db_model.specs.Printing.{CallPrints, CopyPrints, Prints, counted_line, on_found}
use Rattle.db_model.specs.Refusals.{CallRefuses, CopyRefuses, LoadRefuses, Refuses, SumRefuses, UnlockedRefuses, column_added_refusal, is_large_file, joining_limit, load_refusal, locked, projection_created_refusal, projection_refusal_over, query_refusal_in, rows_deleted_refusal, rows_inserted_refusal, rows_updated_refusal, table_created_refusal, table_dropped_refusal, unknown_table_refusal, update_refusal_over}
use Rattle.db_model.specs.Refusing.{column_limit, columns_limit, epoch_refusal, repeated_behind}
use Rattle.db_model.specs.State.{Changes, State, commit_changes, committed, has_changes, own_changes, with_changes}
use Rattle.db_model.specs.Step.{Decides, Effect, RefusedTextLeaves, RefusesForm, Step}
use Rattle.db_model.specs.Views.{bound_in, columns_found, inputs, table_found}
use Rattle.one_text.specs.Movers.{LooksAtMoved, unmoved, unmoved_table}
use Rattle.one_text.proofs.Numbered.{IsOther, Others, text_stays}
use Rattle.one_text.proofs.Unmoved.{Found, bound_still, by_found, changed_still, columns_still, commit_still, filter_still, found_still, inputs_still, placed_shape, put_still, shapes_still, source_columns_still, still, still_found, tables_still, tables_twice, taken_still, widened_still}

-- a statement that looks at nothing of the mover's, and asks it for nothing
pub record IsUnmoved (s : Statement) : Type 0 where
  pub other : IsOther s
  pub blind : LooksAtMoved s → ⊥

abbrev pub Unmoves : Option Statement → Type 0
Unmoves None = Unit {0}
Unmoves (Some s) = IsUnmoved s

-- ---- tables that came to the same

-- a state of these, over which no number was drawn
abbrev state_of : List Table → List (List Changes) → ℕ → ℕ → ℕ → State
state_of us sessions current last ahm = record { database = record { tables = us; last = last; ahm = ahm }; sessions = sessions; current = current; asked = []; next = 1; busy = 0; parts = 0 }

pub once : (a : State) → still (still a) ≡ still a
once a = ap (λ (us : List Table). state_of us a.sessions a.current a.database.last a.database.ahm) (tables_twice a.database.tables)

pub committed_still : (a : State) → still (changes_committed (still a)) ≡ still (changes_committed a)
committed_still a = by (has_changes (own_changes a))
  where
    sessions : List (List Changes)
    sessions = slice_set a.sessions (a.current - 1) []

    by : (b : Bool) → still (with_changes [] (cond b (record (still a) { database = committed (own_changes a) (unmoved a.database) }) (still a)))
        ≡ still (with_changes [] (cond b (record a { database = committed (own_changes a) a.database }) a))
    by true =
        ap (λ (us : List Table). state_of us sessions a.current (a.database.last + 1) a.database.ahm)
        (ap (map unmoved_table) (commit_still (a.database.last + 1) (own_changes a) a.database.tables) ∙ tables_twice (commit_changes (a.database.last + 1) (own_changes a) a.database.tables))
    by false = ap (λ (us : List Table). state_of us sessions a.current a.database.last a.database.ahm) (tables_twice a.database.tables)

committed_first : (a : State) → (changes_committed (still a)).next ≡ 1
committed_first a = by (has_changes (own_changes a))
  where
    by : (b : Bool) → (with_changes [] (cond b (record (still a) { database = committed (own_changes a) (unmoved a.database) }) (still a))).next ≡ 1
    by true = refl
    by false = refl

-- an event over the still state leaves one that is still the same
pub record Leaves (Leave : State → Type 0) (x : State) : Type 0 where
  pub left : State
  pub leaves : Leave left
  pub first : left.next ≡ 1
  pub same : still left ≡ still x

-- ---- why it is refused

-- of a new table, by whether its name and that of its projection are taken and how many tables there are
abbrev pub created_by : List ℕ → List Column → Bool → Bool → ℕ → Bool → Option Refusal
created_by name columns own super tables spent =
    first_of
    (first_of (option_map Refusal.Exists (first_of (cond own (Some name) None) (first_of (cond super (Some (super_name name)) None) (repeated_behind [] columns))))
    (first_of (first_of (refused_where (nat_le 1024 tables) (Refusal.Limit Which.Tables 1024)) (name_limit name)) (columns_limit columns)))
    (refused_where spent Refusal.NumbersSpent)

-- of a new projection, by its table's columns, whether its name is taken, and why it is refused for what it is
abbrev pub shaped_by : NewProjection → Option (List Column) → Bool → Option Refusal → Bool → Option Refusal
shaped_by p columns taken form spent =
    first_of (projection_name_refusal columns p) (first_of (option_map Refusal.Exists (cond taken (Some p.name) None)) (first_of form (refused_where spent Refusal.NumbersSpent)))

abbrev pub added_by : AddColumn → Option (List Column) → Option ℕ → Bool → Option Refusal
added_by c columns held spent =
    first_of (addition_refusal columns c)
    (first_of (option_and_then (λ cs. column_limit (length cs, c.column)) columns)
    (first_of (option_map Refusal.Locked held) (first_of (default_refusal c) (refused_where spent Refusal.NumbersSpent))))

module _ (a : State) where
  abbrev ts : List Table
  ts = a.database.tables

  unspent : are_spent a ≡ false → are_spent (still a) ≡ are_spent a
  unspent left = sym left

  create_still : (name : List ℕ) (columns : List Column) → are_spent a ≡ false → table_created_refusal (still a) name columns ≡ table_created_refusal a name columns
  create_still name columns left =
      ap₂ (λ (x y : Bool). created_by name columns x y (length (map unmoved_table ts)) false) (taken_still name ts) (taken_still (super_name name) ts)
      ∙ ap₂ (λ (n : ℕ) (x : Bool). created_by name columns (is_taken name ts) (is_taken (super_name name) ts) n x) (tables_still ts) (sym left)

  form_of : (p : NewProjection) (o : Option Found) → option_and_then (λ e. projection_refusal_over p e.1) (option_map still_found o) ≡ option_and_then (λ e. projection_refusal_over p e.1) o
  form_of p None = refl
  form_of p (Some e) =
      ap (λ (n : ℕ). first_of (projection_form_refusal e.1.columns p) (first_of (refused_where (nat_le 16 n) (Refusal.Limit Which.Projections 16)) (name_limit p.name))) (shapes_still e.1.shapes)

  shape_still : (p : NewProjection) → are_spent a ≡ false → projection_created_refusal (still a) p ≡ projection_created_refusal a p
  shape_still p left =
      let form =
      by_found p.table ts (λ o. option_and_then (λ e. projection_refusal_over p e.1) o) (λ o. option_and_then (λ e. projection_refusal_over p e.1) o) (form_of p) in
      ap₂ (λ (cs : Option (List Column)) (x : Bool). shaped_by p cs x (option_and_then (λ e. projection_refusal_over p e.1) (table_found p.table (map unmoved_table ts))) false) (columns_still p.table ts) (taken_still p.name ts)
      ∙ ap₂ (λ (o : Option Refusal) (x : Bool). shaped_by p (columns_found ts p.table) (is_taken p.name ts) o x) form (sym left)

  unknown_of : (name : List ℕ) (o : Option Found) → option_map_or (λ e. None) (option_map still_found o) (Some (Refusal.UnknownTable name)) ≡ option_map_or (λ e. None) o (Some (Refusal.UnknownTable name))
  unknown_of name None = refl
  unknown_of name (Some e) = refl

  pub unknown_still : (name : List ℕ) → unknown_table_refusal (still a) name ≡ unknown_table_refusal a name
  unknown_still name =
      by_found name ts (λ o. option_map_or (λ e. None) o (Some (Refusal.UnknownTable name))) (λ o. option_map_or (λ e. None) o (Some (Refusal.UnknownTable name))) (unknown_of name)

  drop_still : (name : List ℕ) → are_spent a ≡ false → table_dropped_refusal (still a) name ≡ table_dropped_refusal a name
  drop_still name left =
      ap₂ (λ (o : Option Refusal) (x : Bool). first_of o (first_of (locked a name true) (refused_where x Refusal.NumbersSpent))) (unknown_still name) (sym left)

  insert_still : (i : Insert) → rows_inserted_refusal (still a) i ≡ rows_inserted_refusal a i
  insert_still i =
      ap
      (λ (cs : Option (List Column)). first_of (insert_refusal cs i)
      (first_of (joining_limit a i.table (length i.rows)) (first_of (locked a i.table false) (option_and_then (λ columns. stored_refusal columns i) cs))))
      (columns_still i.table ts)

  delete_still : (d : Delete) → rows_deleted_refusal (still a) d ≡ rows_deleted_refusal a d
  delete_still d = ap (λ (cs : Option (List Column)). first_of (delete_refusal cs d) (locked a d.table true)) (columns_still d.table ts)

  over_of : (u : Update) (o : Option Found) → option_and_then (update_refusal_over (still a) u) (option_map still_found o) ≡ option_and_then (update_refusal_over a u) o
  over_of u None = refl
  over_of u (Some e) = refl

  update_still : (u : Update) → rows_updated_refusal (still a) u ≡ rows_updated_refusal a u
  update_still u =
      ap₂ (λ (cs : Option (List Column)) (o : Option Refusal). first_of (update_refusal cs u) o) (columns_still u.table ts)
      (by_found u.table ts (λ o. option_and_then (update_refusal_over (still a) u) o) (λ o. option_and_then (update_refusal_over a u) o) (over_of u))

  add_still : (c : AddColumn) → are_spent a ≡ false → column_added_refusal (still a) c ≡ column_added_refusal a c
  add_still c left = ap₂ (λ (cs : Option (List Column)) (x : Bool). added_by c cs (holder a c.table) x) (columns_still c.table ts) (sym left)

  load_of : (e : Found) (bytes : List ℕ) (large : Bool) (why : Option Refusal) → LoadRefuses a e bytes large why → LoadRefuses (still a) (still_found e) bytes large why
  load_of e bytes true why is = is
  load_of e bytes false why (load, loads, is) = (load, loads, is ∙ same load)
    where
      same : (load : Load) → load_refusal a e.1.name load ≡ load_refusal (still a) e.1.name load
      same (Load.Rows rows) = refl
      same (Load.Wrong line field) = refl

  unlocked_of : (before : Option Refusal) (e : Found) (held : Option (List ℕ)) (why : Option Refusal) → UnlockedRefuses before a e held why → UnlockedRefuses before (still a) (still_found e) held why
  unlocked_of (Some refusal) e held why is = is
  unlocked_of None e None why is = is
  unlocked_of None e (Some bytes) why is = load_of e bytes (is_large_file bytes) why is

  copy_of : (table : List ℕ) (o : Option Found) (held : Option (List ℕ)) (why : Option Refusal) → CopyRefuses a table o held why → CopyRefuses (still a) table (option_map still_found o) held why
  copy_of table None held why is = is
  copy_of table (Some e) held why is = unlocked_of (locked a table false) e held why is

  copy_still : (table : List ℕ) (held : Option (List ℕ)) (why : Option Refusal) → CopyRefuses a table (table_found table ts) held why → CopyRefuses (still a) table (table_found table (map unmoved_table ts)) held why
  copy_still table held why is =
      subst (λ (o : Option Found). CopyRefuses (still a) table o held why) (sym (found_still table ts)) (copy_of table (table_found table ts) held why is)

  query_still : (q : Query) → query_refusal_in (still a) q ≡ query_refusal_in a q
  query_still q = ap (λ (cs : List (Option (List Column))). query_refusal cs q) (source_columns_still ts q)

  select_still : (at : At) (q : Query) (why : Option Refusal)
      → SumRefuses (first_of (query_refusal_in a q) (epoch_refusal a.database.ahm a.database.last at)) (bound_in a q) (inputs at a q) why
      → SumRefuses (first_of (query_refusal_in (still a) q) (epoch_refusal a.database.ahm a.database.last at)) (bound_in (still a) q) (inputs at (still a) q) why
  select_still at q why is =
      subst (λ (o : Option Refusal). SumRefuses (first_of o (epoch_refusal a.database.ahm a.database.last at)) (bound_in (still a) q) (inputs at (still a) q) why) (sym (query_still q))
      (subst (λ (tree : BoundQuery). SumRefuses (first_of (query_refusal_in a q) (epoch_refusal a.database.ahm a.database.last at)) tree (inputs at (still a) q) why) (sym (bound_still a q))
      (subst (λ (rows : List (List (List Value))). SumRefuses (first_of (query_refusal_in a q) (epoch_refusal a.database.ahm a.database.last at)) (bound_in a q) rows why) (sym (inputs_still at a q)) is))

  call_refused : (f : Function) (why : Option Refusal) → IsUnmoved (Statement.Call f) → CallRefuses a f why → CallRefuses (still a) f why
  call_refused Function.Lge why quiet is = is
  call_refused Function.Ahm why quiet is = is
  call_refused Function.Current why quiet is = is
  call_refused Function.MakeAhmNow why quiet is = absurd (quiet.blind tt)
  call_refused (Function.SetAhm m) why quiet is = absurd (quiet.blind tt)
  call_refused Function.Moveout why quiet is = absurd (quiet.other.no_jobs Function.Moveout tt refl)
  call_refused Function.Mergeout why quiet is = absurd (quiet.other.no_jobs Function.Mergeout tt refl)
  call_refused (Function.Purge table) why quiet is = absurd (quiet.other.no_jobs (Function.Purge table) tt refl)
  call_refused (Function.Refresh table) why quiet is = absurd (quiet.other.no_jobs (Function.Refresh table) tt refl)
  call_refused Function.StartRefresh why quiet is = is

  refused_still : (files : Files) (s : Statement) (why : Option Refusal) → are_spent a ≡ false → IsUnmoved s → Refuses a files s why → Refuses (still a) files s why
  refused_still files (Statement.CreateTable name columns) why left quiet is = is ∙ sym (create_still name columns left)
  refused_still files (Statement.CreateProjection p) why left quiet is = is ∙ sym (shape_still p left)
  refused_still files (Statement.DropTable name) why left quiet is = is ∙ sym (drop_still name left)
  refused_still files (Statement.DropProjection name) why left quiet is = absurd (quiet.blind tt)
  refused_still files (Statement.Insert i) why left quiet is = is ∙ sym (insert_still i)
  refused_still files (Statement.Delete d) why left quiet is = is ∙ sym (delete_still d)
  refused_still files (Statement.Update u) why left quiet is = is ∙ sym (update_still u)
  refused_still files (Statement.AddColumn c) why left quiet is = is ∙ sym (add_still c left)
  refused_still files (Statement.Copy table file) why left quiet is = copy_still table (files file) why is
  refused_still files Statement.Commit why left quiet is = is
  refused_still files Statement.Rollback why left quiet is = is
  refused_still files (Statement.Select at q) why left quiet is = select_still at q why is
  refused_still files (Statement.Explain q) why left quiet is = absurd (quiet.blind tt)
  refused_still files (Statement.Call f) why left quiet is = call_refused f why quiet is
  refused_still files (Statement.Session m) why left quiet is = is
  refused_still files Statement.Step why left quiet is = absurd (quiet.other.no_step refl)

  form_still : (files : Files) (s : Statement) (served : Bool) (why : Option Refusal) → are_spent a ≡ false → IsUnmoved s → RefusesForm a files s served why → RefusesForm (still a) files s served why
  form_still files s true why left quiet is = refused_still files s why left quiet is
  form_still files s false why left quiet is = is

  decided_still : (serves : Statement → Bool) (files : Files) (text : List ℕ) (read : Option Statement) (why : Option Refusal) → are_spent a ≡ false → Unmoves read
      → Decides serves a files text read why → Decides serves (still a) files text read why
  decided_still serves files text None why left quiet is = is
  decided_still serves files text (Some s) why left quiet is = form_still files s (serves s) why left quiet is

  -- ---- what it prints

  copy_printed : (o : Option Found) (held : Option (List ℕ)) (text : List ℕ) → CopyPrints a o held text → CopyPrints (still a) (option_map still_found o) held text
  copy_printed None held text prints = prints
  copy_printed (Some e) None text prints = prints
  copy_printed (Some e) (Some bytes) text prints = prints

  counted_of : (d : Delete) (o : Option Found) → on_found (option_map still_found o) (deleted_count d (still a)) ≡ on_found o (deleted_count d a)
  counted_of d None = refl
  counted_of d (Some e) = refl

  updated_of : (u : Update) (o : Option Found) → on_found (option_map still_found o) (λ e. length (updated_old u (still a) e)) ≡ on_found o (λ e. length (updated_old u a e))
  updated_of u None = refl
  updated_of u (Some e) = refl

  call_printed : (f : Function) (text : List ℕ) → IsUnmoved (Statement.Call f) → CallPrints a f text → CallPrints (still a) f text
  call_printed Function.Lge text quiet prints = absurd (quiet.blind tt)
  call_printed Function.Ahm text quiet prints = prints
  call_printed Function.Current text quiet prints = prints
  call_printed Function.MakeAhmNow text quiet prints = absurd (quiet.blind tt)
  call_printed (Function.SetAhm m) text quiet prints = absurd (quiet.blind tt)
  call_printed Function.Moveout text quiet prints = prints
  call_printed Function.Mergeout text quiet prints = prints
  call_printed (Function.Purge table) text quiet prints = prints
  call_printed (Function.Refresh table) text quiet prints = prints
  call_printed Function.StartRefresh text quiet prints = prints

  printed_still : (files : Files) (s : Statement) (text : List ℕ) → IsUnmoved s → Prints a files s text → Prints (still a) files s text
  printed_still files (Statement.CreateTable name columns) text quiet prints = prints
  printed_still files (Statement.CreateProjection q) text quiet prints = prints
  printed_still files (Statement.DropTable name) text quiet prints = prints
  printed_still files (Statement.DropProjection name) text quiet prints = prints
  printed_still files (Statement.Insert i) text quiet prints = prints
  printed_still files (Statement.Delete d) text quiet prints =
      prints ∙ ap (λ (n : ℕ). counted_line (codes "DELETE ") n) (sym (by_found d.table ts (λ o. on_found o (deleted_count d (still a))) (λ o. on_found o (deleted_count d a)) (counted_of d)))
  printed_still files (Statement.Update u) text quiet prints =
      prints
      ∙ ap (λ (n : ℕ). counted_line (codes "UPDATE ") n)
      (sym (by_found u.table ts (λ o. on_found o (λ e. length (updated_old u (still a) e))) (λ o. on_found o (λ e. length (updated_old u a e))) (updated_of u)))
  printed_still files (Statement.AddColumn c) text quiet prints = prints
  printed_still files (Statement.Copy table file) text quiet prints =
      subst (λ (o : Option Found). CopyPrints (still a) o (files file) text) (sym (found_still table ts)) (copy_printed (table_found table ts) (files file) text prints)
  printed_still files Statement.Commit text quiet prints = prints
  printed_still files Statement.Rollback text quiet prints = prints
  printed_still files (Statement.Select at q) text quiet (listed, is_listed, text_is) = (
    listed,
    subst (λ (tree : BoundQuery). IsPrinted tree.order q.limit (output tree (inputs at (still a) q)) listed) (sym (bound_still a q))
        (subst (λ (rows : List (List (List Value))). IsPrinted (bound_in a q).order q.limit (output (bound_in a q) rows) listed) (sym (inputs_still at a q)) is_listed),
    text_is,
  )
  printed_still files (Statement.Explain q) text quiet prints = absurd (quiet.blind tt)
  printed_still files (Statement.Call f) text quiet prints = call_printed f text quiet prints
  printed_still files (Statement.Session m) text quiet prints = prints
  printed_still files Statement.Step text quiet prints = prints

  -- ---- what it leaves

  at_most : (m n : ℕ) → m ≤ m + n
  at_most m n = omega arith

  -- what an event that draws makes of the two
  drawn_leaves : (made over x : State) → IsDrawn a made x → still over ≡ still made → Leaves (λ y. IsDrawn (still a) over y) x
  drawn_leaves made over x drawn same = record {
    left = record over { next = 1; parts = 0 };
    leaves = record { same = refl; drawn = record { from = at_most 1 0; to = at_most 1 (most_drawn 0); parts = at_most 0 2 } };
    first = refl;
    same = same ∙ sym (ap still drawn.same);
  }

  -- and one that doesn't
  plain_leaves : (made over x : State) → over.next ≡ 1 → x ≡ made → still over ≡ still made → Leaves (λ y. y ≡ over) x
  plain_leaves made over x first is same = record { left = over; leaves = refl; first = first; same = same ∙ sym (ap still is) }

  abbrev with_tables_of : List Table → State
  with_tables_of us = state_of us a.sessions a.current a.database.last a.database.ahm

  abbrev with_sessions : List (List Changes) → List Table → State
  with_sessions sessions us = state_of us sessions a.current a.database.last a.database.ahm

  shaped_table : (p : NewProjection) (t : Table) → unmoved_table (with_shape a.database.ahm a.database.last p (unmoved_table t)) ≡ unmoved_table (with_shape a.database.ahm a.database.last p t)
  shaped_table p t = ap (λ (ss : List Shape). record t { shapes = ss }) (placed_shape (new_shape a.database.ahm a.database.last p t) t.shapes)

  deleted_of : (d : Delete) (o : Option Found) → still (option_map_or (rows_deleted d (still a)) (option_map still_found o) (still a)) ≡ still (option_map_or (rows_deleted d a) o a)
  deleted_of d None = once a
  deleted_of d (Some e) = ap (with_sessions (rows_deleted d a e).sessions) (tables_twice ts)

  deleted_first : (d : Delete) (o : Option Found) → (option_map_or (rows_deleted d (still a)) o (still a)).next ≡ 1
  deleted_first d None = refl
  deleted_first d (Some e) = refl

  changed_of : (u : Update) (o : Option Found) → still (option_map_or (rows_updated u (still a)) (option_map still_found o) (still a)) ≡ still (option_map_or (rows_updated u a) o a)
  changed_of u None = once a
  changed_of u (Some e) = ap (with_sessions (rows_updated u a e).sessions) (tables_twice ts)

  changed_first : (u : Update) (o : Option Found) → (option_map_or (rows_updated u (still a)) o (still a)).next ≡ 1
  changed_first u None = refl
  changed_first u (Some e) = refl

  copy_leaves : (o : Option Found) (held : Option (List ℕ)) (x : State) → CopyLeaves a o held x → Leaves (λ y. CopyLeaves (still a) (option_map still_found o) held y) x
  copy_leaves None held x leaves = absurd leaves
  copy_leaves (Some e) None x leaves = absurd leaves
  copy_leaves (Some e) (Some bytes) x (rows, loads, is) =
      let b : State = rows_pending e.1.name rows a in
      record { left = changes_committed (still b); leaves = (rows, loads, refl); first = committed_first b; same = committed_still b ∙ sym (ap still is) }

  call_leaves : (f : Function) (x : State) → IsUnmoved (Statement.Call f) → CallLeaves a f x → Leaves (λ y. CallLeaves (still a) f y) x
  call_leaves Function.Lge x quiet is = plain_leaves a (still a) x refl is (once a)
  call_leaves Function.Ahm x quiet is = plain_leaves a (still a) x refl is (once a)
  call_leaves Function.Current x quiet is = plain_leaves a (still a) x refl is (once a)
  call_leaves Function.MakeAhmNow x quiet is = absurd (quiet.blind tt)
  call_leaves (Function.SetAhm m) x quiet is = absurd (quiet.blind tt)
  call_leaves Function.Moveout x quiet is = absurd (quiet.other.no_jobs Function.Moveout tt refl)
  call_leaves Function.Mergeout x quiet is = absurd (quiet.other.no_jobs Function.Mergeout tt refl)
  call_leaves (Function.Purge table) x quiet is = absurd (quiet.other.no_jobs (Function.Purge table) tt refl)
  call_leaves (Function.Refresh table) x quiet is = absurd (quiet.other.no_jobs (Function.Refresh table) tt refl)
  call_leaves Function.StartRefresh x quiet is = plain_leaves (refresh_started a) (refresh_started (still a)) x refl is (once a)

  left_still : (files : Files) (s : Statement) (x : State) → IsUnmoved s → StatementLeaves a files s x → Leaves (λ y. StatementLeaves (still a) files s y) x
  left_still files (Statement.CreateTable name columns) x quiet is =
      let t : Table = empty_table name columns a.database.last in
      drawn_leaves (table_created name columns a) (table_created name columns (still a)) x is (ap with_tables_of (put_still t t ts refl refl))
  left_still files (Statement.CreateProjection p) x quiet is =
      let change : Table → Table = with_shape a.database.ahm a.database.last p in
      drawn_leaves (projection_created p a) (projection_created p (still a)) x is (ap with_tables_of (changed_still p.table change change (shaped_table p) ts))
  left_still files (Statement.DropTable name) x quiet is =
      drawn_leaves (table_dropped name a) (table_dropped name (still a)) x is (ap (with_sessions (table_dropped name a).sessions) (filter_still name ts))
  left_still files (Statement.DropProjection name) x quiet is = absurd (quiet.blind tt)
  left_still files (Statement.Insert i) x quiet is =
      plain_leaves (rows_pending i.table (inserted_rows i) a) (rows_pending i.table (inserted_rows i) (still a)) x refl is
      (ap (with_sessions (rows_pending i.table (inserted_rows i) a).sessions) (tables_twice ts))
  left_still files (Statement.Delete d) x quiet is =
      plain_leaves (on_table d.table (rows_deleted d a) a) (on_table d.table (rows_deleted d (still a)) (still a)) x (deleted_first d (table_found d.table (map unmoved_table ts))) is
      (by_found d.table ts (λ o. still (option_map_or (rows_deleted d (still a)) o (still a))) (λ o. still (option_map_or (rows_deleted d a) o a)) (deleted_of d))
  left_still files (Statement.Update u) x quiet is =
      plain_leaves (on_table u.table (rows_updated u a) a) (on_table u.table (rows_updated u (still a)) (still a)) x (changed_first u (table_found u.table (map unmoved_table ts))) is
      (by_found u.table ts (λ o. still (option_map_or (rows_updated u (still a)) o (still a))) (λ o. still (option_map_or (rows_updated u a) o a)) (changed_of u))
  left_still files (Statement.AddColumn c) x quiet is =
      let change : Table → Table = widened c.column (default_value c) in
      drawn_leaves (column_added c a) (column_added c (still a)) x is (ap with_tables_of (changed_still c.table change change (widened_still c.column (default_value c)) ts))
  left_still files (Statement.Copy table file) x quiet is =
      subst (λ (o : Option Found). Leaves (λ y. CopyLeaves (still a) o (files file) y) x) (sym (found_still table ts)) (copy_leaves (table_found table ts) (files file) x is)
  left_still files Statement.Commit x quiet is = plain_leaves (changes_committed a) (changes_committed (still a)) x (committed_first a) is (committed_still a)
  left_still files Statement.Rollback x quiet is = plain_leaves (changes_dropped a) (changes_dropped (still a)) x refl is (ap (with_sessions (changes_dropped a).sessions) (tables_twice ts))
  left_still files (Statement.Select at q) x quiet is = plain_leaves a (still a) x refl is (once a)
  left_still files (Statement.Explain q) x quiet is = absurd (quiet.blind tt)
  left_still files (Statement.Call f) x quiet is = call_leaves f x quiet is
  left_still files (Statement.Session m) x quiet is =
      plain_leaves (record a { current = m }) (record (still a) { current = m }) x refl is (ap (λ (us : List Table). state_of us a.sessions m a.database.last a.database.ahm) (tables_twice ts))
  left_still files Statement.Step x quiet is = absurd (quiet.other.no_step refl)

-- what is refused may leave all as it was
call_rests : (a : State) (f : Function) → RefusedCallLeaves a f a
call_rests a Function.Lge = refl
call_rests a Function.Ahm = refl
call_rests a Function.Current = refl
call_rests a Function.MakeAhmNow = refl
call_rests a (Function.SetAhm m) = refl
call_rests a Function.Moveout = inl refl
call_rests a Function.Mergeout = inl refl
call_rests a (Function.Purge table) = inl refl
call_rests a (Function.Refresh table) = inl refl
call_rests a Function.StartRefresh = refl

statement_rests : (a : State) (s : Statement) → RefusedLeaves a s a
statement_rests a (Statement.CreateTable name columns) = refl
statement_rests a (Statement.CreateProjection q) = refl
statement_rests a (Statement.DropTable name) = refl
statement_rests a (Statement.DropProjection name) = refl
statement_rests a (Statement.Insert i) = refl
statement_rests a (Statement.Delete d) = refl
statement_rests a (Statement.Update u) = refl
statement_rests a (Statement.AddColumn c) = refl
statement_rests a (Statement.Copy table file) = refl
statement_rests a Statement.Commit = refl
statement_rests a Statement.Rollback = refl
statement_rests a (Statement.Select at q) = refl
statement_rests a (Statement.Explain q) = refl
statement_rests a (Statement.Call f) = call_rests a f
statement_rests a (Statement.Session m) = refl
statement_rests a Statement.Step = refl

text_rests : (a : State) (read : Option Statement) → RefusedTextLeaves a read a
text_rests a None = refl
text_rests a (Some s) = statement_rests a s

others_of : (read : Option Statement) → Unmoves read → Others read
others_of None quiet = tt
others_of (Some s) quiet = quiet.other

effect_still : (a : State) (files : Files) (read : Option Statement) (why : Option Refusal) (text : List ℕ) (x : State) → Unmoves read → Effect a files read why text x
    → Leaves (λ y. Effect (still a) files read why text y) x
effect_still a files read (Some refusal) text x quiet (is, leaves) = record {
  left = still a;
  leaves = (is, text_rests (still a) read);
  first = refl;
  same = once a ∙ sym (ap still (text_stays a read x (others_of read quiet) leaves));
}
effect_still a files (Some s) None text x quiet (prints, leaves) =
    let done = left_still a files s x quiet leaves in
    record { left = done.left; leaves = (printed_still a files s text quiet prints, done.leaves); first = done.first; same = done.same }
effect_still a files None None text x quiet is = absurd is

-- a step of a text over a state is one over the still state
pub step_still : (serves : Statement → Bool) (a : State) (files : Files) (text printed : List ℕ) (why : Option Refusal) (x : State) → are_spent a ≡ false → (step : Step serves a files text printed why x) → Unmoves step.read
    → Leaves (λ y. Step serves (still a) files text printed why y) x
step_still serves a files text printed why x left step quiet =
    let done = effect_still a files step.read why printed x quiet step.effect in
    record {
      left = done.left;
      leaves = record { read = step.read; reads = step.reads; decided = decided_still a serves files text step.read why left quiet step.decided; effect = done.leaves };
      first = done.first;
      same = done.same;
    }
