-- INSERT, DELETE and UPDATE over alike states.
use Rattle.std.proofs.Common.{◌≡◌, ℕ, ◌+◌, ◌≤◌, not, Bool, true, false, List, [], map, filter, length, refl, ap, ap₂, ◌∙◌, subst}
use Rattle.std.specs.Prelude.{Option, Some, None, option_and_then}
use Rattle.std.specs.Option.{option_map_or}
use Rattle.common_laws.specs.Bags.{SameBag}
use Rattle.common_laws.proofs.BagLaws.{bag_append, bag_filter, bag_length, bag_map, bag_refl}
use Rattle.col_value.specs.declared.column.Column.{Column}
use Rattle.col_value.specs.declared.row.Asked.{Asked}
use Rattle.col_value.specs.declared.value.Value.{Value}
use Rattle.sql_tree.specs.declared.refusal.Refusal.{Refusal}
use Rattle.sql_tree.specs.declared.statement.Delete.{Delete}
use Rattle.sql_tree.specs.declared.statement.Insert.{Insert}
use Rattle.sql_tree.specs.declared.statement.Update.{Update}
use Rattle.sql_bound.specs.declared.expr.Expr.{Expr}
use Rattle.sql_bound.specs.Outputs.{is_kept}
use Rattle.sql_binding.specs.Changes.{bound_delete, bound_update, delete_refusal, update_refusal}
use Rattle.sql_binding.specs.Firsts.{first_of}
use Rattle.sql_binding.specs.Inserts.{insert_refusal, stored_refusal}
use Rattle.db_model.specs.Alike.{AreAlikeChanges, AreAlikeStates}
use Rattle.db_model.specs.Database.{Table}
use Rattle.db_model.specs.Events.{change_of, delete_keep, deleted_count, marked_changes, matched_rows, on_table, rows_deleted, rows_marked, rows_pending, rows_updated, set_row, update_keep, update_sets, updated_new, updated_old}
use Rattle.db_model.specs.Printing.{on_found}
use Rattle.db_model.specs.Refusals.{all_pairs, joining_limit, locked, pairs_refusal, rows_deleted_refusal, rows_inserted_refusal, rows_left, rows_updated_refusal, update_refusal_over}
use Rattle.db_model.specs.Refusing.{rows_limit}
use Rattle.db_model.specs.State.{Changes, State, own_changes, pending_rows, with_rows}
use Rattle.db_model.specs.Views.{columns_found, committed_view, table_found}
use Rattle.alike_laws.proofs.Changes.{Alike, change_alike, pending_alike as all_pending, rows_alike}
use Rattle.alike_laws.proofs.Refused.{joining_alike, locked_alike, own_alike, put_alike}
use Rattle.alike_steps.proofs.Rows.{matched_bag, view_bag}
use Rattle.alike_steps.proofs.Tables.{AreAlikeFound, columns_same, found_both}
use Rattle.alike_steps.proofs.Zipped.{BothThere, both_or, both_then}

-- the order of the matched rows doesn't matter to which values an UPDATE is refused for
abbrev pub SettingsSeeABag : Type 0
SettingsSeeABag =
    (sets : List (ℕ × Expr)) (columns : List Column) (rows others : List (List Value)) → SameBag rows others → pairs_refusal (all_pairs sets rows columns) ≡ pairs_refusal (all_pairs sets others columns)

-- changes in which a condition's rows are marked
marks_alike : (keep : List Expr) (seen others : List Asked) (rows more : List (List Value)) → SameBag seen others → SameBag rows more → (c e : Changes) → AreAlikeChanges c e
    → AreAlikeChanges (marked_changes keep seen rows c) (marked_changes keep others more e)
marks_alike keep seen others rows more seen_same rows_same c e same = record {
  table = same.table;
  exclusive = refl;
  rows =
      bag_append (filter (λ row. not (is_kept keep row)) c.rows) rows (filter (λ row. not (is_kept keep row)) e.rows) more (bag_filter (λ row. not (is_kept keep row)) c.rows e.rows same.rows) rows_same;
  deletes = bag_append c.deletes (filter (λ a. is_kept keep a.row) seen) e.deletes (filter (λ a. is_kept keep a.row) others) same.deletes (bag_filter (λ a. is_kept keep a.row) seen others seen_same);
}

module _ (a b : State) (alike : AreAlikeStates a b) (mark : a.database.ahm ≤ a.database.last) where
  abbrev Found : ℕ × Table → ℕ × Table → Type 0
  Found = AreAlikeFound a.database.ahm

  own : Alike (own_changes a) (own_changes b)
  own = own_alike a b alike.sessions alike.current

  named : (name : List ℕ) → BothThere Found (table_found name a.database.tables) (table_found name b.database.tables)
  named name = found_both a.database.ahm name a.database.tables b.database.tables alike.database.tables

  columns : (name : List ℕ) → columns_found a.database.tables name ≡ columns_found b.database.tables name
  columns name = columns_same a.database.ahm name a.database.tables b.database.tables alike.database.tables

  lock : (name : List ℕ) (want : Bool) → locked a name want ≡ locked b name want
  lock name want = locked_alike a b name want alike.sessions alike.current

  -- ---- INSERT

  pub insert_same : (i : Insert) → rows_inserted_refusal a i ≡ rows_inserted_refusal b i
  insert_same i =
      ap (λ (cs : Option (List Column)). first_of (insert_refusal cs i) (first_of (joining_limit a i.table (length i.rows)) (first_of (locked a i.table false) (option_and_then (λ xs. stored_refusal xs i) cs))))
      (columns i.table)
      ∙ ap₂ (λ (o p : Option Refusal). first_of (insert_refusal (columns_found b.database.tables i.table) i) (first_of o (first_of p (option_and_then (λ xs. stored_refusal xs i) (columns_found b.database.tables i.table)))))
      (joining_alike a b i.table (length i.rows) alike.sessions alike.current) (lock i.table false)

  pub pending_alike : (name : List ℕ) (rows : List (List Value)) → AreAlikeStates (rows_pending name rows a) (rows_pending name rows b)
  pending_alike name rows = record {
    database = alike.database;
    sessions = put_alike a b (with_rows name rows (own_changes a)) (with_rows name rows (own_changes b)) alike.sessions alike.current (rows_alike name rows (own_changes a) (own_changes b) own);
    current = alike.current;
    asked = alike.asked;
  }

  -- ---- rows that a condition is true on

  -- the rows that two equal conditions match
  matched : (keep other : List Expr) (e f : ℕ × Table) → keep ≡ other → Found e f → SameBag (matched_rows keep (own_changes a) a.database.last e.1) (matched_rows other (own_changes b) b.database.last f.1)
  matched keep other e f is both =
      subst (λ (k : List Expr). SameBag (matched_rows keep (own_changes a) a.database.last e.1) (matched_rows k (own_changes b) b.database.last f.1)) is
      (subst (λ (n : ℕ). SameBag (matched_rows keep (own_changes a) a.database.last e.1) (matched_rows keep (own_changes b) n f.1)) alike.database.last
      (matched_bag keep a.database.ahm a.database.last (own_changes a) (own_changes b) e.1 f.1 mark own both.table))

  seen : (e f : ℕ × Table) → Found e f → SameBag (committed_view a.database.last (own_changes a) e.1) (committed_view b.database.last (own_changes b) f.1)
  seen e f both =
      subst (λ (n : ℕ). SameBag (committed_view a.database.last (own_changes a) e.1) (committed_view n (own_changes b) f.1)) alike.database.last
      (view_bag a.database.ahm a.database.last (own_changes a) (own_changes b) e.1 f.1 mark own both.table)

  marked : (keep other : List Expr) (rows more : List (List Value)) (e f : ℕ × Table) → keep ≡ other → SameBag rows more → Found e f → AreAlikeStates (rows_marked keep rows e.1 a) (rows_marked other more f.1 b)
  marked keep other rows more e f is same both = record {
    database = alike.database;
    sessions =
        put_alike a b (change_of e.1.name (marked_changes keep (committed_view a.database.last (own_changes a) e.1) rows) (own_changes a))
        (change_of f.1.name (marked_changes other (committed_view b.database.last (own_changes b) f.1) more) (own_changes b)) alike.sessions alike.current
        (subst (λ (n : List ℕ). Alike (change_of e.1.name (marked_changes keep (committed_view a.database.last (own_changes a) e.1) rows) (own_changes a)) (change_of n (marked_changes other (committed_view b.database.last (own_changes b) f.1) more) (own_changes b)))
        both.table.name
        (change_alike e.1.name (marked_changes keep (committed_view a.database.last (own_changes a) e.1) rows) (marked_changes other (committed_view b.database.last (own_changes b) f.1) more)
        (subst
        (λ (k : List Expr). (c d : Changes) → AreAlikeChanges c d → AreAlikeChanges (marked_changes keep (committed_view a.database.last (own_changes a) e.1) rows c) (marked_changes k (committed_view b.database.last (own_changes b) f.1) more d))
        is (marks_alike keep (committed_view a.database.last (own_changes a) e.1) (committed_view b.database.last (own_changes b) f.1) rows more (seen e f both) same)) (own_changes a) (own_changes b) own));
    current = alike.current;
    asked = alike.asked;
  }

  -- what is made of the table that a statement names
  on_both : (f g : ℕ × Table → State) → ((x y : ℕ × Table) → Found x y → AreAlikeStates (f x) (g y)) → (o p : Option (ℕ × Table)) → BothThere Found o p → AreAlikeStates (option_map_or f o a) (option_map_or g p b)
  on_both f g each None None both = alike
  on_both f g each None (Some y) both = absurd both
  on_both f g each (Some x) None both = absurd both
  on_both f g each (Some x) (Some y) both = each x y both

  -- ---- DELETE

  delete_keeps : (d : Delete) (e f : ℕ × Table) → Found e f → delete_keep d e ≡ delete_keep d f
  delete_keeps d e f both = ap₂ (λ (n : ℕ) (cs : List Column). (bound_delete n cs d).keep) both.place both.table.columns

  pub delete_same : (d : Delete) → rows_deleted_refusal a d ≡ rows_deleted_refusal b d
  delete_same d = ap₂ (λ (cs : Option (List Column)) (o : Option Refusal). first_of (delete_refusal cs d) o) (columns d.table) (lock d.table true)

  pub deleted_alike : (d : Delete) → AreAlikeStates (on_table d.table (rows_deleted d a) a) (on_table d.table (rows_deleted d b) b)
  deleted_alike d =
      on_both (rows_deleted d a) (rows_deleted d b) (λ e f both. marked (delete_keep d e) (delete_keep d f) [] [] e f (delete_keeps d e f both) (bag_refl []) both) (table_found d.table a.database.tables)
      (table_found d.table b.database.tables) (named d.table)

  pub delete_counts : (d : Delete) → on_found (table_found d.table a.database.tables) (deleted_count d a) ≡ on_found (table_found d.table b.database.tables) (deleted_count d b)
  delete_counts d =
      both_or Found (deleted_count d a) (deleted_count d b) 0
      (λ e f both.
      bag_length (matched_rows (delete_keep d e) (own_changes a) a.database.last e.1) (matched_rows (delete_keep d f) (own_changes b) b.database.last f.1)
      (matched (delete_keep d e) (delete_keep d f) e f (delete_keeps d e f both) both)) (table_found d.table a.database.tables) (table_found d.table b.database.tables) (named d.table)

  -- ---- UPDATE

  update_keeps : (u : Update) (e f : ℕ × Table) → Found e f → update_keep u e ≡ update_keep u f
  update_keeps u e f both = ap₂ (λ (n : ℕ) (cs : List Column). (bound_update n cs u).0.keep) both.place both.table.columns

  update_sames : (u : Update) (e f : ℕ × Table) → Found e f → update_sets u e ≡ update_sets u f
  update_sames u e f both = ap₂ (λ (n : ℕ) (cs : List Column). (bound_update n cs u).1.columns) both.place both.table.columns

  old_bag : (u : Update) (e f : ℕ × Table) → Found e f → SameBag (updated_old u a e) (updated_old u b f)
  old_bag u e f both = matched (update_keep u e) (update_keep u f) e f (update_keeps u e f both) both

  new_bag : (u : Update) (e f : ℕ × Table) → Found e f → SameBag (updated_new u a e) (updated_new u b f)
  new_bag u e f both =
      subst (λ (sets : List (ℕ × Expr)). SameBag (map (set_row (update_sets u e)) (updated_old u a e)) (map (set_row sets) (updated_old u b f))) (update_sames u e f both)
      (bag_map (set_row (update_sets u e)) (updated_old u a e) (updated_old u b f) (old_bag u e f both))

  left_same : (u : Update) (e f : ℕ × Table) → Found e f → length (rows_left a u e) ≡ length (rows_left b u f)
  left_same u e f both =
      bag_length (filter (λ row. not (is_kept (update_keep u e) row)) (pending_rows u.table (own_changes a))) (filter (λ row. not (is_kept (update_keep u e) row)) (pending_rows u.table (own_changes b)))
      (bag_filter (λ row. not (is_kept (update_keep u e) row)) (pending_rows u.table (own_changes a)) (pending_rows u.table (own_changes b)) (all_pending u.table (own_changes a) (own_changes b) own))
      ∙ ap (λ (keep : List Expr). length (filter (λ row. not (is_kept keep row)) (pending_rows u.table (own_changes b)))) (update_keeps u e f both)

  over_same : SettingsSeeABag → (u : Update) (e f : ℕ × Table) → Found e f → update_refusal_over a u e ≡ update_refusal_over b u f
  over_same see u e f both =
      ap₂ (λ (m n : ℕ). first_of (rows_limit (m + n)) (first_of (locked a u.table true) (pairs_refusal (all_pairs (update_sets u e) (updated_old u a e) e.1.columns)))) (left_same u e f both)
      (bag_length (updated_old u a e) (updated_old u b f) (old_bag u e f both))
      ∙ ap₂ (λ (o p : Option Refusal). first_of (rows_limit (length (rows_left b u f) + length (updated_old u b f))) (first_of o p)) (lock u.table true)
      (see (update_sets u e) e.1.columns (updated_old u a e) (updated_old u b f) (old_bag u e f both)
      ∙ ap₂ (λ (sets : List (ℕ × Expr)) (cs : List Column). pairs_refusal (all_pairs sets (updated_old u b f) cs)) (update_sames u e f both) both.table.columns)

  pub update_same : SettingsSeeABag → (u : Update) → rows_updated_refusal a u ≡ rows_updated_refusal b u
  update_same see u =
      ap₂ (λ (cs : Option (List Column)) (o : Option Refusal). first_of (update_refusal cs u) o) (columns u.table)
      (both_then Found (update_refusal_over a u) (update_refusal_over b u) (over_same see u) (table_found u.table a.database.tables) (table_found u.table b.database.tables) (named u.table))

  pub updated_alike : (u : Update) → AreAlikeStates (on_table u.table (rows_updated u a) a) (on_table u.table (rows_updated u b) b)
  updated_alike u =
      on_both (rows_updated u a) (rows_updated u b)
      (λ e f both. marked (update_keep u e) (update_keep u f) (updated_new u a e) (updated_new u b f) e f (update_keeps u e f both) (new_bag u e f both) both) (table_found u.table a.database.tables)
      (table_found u.table b.database.tables) (named u.table)

  pub update_counts : (u : Update) → on_found (table_found u.table a.database.tables) (λ e. length (updated_old u a e)) ≡ on_found (table_found u.table b.database.tables) (λ e. length (updated_old u b e))
  update_counts u =
      both_or Found (λ e. length (updated_old u a e)) (λ e. length (updated_old u b e)) 0 (λ e f both. bag_length (updated_old u a e) (updated_old u b f) (old_bag u e f both)) (table_found u.table a.database.tables)
      (table_found u.table b.database.tables) (named u.table)
