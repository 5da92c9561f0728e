-- DELETE and UPDATE, over a running store.
use Rattle.std.proofs.Common.{◌≡◌, ◌<◌, ◌+◌, ◌++◌, ℕ, zero, suc, Bool, true, false, cond, not, List, [], ◌∷◌, length, map, filter, refl, sym, ◌∙◌, ap, ap₂, subst, arith, inl, append-nil}
use Rattle.std.specs.Prelude.{bytes_eq, codes, find, Option, Some, None, option_map, option_and_then, Result, Ok, Err, IfOk, OnErr, IsSomeAnd}
use Rattle.std.specs.List.{All, AllZip, enumerate_from, slice_get}
use Rattle.std.specs.Option.{option_map_or}
use Rattle.std.proofs.lemmas.Option.{same_Some, slice_get-map}
use Rattle.std.proofs.lemmas.Slice.Eq.{bytes_eq-Decides}
use Rattle.common_laws.specs.Bags.{SameBag}
use Rattle.common_laws.proofs.BagLaws.{bag_filter, bag_length, bag_refl}
use Rattle.col_disk.specs.Moved.{Leaves}
use Rattle.col_disk.specs.declared.disk.Disk.{Ghosts}
use Rattle.col_disk.specs.declared.disk.StoreFault.{StoreFault}
use Rattle.col_disk.specs.declared.disk.StoreFault.TheVariants as store
use Rattle.col_disk.proofs.Moving.{leaves_wider}
use Rattle.catalog_types.specs.declared.catalogue.Table as kept
use Rattle.col_value.specs.declared.column.Column.{Column}
use Rattle.col_value.specs.declared.row.Asked.{Asked}
use Rattle.col_value.specs.declared.value.Value.{Value}
use Rattle.sql_tree.specs.declared.refusal.Refusal.{Refusal}
use Rattle.sql_tree.specs.declared.statement.Delete.{Delete}
use Rattle.sql_tree.specs.declared.statement.Statement.{Statement}
use Rattle.sql_tree.specs.declared.statement.Update.{Update}
use Rattle.sql_bound.specs.declared.expr.Expr.{Expr}
use Rattle.sql_bound.specs.declared.query.Assigned.{Assigned}
use Rattle.sql_bound.specs.declared.query.BoundQuery.{BoundQuery}
use Rattle.sql_bound.specs.Outputs.{is_kept}
use Rattle.sql_binding.specs.Changes.{bound_delete, bound_update, update_refusal}
use Rattle.sql_binding.specs.Firsts.{first_of}
use Rattle.change_binder.specs.Answers.{parts_of_update}
use Rattle.change_binder.specs.declared.updates.BoundUpdate.{BoundUpdate}
use Rattle.db_model.specs.Database.{Table}
use Rattle.db_model.specs.Epochs.{cut, last_good}
use Rattle.db_model.specs.Events.{delete_keep, deleted_count, matched_rows, on_table, rows_deleted, rows_marked, rows_updated, set_row, update_keep, update_sets, updated_new, updated_old}
use Rattle.db_model.specs.Loading.{Files}
use Rattle.db_model.specs.Printing.{counted_line, on_found}
use Rattle.db_model.specs.Refusals.{all_pairs, locked, pairs_refusal, rows_deleted_refusal, rows_left, rows_updated_refusal, update_refusal_over}
use Rattle.db_model.specs.Refusing.{rows_limit}
use Rattle.db_model.specs.Sound.{IsSound, IsSoundDatabase}
use Rattle.db_model.specs.State.{Changes, State, own_changes, pending_rows}
use Rattle.db_model.specs.Views.{columns_found, table_found}
use Rattle.folder_model.specs.Reopening.{Reopens}
use Rattle.alike_laws.proofs.Changes.{pending_alike}
use Rattle.col_disk.specs.Faults.{IsUnblamed}
use Rattle.store_core.specs.Matching.{AreMatches, AreMatchesIn, committed_matches}
use Rattle.change_laws.proofs.Known.{places_there}
use Rattle.statement_plan.specs.declared.plans.Plan.{Plan}
use Rattle.statement_plan.specs.Planned.{IsPlanned}
use Rattle.statement_plan.specs.Bare.{bare_table, IsBareTable}
use Rattle.statement_plan.specs.Places.{IsDeleteOf, IsUpdateOf, placed_delete, placed_update}
use Rattle.store_core.specs.Cuts.{CutBeforeOrAfter}
use Rattle.store_core.specs.Running.{Running, IsState, frame_of}
use Rattle.store_core.specs.Sessions.{own_of, with_marked}
use Rattle.store_core.proofs.Sessions.{own_alike}
use Rattle.store_step.specs.declared.answer.Answer.{Answer}
use Rattle.store_step.specs.Arms.{of_memory, Answers, Holds, MayLeave}
use Rattle.store_step.specs.Matches.{DeleteMatches, UpdateMatches}
use Rattle.col_disk.specs.Faults.{IsUnblamed as IsUnblamedStore}
use Rattle.store_step.specs.Texts.{Says}
use Rattle.store_step.proofs.Answered.{from_good, said_holds, short_holds}

-- ---- a table that was found by its name

abbrev Found : Type 0
Found = ℕ × Table

record StandsFrom (name : List ℕ) (i : ℕ) (ts : List Table) (e : Found) : Type 0 where
  behind : ℕ
  place : e.0 ≡ i + behind
  there : slice_get ts behind ≡ Some e.1
  named : e.1.name ≡ name

found_from : (name : List ℕ) (i : ℕ) (ts : List Table) (e : Found) → find (λ (f : Found). bytes_eq f.1.name name) (enumerate_from i ts) ≡ Some e → StandsFrom name i ts e
found_from name i [] e is = absurd (cc)
found_from name i (t ∷ ts) e is = by (bytes_eq t.name name) refl (found_from name (i + 1) ts e) is
  where
    Rest : Option Found
    Rest = find (λ (f : Found). bytes_eq f.1.name name) (enumerate_from (i + 1) ts)

    by : (b : Bool) → bytes_eq t.name name ≡ b → (Rest ≡ Some e → StandsFrom name (i + 1) ts e) → cond b (Some (i, t)) Rest ≡ Some e → StandsFrom name i (t ∷ ts) e
    by true here more at =
        let same : (i, t) ≡ e = same_Some (i, t) e at in
        subst (StandsFrom name i (t ∷ ts)) same (record { behind = 0; place = omega arith; there = refl; named = (bytes_eq-Decides t.name name).0 here })
    by false here more at =
        let rest = more at in
        let far = rest.place in
        record { behind = suc rest.behind; place = omega (arith, far); there = rest.there; named = rest.named }

pub found_at : (name : List ℕ) (ts : List Table) (e : Found) → table_found name ts ≡ Some e → slice_get ts e.0 ≡ Some e.1
found_at name ts e is =
    let stands = found_from name 0 ts e is in
    let far = stands.place in
    let same : stands.behind ≡ e.0 = omega (arith, far) in
    subst (λ (n : ℕ). slice_get ts n ≡ Some e.1) same stands.there

pub found_named : (name : List ℕ) (ts : List Table) (e : Found) → table_found name ts ≡ Some e → e.1.name ≡ name
found_named name ts e is = (found_from name 0 ts e is).named

-- ---- over a disk that was read

pub read_answers : {D E : Type 0} (disk : Ghosts D) (files : Files) (s : Statement) (is : Running) {old new : D} (r : Result Answer E) (state : State) → IsSoundDatabase state.database → Leaves disk (λ x. Reopens x (cut (last_good state.database) state.database)) old new
    → Holds disk files s is new r state → Answers disk files s is old new (of_memory r) state
read_answers {D} {E} disk files s is {old} {new} r state sound leaves = by r
  where
    moments : Leaves disk (CutBeforeOrAfter state (MayLeave files s state)) old new
    moments = leaves_wider disk (λ x reopens. inl (from_good state x sound reopens)) leaves

    by : (o : Result Answer E) → Holds disk files s is new o state → Answers disk files s is old new (of_memory o) state
    by (Ok a) holds = record { done = holds.done; undone = λ wants. absurd (cc); unblamed = tt; any_moment = moments }
    by (Err e) holds = record { done = tt; undone = λ wants. (state, inl refl, holds.undone); unblamed = tt; any_moment = moments }

abbrev failed_so : StoreFault → Result Answer StoreFault
failed_so fault = Err fault

unblamed_so : (fault : StoreFault) → IsUnblamed fault → IsUnblamedStore fault
unblamed_so store.Disk none = tt
unblamed_so (store.Damaged q) none = none
unblamed_so store.Memory none = tt

pub unread_answers : {D : Type 0} (disk : Ghosts D) (files : Files) (s : Statement) (is : Running) {old new : D} (fault : StoreFault) (state : State) → IsSoundDatabase state.database → Leaves disk (λ x. Reopens x (cut (last_good state.database) state.database)) old new
    → IsState disk is new state → IsUnblamed fault → Answers disk files s is old new (failed_so fault) state
unread_answers disk files s is {old} {new} fault state sound leaves here none = record {
  done = tt;
  undone = λ wants. (state, inl refl, here);
  unblamed = unblamed_so fault none;
  any_moment = leaves_wider disk (λ x reopens. inl (from_good state x sound reopens)) leaves;
}

-- ---- what a change of rows came to

pub changed_holds : {D E : Type 0} (disk : Ghosts D) (files : Files) (s : Statement) (was is marked : Running) (now : D) (result : Result Answer E) (state : State) (text : List ℕ) → IfOk result (λ a. (is ≡ marked) × Says text a) → OnErr result (is ≡ was)
    → ((a : Answer) → Says text a → Holds {E = E} disk files s marked now (Ok a) state) → IsState disk was now state → Holds disk files s is now result state
changed_holds {D} {E} disk files s was is marked now (Ok a) state text done kept holds here = subst (λ (r : Running). Holds {E = E} disk files s r now (Ok a) state) (sym done.0) (holds a done.1)
changed_holds {D} {E} disk files s was is marked now (Err e) state text done kept holds here = short_holds disk files s is now e state (subst (λ (r : Running). IsState disk r now state) (sym kept) here)

-- ---- DELETE

abbrev others : List Expr → List (List Value) → List (List Value)
others keep rows = filter (λ row. not (is_kept keep row)) rows

-- that many rows match
abbrev pub CountsMatches : Type 0
CountsMatches = (keep : List Expr) (last : ℕ) (changes : List Changes) (t : Table) (committed : List Asked) (pending : List (List Value)) → AreMatchesIn keep last changes t committed pending → length committed + length pending ≡ length (matched_rows keep changes last t)

abbrev pub RowsMatch : Type 0
RowsMatch = (keep : List Expr) (last : ℕ) (changes : List Changes) (t : Table) (committed : List Asked) (pending : List (List Value)) → AreMatchesIn keep last changes t committed pending → SameBag (map (λ a. a.row) committed ++ pending) (matched_rows keep changes last t)

-- the store is the state in which its rows are changed so
abbrev pub ChangesStand : {D : Type 0} → Ghosts D → Type 0
ChangesStand {D} disk =
    (now : D) (r : Running) (state : State) (keep : List Expr) (t : Table) (left made news : List (List Value)) (deletes : List Asked) → IsState disk r now state → left ≡ others keep (pending_rows t.name (own_of r)) → SameBag made news
    → SameBag deletes (committed_matches keep state.database.last (own_changes state) t) → IsSound (rows_marked keep news t state) → IsState disk (with_marked t.name (left ++ made) deletes r) now (rows_marked keep news t state)

abbrev delete_text : ℕ → List ℕ
delete_text n = counted_line (codes "DELETE ") n

pub deleted_holds : {D E : Type 0} (disk : Ghosts D) (files : Files) (d : Delete) (r : Running) (now : D) (a : Answer) (state : State) (keep : List Expr) (committed : List Asked) (pending left : List (List Value))
    → CountsMatches → ChangesStand disk → (rows_deleted_refusal state d ≡ None → IsSound state → IsSound (on_table d.table (rows_deleted d state) state))
    → Says (counted_line (codes "DELETE ") (length committed + length pending)) a → IsState disk r now state → rows_deleted_refusal state d ≡ None → DeleteMatches state d keep committed pending → left ≡ others keep (pending_rows d.table (own_of r))
    → Holds {E = E} disk files (Statement.Delete d) (with_marked d.table left committed r) now (Ok a) state
deleted_holds {D} {E} disk files d r now a state keep committed pending left counts stand sound says here accepted m left_is =
    let e = m.table in
    let tables = state.database.tables in
    let own = own_changes state in
    let last = state.database.last in
    let named = found_named d.table tables e m.found in
    let whole : on_table d.table (rows_deleted d state) state ≡ rows_deleted d state e = ap (λ (o : Option Found). option_map_or (rows_deleted d state) o state) m.found in
    let many : length committed + length pending ≡ on_found (table_found d.table tables) (deleted_count d state) =
    counts keep last own e.1 committed pending m.matches ∙ ap (λ (k : List Expr). length (matched_rows k own last e.1)) m.conditions ∙ sym (ap (λ (o : Option Found). option_map_or (deleted_count d state) o 0) m.found) in
    let rest : left ≡ others (delete_keep d e) (pending_rows e.1.name (own_of r)) =
    left_is ∙ ap (λ (k : List Expr). others k (pending_rows d.table (own_of r))) m.conditions ∙ ap (λ (n : List ℕ). others (delete_keep d e) (pending_rows n (own_of r))) (sym named) in
    let gone : SameBag committed (committed_matches (delete_keep d e) last own e.1) = subst (λ (k : List Expr). SameBag committed (committed_matches k last own e.1)) m.conditions m.matches.committed_are in
    let there = stand now r state (delete_keep d e) e.1 left [] [] committed here rest (bag_refl []) gone (subst IsSound whole (sound accepted here.sound)) in
    let marked : IsState disk (with_marked d.table left committed r) now (rows_deleted d state e) =
    subst (λ (n : List ℕ). IsState disk (with_marked n left committed r) now (rows_deleted d state e)) named
    (subst (λ (rows : List (List Value)). IsState disk (with_marked e.1.name rows committed r) now (rows_deleted d state e)) (append-nil left) there) in
    said_holds disk files (Statement.Delete d) (with_marked d.table left committed r) now a state (rows_deleted d state e) (delete_text (length committed + length pending)) says
    (record { decided = sym accepted; effect = (ap delete_text many, sym whole) }) marked

-- the rows of a DELETE's table that match
pub delete_matches : (state : State) (d : Delete) (place : ℕ) (b : BoundQuery) (committed : List Asked) (pending : List (List Value)) → IsDeleteOf state d place b → AreMatches b.keep state.database (own_changes state) place committed pending → DeleteMatches state d b.keep committed pending
delete_matches state d place b committed pending of are = by (table_found d.table state.database.tables) refl of.tree
  where
    tables : List Table
    tables = state.database.tables

    by : (o : Option Found) → table_found d.table tables ≡ o → option_map (placed_delete d) o ≡ Some (place, b) → DeleteMatches state d b.keep committed pending
    by None is none = absurd (cc)
    by (Some e) is at =
        let pair : placed_delete d e ≡ (place, b) = same_Some (placed_delete d e) (place, b) at in
        let there : e.0 ≡ place = ap (λ (p : ℕ × BoundQuery). p.0) pair in
        let tree : bound_delete e.0 e.1.columns d ≡ b = ap (λ (p : ℕ × BoundQuery). p.1) pair in
        let one : slice_get tables place ≡ Some e.1 = subst (λ (n : ℕ). slice_get tables n ≡ Some e.1) there (found_at d.table tables e is) in
        record {
          table = e;
          found = is;
          conditions = ap (λ (q : BoundQuery). q.keep) (sym tree);
          matches = subst (λ (t : Option Table). IsSomeAnd t (λ u. AreMatchesIn b.keep state.database.last (own_changes state) u committed pending)) one are;
        }

-- ---- UPDATE

pub update_matches : (state : State) (u : Update) (place : ℕ) (b : BoundUpdate) (committed : List Asked) (pending : List (List Value)) → IsUpdateOf state u place b → AreMatches b.rows.keep state.database (own_changes state) place committed pending
    → UpdateMatches state u place b.rows.keep b.assigned.columns committed pending
update_matches state u place b committed pending of are = by (table_found u.table state.database.tables) refl of.trees
  where
    tables : List Table
    tables = state.database.tables

    by : (o : Option Found) → table_found u.table tables ≡ o → option_map (placed_update u) o ≡ Some (place, parts_of_update b) → UpdateMatches state u place b.rows.keep b.assigned.columns committed pending
    by None is none = absurd (cc)
    by (Some e) is at =
        let pair : placed_update u e ≡ (place, parts_of_update b) = same_Some (placed_update u e) (place, parts_of_update b) at in
        let there : e.0 ≡ place = ap (λ (p : ℕ × (BoundQuery × Assigned)). p.0) pair in
        let trees : bound_update e.0 e.1.columns u ≡ parts_of_update b = ap (λ (p : ℕ × (BoundQuery × Assigned)). p.1) pair in
        let one : slice_get tables place ≡ Some e.1 = subst (λ (n : ℕ). slice_get tables n ≡ Some e.1) there (found_at u.table tables e is) in
        record {
          table = e;
          found = is;
          at = there;
          conditions = ap (λ (p : BoundQuery × Assigned). p.0.keep) (sym trees);
          settings = ap (λ (p : BoundQuery × Assigned). p.1.columns) (sym trees);
          matches = subst (λ (t : Option Table). IsSomeAnd t (λ v. AreMatchesIn b.rows.keep state.database.last (own_changes state) v committed pending)) one are;
        }

zip_at : {X Y : Type 0} (R : X → Y → Type 0) (xs : List X) (ys : List Y) (i : ℕ) (x : X) (y : Y) → AllZip R xs ys → slice_get xs i ≡ Some x → slice_get ys i ≡ Some y → R x y
zip_at R [] ys i x y zip one other = absurd (cc)
zip_at R (a ∷ xs) [] i x y zip one other = absurd (cc)
zip_at R (a ∷ xs) (b ∷ ys) zero x y (here, more) one other = subst (λ (z : _). R z y) (same_Some a x one) (subst (R a) (same_Some b y other) here)
zip_at R (a ∷ xs) (b ∷ ys) (suc i) x y (here, more) one other = zip_at R xs ys i x y more one other

-- the columns of a table at a place, in the catalogue and in the state
pub columns_at : (ts : List kept.Table) (us : List Table) (i : ℕ) (t : kept.Table) (u : Table) → AllZip IsBareTable (map bare_table ts) us → slice_get ts i ≡ Some t → slice_get us i ≡ Some u → t.columns ≡ u.columns
columns_at ts us i t u bare one other =
    (zip_at IsBareTable (map bare_table ts) us i (bare_table t) u bare (slice_get-map bare_table ts i ∙ ap (λ (o : Option kept.Table). option_map bare_table o) one) other).columns

first_front : {X : Type 0} (a b c : Option X) (x : X) → first_of a b ≡ Some x → first_of a (first_of b c) ≡ Some x
first_front None None c x is = absurd (cc)
first_front None (Some y) c x is = is
first_front (Some y) b c x is = is

first_last : {X : Type 0} (a b c : Option X) → first_of a b ≡ None → first_of a (first_of b c) ≡ c
first_last None None c is = refl
first_last None (Some y) c is = absurd (cc)
first_last (Some y) b c is = absurd (cc)

-- behind what it says itself, an UPDATE is refused over its rows
over_rows : (state : State) (u : Update) (e : Found) → update_refusal (columns_found state.database.tables u.table) u ≡ None → table_found u.table state.database.tables ≡ Some e → rows_updated_refusal state u ≡ update_refusal_over state u e
over_rows state u e early found =
    ap (λ (o : Option Refusal). first_of o (option_and_then (update_refusal_over state u) (table_found u.table state.database.tables))) early
    ∙ ap (λ (o : Option Found). option_and_then (update_refusal_over state u) o) found

-- what is known where the rows of an UPDATE were found
pub record Updating (state : State) (u : Update) (frame : State) (place : ℕ) (keep : List Expr) (sets : List (ℕ × Expr)) (committed : List Asked) (pending left : List (List Value)) : Type 0 where
  pub early : update_refusal (columns_found state.database.tables u.table) u ≡ None
  pub matches : UpdateMatches state u place keep sets committed pending
  pub many : length left + (length committed + length pending) ≡ length (rows_left state u matches.table) + length (updated_old u state matches.table)
  pub count : length committed + length pending ≡ length (updated_old u state matches.table)
  pub lock : locked frame u.table true ≡ locked state u.table true
  pub old : SameBag (map (λ a. a.row) committed ++ pending) (updated_old u state matches.table)

pub updating : {D : Type 0} (disk : Ghosts D) (r : Running) (now : D) (state : State) (u : Update) (place : ℕ) (keep : List Expr) (sets : List (ℕ × Expr)) (committed : List Asked) (pending left : List (List Value)) → CountsMatches → RowsMatch → IsState disk r now state
    → update_refusal (columns_found state.database.tables u.table) u ≡ None → UpdateMatches state u place keep sets committed pending → left ≡ others keep (pending_rows u.table (own_of r)) → locked (frame_of r) u.table true ≡ locked state u.table true
    → Updating state u (frame_of r) place keep sets committed pending left
updating disk r now state u place keep sets committed pending left counts rows here early m left_is lock =
    let e = m.table in
    let own = own_changes state in
    let last = state.database.last in
    let alike = own_alike disk r now state here in
    let left_many : length left ≡ length (rows_left state u e) =
    ap (λ (xs : List (List Value)). length xs) left_is
    ∙ bag_length (others keep (pending_rows u.table (own_of r))) (others keep (pending_rows u.table own)) (bag_filter (λ row. not (is_kept keep row)) (pending_rows u.table (own_of r)) (pending_rows u.table own) (pending_alike u.table (own_of r) own alike))
    ∙ ap (λ (k : List Expr). length (others k (pending_rows u.table own))) m.conditions in
    let matched_many : length committed + length pending ≡ length (updated_old u state e) =
    counts keep last own e.1 committed pending m.matches ∙ ap (λ (k : List Expr). length (matched_rows k own last e.1)) m.conditions in
    record {
      early = early;
      matches = m;
      many = ap₂ (λ (x y : ℕ). x + y) left_many matched_many;
      count = matched_many;
      lock = lock;
      old = subst (λ (k : List Expr). SameBag (map (λ a. a.row) committed ++ pending) (matched_rows k own last e.1)) m.conditions (rows keep last own e.1 committed pending m.matches);
    }

-- what is refused of rows, and what is made of them, doesn't depend on their order
abbrev pub BagRefuses : Type 0
BagRefuses = (sets : List (ℕ × Expr)) (columns : List Column) (rows others : List (List Value)) → SameBag rows others → pairs_refusal (all_pairs sets rows columns) ≡ pairs_refusal (all_pairs sets others columns)

abbrev pub BagMakes : Type 0
BagMakes = (sets : List (ℕ × Expr)) (rows others : List (List Value)) → SameBag rows others → SameBag (map (set_row sets) rows) (map (set_row sets) others)

module _ (state : State) (u : Update) (frame : State) (place : ℕ) (keep : List Expr) (sets : List (ℕ × Expr)) (committed : List Asked) (pending left : List (List Value)) (known : Updating state u frame place keep sets committed pending left) where
  abbrev table : Found
  table = known.matches.table

  abbrev limit : Option Refusal
  limit = rows_limit (length (rows_left state u table) + length (updated_old u state table))

  abbrev lock : Option Refusal
  lock = locked state u.table true

  abbrev values : Option Refusal
  values = pairs_refusal (all_pairs (update_sets u table) (updated_old u state table) table.1.columns)

  -- the limit and the lock, as they are looked at
  looked_at : (o : Option Refusal) → o ≡ first_of (rows_limit (length left + (length committed + length pending))) (locked frame u.table true) → first_of limit lock ≡ o
  looked_at o is = sym (is ∙ ap₂ (λ (n : ℕ) (l : Option Refusal). first_of (rows_limit n) l) known.many known.lock)

  pub early_refused : (why : Refusal) → Some why ≡ first_of (rows_limit (length left + (length committed + length pending))) (locked frame u.table true) → rows_updated_refusal state u ≡ Some why
  early_refused why is = over_rows state u table known.early known.matches.found ∙ first_front limit lock values why (looked_at (Some why) is)

  -- what is set, as it is looked at over the matched rows in the order in which they were found
  pub values_same : (columns : List Column) → columns ≡ table.1.columns → BagRefuses → pairs_refusal (all_pairs sets (map (λ a. a.row) committed ++ pending) columns) ≡ values
  values_same columns same bag =
      ap₂ (λ (ss : List (ℕ × Expr)) (cs : List Column). pairs_refusal (all_pairs ss (map (λ a. a.row) committed ++ pending) cs)) known.matches.settings same
      ∙ bag (update_sets u table) table.1.columns (map (λ a. a.row) committed ++ pending) (updated_old u state table) known.old

  pub behind_values : None ≡ first_of (rows_limit (length left + (length committed + length pending))) (locked frame u.table true) → rows_updated_refusal state u ≡ values
  behind_values is = over_rows state u table known.early known.matches.found ∙ first_last limit lock values (looked_at None is)

abbrev update_text : ℕ → List ℕ
update_text n = counted_line (codes "UPDATE ") n

pub updated_holds : {D E : Type 0} (disk : Ghosts D) (files : Files) (u : Update) (r : Running) (now : D) (a : Answer) (state : State) (place : ℕ) (keep : List Expr) (sets : List (ℕ × Expr)) (committed : List Asked) (pending left made rows : List (List Value))
    → Updating state u (frame_of r) place keep sets committed pending left → ChangesStand disk → BagMakes → (rows_updated_refusal state u ≡ None → IsSound state → IsSound (on_table u.table (rows_updated u state) state))
    → Says (counted_line (codes "UPDATE ") (length committed + length pending)) a → IsState disk r now state → rows_updated_refusal state u ≡ None → left ≡ others keep (pending_rows u.table (own_of r)) → made ≡ map (set_row sets) (map (λ a. a.row) committed ++ pending) → rows ≡ left ++ made
    → Holds {E = E} disk files (Statement.Update u) (with_marked u.table rows committed r) now (Ok a) state
updated_holds {D} {E} disk files u r now a state place keep sets committed pending left made rows known stand bag sound says here accepted left_is made_is rows_are =
    let m = known.matches in
    let e = m.table in
    let tables = state.database.tables in
    let own = own_changes state in
    let last = state.database.last in
    let old = map (λ (x : Asked). x.row) committed ++ pending in
    let named = found_named u.table tables e m.found in
    let whole : on_table u.table (rows_updated u state) state ≡ rows_updated u state e = ap (λ (o : Option Found). option_map_or (rows_updated u state) o state) m.found in
    let many : length committed + length pending ≡ on_found (table_found u.table tables) (λ f. length (updated_old u state f)) =
    known.count ∙ sym (ap (λ (o : Option Found). option_map_or (λ f. length (updated_old u state f)) o 0) m.found) in
    let rest : left ≡ others (update_keep u e) (pending_rows e.1.name (own_of r)) =
    left_is ∙ ap (λ (k : List Expr). others k (pending_rows u.table (own_of r))) m.conditions ∙ ap (λ (n : List ℕ). others (update_keep u e) (pending_rows n (own_of r))) (sym named) in
    let gone : SameBag committed (committed_matches (update_keep u e) last own e.1) = subst (λ (k : List Expr). SameBag committed (committed_matches k last own e.1)) m.conditions m.matches.committed_are in
    let news : SameBag made (updated_new u state e) =
    subst (λ (xs : List (List Value)). SameBag xs (updated_new u state e)) (sym (made_is ∙ ap (λ (ss : List (ℕ × Expr)). map (set_row ss) old) m.settings)) (bag (update_sets u e) old (updated_old u state e) known.old) in
    let there = stand now r state (update_keep u e) e.1 left made (updated_new u state e) committed here rest news gone (subst IsSound whole (sound accepted here.sound)) in
    let marked : IsState disk (with_marked u.table rows committed r) now (rows_updated u state e) =
    subst (λ (n : List ℕ). IsState disk (with_marked n rows committed r) now (rows_updated u state e)) named
    (subst (λ (xs : List (List Value)). IsState disk (with_marked e.1.name xs committed r) now (rows_updated u state e)) (sym rows_are) there) in
    said_holds disk files (Statement.Update u) (with_marked u.table rows committed r) now a state (rows_updated u state e) (update_text (length committed + length pending)) says
    (record { decided = sym accepted; effect = (ap update_text many, sym whole) }) marked

-- the columns that are set are columns of the table at its place
pub set_places : (r : Running) (u : Update) (place : ℕ) (b : BoundUpdate) → IsPlanned (frame_of r) (Statement.Update u) (Plan.Update place b) → IsSomeAnd (slice_get r.seen.catalogue.tables place) (λ t. All (λ s. s.0 < length t.columns) b.assigned.columns)
set_places r u place b planned = by (table_found u.table (map bare_table ts)) refl planned.of.trees
  where
    ts : List kept.Table
    ts = r.seen.catalogue.tables

    at_place : (o : Option kept.Table) (e : Found) → option_map bare_table o ≡ Some e.1 → All (λ s. s.0 < length e.1.columns) b.assigned.columns → IsSomeAnd o (λ t. All (λ s. s.0 < length t.columns) b.assigned.columns)
    at_place None e is all = absurd (cc)
    at_place (Some t) e is all =
        let same : bare_table t ≡ e.1 = same_Some (bare_table t) e.1 is in
        subst (λ (cs : List Column). All (λ s. s.0 < length cs) b.assigned.columns) (sym (ap (λ (x : Table). x.columns) same)) all

    by : (o : Option Found) → table_found u.table (map bare_table ts) ≡ o → option_map (placed_update u) o ≡ Some (place, parts_of_update b) → IsSomeAnd (slice_get ts place) (λ t. All (λ s. s.0 < length t.columns) b.assigned.columns)
    by None is none = absurd (cc)
    by (Some e) is at =
        let pair : placed_update u e ≡ (place, parts_of_update b) = same_Some (placed_update u e) (place, parts_of_update b) at in
        let there : e.0 ≡ place = ap (λ (p : ℕ × (BoundQuery × Assigned)). p.0) pair in
        let trees : bound_update e.0 e.1.columns u ≡ parts_of_update b = ap (λ (p : ℕ × (BoundQuery × Assigned)). p.1) pair in
        let one : slice_get (map bare_table ts) place ≡ Some e.1 = subst (λ (n : ℕ). slice_get (map bare_table ts) n ≡ Some e.1) there (found_at u.table (map bare_table ts) e is) in
        let early : update_refusal (Some e.1.columns) u ≡ None = ap (λ (o : Option Found). update_refusal (option_map (λ f. f.1.columns) o) u) (sym is) ∙ planned.accepted in
        at_place (slice_get ts place) e (sym (slice_get-map bare_table ts place) ∙ one)
        (subst (λ (ss : List (ℕ × Expr)). All (λ s. s.0 < length e.1.columns) ss) (ap (λ (p : BoundQuery × Assigned). p.1.columns) trees) (places_there e.1.columns u early))

-- a table that stands at a place
pub stands_there : (ts : List kept.Table) (place : ℕ) (P : kept.Table → Type 0) → IsSomeAnd (slice_get ts place) P → (t : kept.Table) × (slice_get ts place ≡ Some t)
stands_there ts place P is = by (slice_get ts place) refl is
  where
    by : (o : Option kept.Table) → slice_get ts place ≡ o → IsSomeAnd o P → (t : kept.Table) × (slice_get ts place ≡ Some t)
    by None at none = absurd none
    by (Some t) at there = (t, at)

-- the columns of an UPDATE's table, in the catalogue and in the state
pub updated_columns : (ts : List kept.Table) (state : State) (u : Update) (place : ℕ) (keep : List Expr) (sets : List (ℕ × Expr)) (committed : List Asked) (pending : List (List Value)) (t : kept.Table) → UpdateMatches state u place keep sets committed pending → (e : Found)
    → table_found u.table state.database.tables ≡ Some e → e.0 ≡ place → AllZip IsBareTable (map bare_table ts) state.database.tables → slice_get ts place ≡ Some t → t.columns ≡ e.1.columns
updated_columns ts state u place keep sets committed pending t m e found at bare there =
    columns_at ts state.database.tables place t e.1 bare there (subst (λ (n : ℕ). slice_get state.database.tables n ≡ Some e.1) at (found_at u.table state.database.tables e found))
