-- A session that marks rows of a table, and makes others pending there.
use Rattle.std.proofs.Common.{◌≡◌, ◌-◌, ℕ, ◌+◌, ◌++◌, Bool, true, false, cond, List, [], ◌∷◌, get_or, filter, Some, None, refl, sym, ◌∙◌, ap, subst}
use Rattle.std.specs.Prelude.{not, bytes_eq, find}
use Rattle.std.specs.List.{All, AllPairs, enumerate_from}
use Rattle.std.proofs.lemmas.Option.{same_Some}
use Rattle.std.proofs.lemmas.List.Elements.{All-head, All-tail, All-cons, All-nil, All-append, All-contains, All-filter}
use Rattle.std.proofs.lemmas.List.Kept.{AllPairs-cons}
use Rattle.std.proofs.lemmas.Slice.Eq.{bytes_eq-Decides}
use Rattle.col_value.specs.declared.row.Asked.{Asked}
use Rattle.col_value.specs.declared.value.Value.{Value}
use Rattle.row_history.specs.History.{Within}
use Rattle.sql_bound.specs.declared.expr.Expr.{Expr}
use Rattle.sql_bound.specs.Outputs.{is_kept}
use Rattle.db_model.specs.Database.{Database, Table, table_named}
use Rattle.db_model.specs.State.{State, Changes, own_changes, pending_deletes}
use Rattle.db_model.specs.Events.{marked_changes, untouched, change_of, rows_marked}
use Rattle.db_model.specs.Refusals.{locked}
use Rattle.db_model.specs.Sound.{RowFits, ChangesFit, IsSoundTable, IsSoundSession, GoTogether, IsSound}
use Rattle.db_model.specs.Views.{table_found, committed_view}
use Rattle.sound_laws.proofs.Pairs.{pairs_none, pairs_head, pairs_tail}
use Rattle.sound_laws.proofs.Created.{Differ}
use Rattle.sound_laws.proofs.Changes.{all_within}
use Rattle.state_laws.proofs.Places.{AllBut, but_all}
use Rattle.state_laws.proofs.Held.{none_excludes, none_held, GoesWith, each_goes, all_go}
use Rattle.state_laws.proofs.Events.{own_sound, own_with, own_is_sound}
use Rattle.change_laws.proofs.Undeleted.{marks_within}

-- ---- a table that is found

-- it is the one of its name
pub found_named : (name : List ℕ) (ts : List Table) (e : ℕ × Table) → table_found name ts ≡ Some e → table_named name ts ≡ Some e.1
found_named name ts e found = from 0 ts found
  where
    from : (n : ℕ) (us : List Table) → find (λ x. bytes_eq x.1.name name) (enumerate_from n us) ≡ Some e → table_named name us ≡ Some e.1
    from n [] none = absurd (cc)
    from n (u ∷ us) some = by (bytes_eq u.name name) (λ rest. from (n + 1) us rest) some
      where
        by : (b : Bool) → (find (λ x. bytes_eq x.1.name name) (enumerate_from (n + 1) us) ≡ Some e → table_named name us ≡ Some e.1)
            → cond b (Some (n, u)) (find (λ x. bytes_eq x.1.name name) (enumerate_from (n + 1) us)) ≡ Some e → cond b (Some u) (table_named name us) ≡ Some e.1
        by true more here = ap (λ (x : ℕ × Table). Some x.1) (same_Some (n, u) e here)
        by false more rest = more rest

-- one of a sound database is sound
pub named_sound : (P : Table → Type 0) (name : List ℕ) (ts : List Table) (t : Table) → All P ts → table_named name ts ≡ Some t → P t
named_sound P name [] t all none = absurd (cc)
named_sound P name (u ∷ us) t all there = by (bytes_eq u.name name) (λ rest. named_sound P name us t (All-tail P u us all) rest) there
  where
    by : (b : Bool) → (table_named name us ≡ Some t → P t) → cond b (Some u) (table_named name us) ≡ Some t → P t
    by true more here = subst P (same_Some u t here) (All-head P u us all)
    by false more rest = more rest

-- ---- the changes of the session

-- the rows that are seen on which the condition is true
abbrev pub kept_of : List Expr → List Asked → List Asked
kept_of keep seen = filter (λ a. is_kept keep a.row) seen

marked_fits : (d : Database) (t : Table) (keep : List Expr) (seen : List Asked) (rows : List (List Value)) (c : Changes) → c.table ≡ t.name → table_named t.name d.tables ≡ Some t → All (RowFits t.columns) rows → All (RowFits t.columns) c.rows
    → Within (c.deletes ++ kept_of keep seen) t.rows → ChangesFit d (marked_changes keep seen rows c)
marked_fits d t keep seen rows c same there fit old within = record {
  table = t;
  there = ap (λ (n : List ℕ). table_named n d.tables) same ∙ there;
  rows = All-append (RowFits t.columns) (filter (λ row. not (is_kept keep row)) c.rows) rows (All-filter (λ row. not (is_kept keep row)) (RowFits t.columns) c.rows old) fit;
  deletes = within;
  shared = λ is. absurd (cc);
}

-- the pending rows of changes in a table fit its columns
own_rows : (d : Database) (t : Table) (c : Changes) → c.table ≡ t.name → table_named t.name d.tables ≡ Some t → ChangesFit d c → All (RowFits t.columns) c.rows
own_rows d t c same there fit =
    let table : fit.table ≡ t = same_Some fit.table t (sym fit.there ∙ ap (λ (n : List ℕ). table_named n d.tables) same ∙ there) in
    subst (λ (x : Table). All (RowFits x.columns) c.rows) table fit.rows

marked_each : (d : Database) (t : Table) (keep : List Expr) (seen : List Asked) (rows : List (List Value)) → table_named t.name d.tables ≡ Some t → All (RowFits t.columns) rows
    → (changes : List Changes) → Within (pending_deletes t.name changes ++ kept_of keep seen) t.rows → All (ChangesFit d) changes → All (ChangesFit d) (change_of t.name (marked_changes keep seen rows) changes)
marked_each d t keep seen rows there fit [] within all =
    let new = marked_changes keep seen rows (untouched t.name) in
    All-cons (ChangesFit d) new [] (marked_fits d t keep seen rows (untouched t.name) refl there fit (All-nil (RowFits t.columns)) within) (All-nil (ChangesFit d))
marked_each d t keep seen rows there fit (c ∷ changes) within all = by (bytes_eq c.table t.name) refl within (λ rest. marked_each d t keep seen rows there fit changes rest (All-tail (ChangesFit d) c changes all))
  where
    first : ChangesFit d c
    first = All-head (ChangesFit d) c changes all

    by : (b : Bool) → bytes_eq c.table t.name ≡ b → Within (cond b c.deletes (pending_deletes t.name changes) ++ kept_of keep seen) t.rows
        → (Within (pending_deletes t.name changes ++ kept_of keep seen) t.rows → All (ChangesFit d) (change_of t.name (marked_changes keep seen rows) changes))
        → All (ChangesFit d) (cond b (marked_changes keep seen rows c ∷ changes) (c ∷ change_of t.name (marked_changes keep seen rows) changes))
    by true is own more =
        let same : c.table ≡ t.name = (bytes_eq-Decides c.table t.name).0 is in
        All-cons (ChangesFit d) (marked_changes keep seen rows c) changes (marked_fits d t keep seen rows c same there fit (own_rows d t c same there first) own) (All-tail (ChangesFit d) c changes all)
    by false is own more = All-cons (ChangesFit d) c (change_of t.name (marked_changes keep seen rows) changes) first (more own)

-- what holds of the names and modes of changes, and of the table in mode X, holds where rows of the table are marked
rows_mark : (P : List ℕ → Bool → Type 0) (name : List ℕ) (keep : List Expr) (seen : List Asked) (rows : List (List Value)) → ((n : List ℕ) → n ≡ name → P n true)
    → (changes : List Changes) → All (λ c. P c.table c.exclusive) changes → All (λ c. P c.table c.exclusive) (change_of name (marked_changes keep seen rows) changes)
rows_mark P name keep seen rows here [] all =
    All-cons (λ c. P c.table c.exclusive) (marked_changes keep seen rows (untouched name)) [] (here name refl) (All-nil (λ c. P c.table c.exclusive))
rows_mark P name keep seen rows here (c ∷ changes) all = by (bytes_eq c.table name) refl (rows_mark P name keep seen rows here changes (All-tail (λ x. P x.table x.exclusive) c changes all))
  where
    by : (b : Bool) → bytes_eq c.table name ≡ b → All (λ x. P x.table x.exclusive) (change_of name (marked_changes keep seen rows) changes)
        → All (λ x. P x.table x.exclusive) (cond b (marked_changes keep seen rows c ∷ changes) (c ∷ change_of name (marked_changes keep seen rows) changes))
    by true is rest =
        All-cons (λ x. P x.table x.exclusive) (marked_changes keep seen rows c) changes (here c.table ((bytes_eq-Decides c.table name).0 is)) (All-tail (λ x. P x.table x.exclusive) c changes all)
    by false is rest = All-cons (λ x. P x.table x.exclusive) c (change_of name (marked_changes keep seen rows) changes) (All-head (λ x. P x.table x.exclusive) c changes all) rest

-- changes in two tables
abbrev OtherTable : Changes → Changes → Type 0
OtherTable c e = bytes_eq c.table e.table ≡ false

marked_once : (name : List ℕ) (keep : List Expr) (seen : List Asked) (rows : List (List Value)) (changes : List Changes) → AllPairs OtherTable changes → AllPairs OtherTable (change_of name (marked_changes keep seen rows) changes)
marked_once name keep seen rows [] once =
    let new = marked_changes keep seen rows (untouched name) in
    AllPairs-cons OtherTable new [] (All-nil (OtherTable new)) (pairs_none OtherTable)
marked_once name keep seen rows (c ∷ changes) once = by (bytes_eq c.table name) refl (marked_once name keep seen rows changes (pairs_tail OtherTable c changes once))
  where
    by : (b : Bool) → bytes_eq c.table name ≡ b → AllPairs OtherTable (change_of name (marked_changes keep seen rows) changes)
        → AllPairs OtherTable (cond b (marked_changes keep seen rows c ∷ changes) (c ∷ change_of name (marked_changes keep seen rows) changes))
    by true is rest = AllPairs-cons OtherTable (marked_changes keep seen rows c) changes (pairs_head OtherTable c changes once) (pairs_tail OtherTable c changes once)
    by false is rest =
        AllPairs-cons OtherTable c (change_of name (marked_changes keep seen rows) changes)
        (rows_mark (λ n b. bytes_eq c.table n ≡ false) name keep seen rows (λ n same. subst (λ (m : List ℕ). bytes_eq c.table m ≡ false) (sym same) is) changes (pairs_head OtherTable c changes once)) rest

-- ---- the state

pub marked_state : (state : State) (t : Table) (keep : List Expr) (rows : List (List Value)) → table_named t.name state.database.tables ≡ Some t → All (RowFits t.columns) rows → locked state t.name true ≡ None → IsSound state
    → IsSound (rows_marked keep rows t state)
marked_state state t keep rows there fit free sound =
    own_sound state d (change_of t.name (marked_changes keep seen rows) own) sound.asked sound.database
    (record { each = marked_each d t keep seen rows there fit own within session.each; once = marked_once t.name keep seen rows own session.once })
    (but_all (IsSoundSession d) (state.current - 1) state.sessions sound.sessions) goes sound
  where
    d : Database
    d = state.database

    own : List Changes
    own = own_changes state

    seen : List Asked
    seen = committed_view d.last own t

    session : IsSoundSession d own
    session = own_is_sound state sound

    table : IsSoundTable d t
    table = named_sound (IsSoundTable d) t.name d.tables t sound.database.tables there

    within : Within (pending_deletes t.name own ++ kept_of keep seen) t.rows
    within =
        let one = all_within d own (t ∷ []) (All-cons (λ u. table_named u.name d.tables ≡ Some u) t [] there (All-nil (λ u. table_named u.name d.tables ≡ Some u))) session.each in
        marks_within d.last (pending_deletes t.name own) t.rows (λ a. is_kept keep a.row) table.epochs (All-head (λ u. Within (pending_deletes u.name own) u.rows) t [] one)

    goes : AllBut (GoTogether (change_of t.name (marked_changes keep seen rows) own)) (state.current - 1) state.sessions
    goes i x lt at =
        let other = get_or state.sessions i x in
        let apart : All (λ c. Differ c.table t.name) other = none_held t.name other (none_excludes state t.name true sound.first free i x lt at) in
        all_go (change_of t.name (marked_changes keep seen rows) own) other
        (rows_mark (GoesWith other) t.name keep seen rows (alone other apart) own (each_goes own other (own_with state sound i x lt at)))
      where
        alone : (other : List Changes) → All (λ c. Differ c.table t.name) other → (n : List ℕ) → n ≡ t.name → GoesWith other n true
        alone other apart n same e in_other at_e =
            let off : bytes_eq e.table t.name ≡ false = All-contains (λ c. Differ c.table t.name) other e apart in_other in
            let on : bytes_eq e.table t.name ≡ true = (bytes_eq-Decides e.table t.name).1 (sym at_e ∙ same) in
            absurd (cc)
