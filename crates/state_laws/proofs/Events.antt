-- A sound state stays sound in each event.
use Rattle.std.proofs.Common.{◌≡◌, ◌-◌, ◌≤◌, ◌<◌, ℕ, zero, suc, ◌⊎◌, inl, inr, Bool, true, false, cond, List, [], ◌∷◌, length, get_or, filter, refl, sym, ◌∙◌, ap, subst, arith}
use Rattle.std.specs.Prelude.{not, bytes_eq, Option, Some, None, option_map}
use Rattle.std.specs.List.{All, AllPairs}
use Rattle.std.proofs.lemmas.List.{length-set}
use Rattle.std.proofs.lemmas.List.Elements.{All-head, All-tail, All-cons, All-nil, All-append, All-filter, filter_passes, All-weaker, All-contains}
use Rattle.std.proofs.lemmas.List.Kept.{AllPairs-cons}
use Rattle.std.proofs.lemmas.Slice.Eq.{bytes_eq-Decides}
use Rattle.common_laws.proofs.BagLaws.{bag_refl}
use Rattle.col_value.specs.declared.value.Value.{Value}
use Rattle.col_value.specs.declared.column.Column.{Column}
use Rattle.sql_tree.specs.declared.refusal.Refusal.{Refusal}
use Rattle.sql_binding.specs.Firsts.{first_of}
use Rattle.db_model.specs.Database.{Database, Table, table_named, put_table, is_taken, super_name}
use Rattle.db_model.specs.State.{State, Changes, own_changes, with_changes, with_rows, joined}
use Rattle.db_model.specs.Events.{empty_table, table_created, table_dropped, rows_pending, changes_dropped, is_not_named, is_of_table}
use Rattle.db_model.specs.Numbers.{IsDrawn, spent_refusal}
use Rattle.db_model.specs.Refusing.{if_taken, repeated_behind, create_limit, taken_name, create_refusal}
use Rattle.db_model.specs.Refusals.{table_created_refusal, table_dropped_refusal, unknown_table_refusal, locked}
use Rattle.db_model.specs.Sound.{RowFits, ChangesFit, IsSoundDatabase, IsSoundSession, GoTogether, IsStale, IsSound}
use Rattle.sound_laws.proofs.Pairs.{pairs_none, pairs_head, pairs_tail}
use Rattle.sound_laws.proofs.Created.{Differ, created_sound}
use Rattle.state_laws.proofs.Dropped.{without_named, dropped_sound}
use Rattle.state_laws.proofs.Places.{AllBut, but_all, set_all_but, set_pairs}
use Rattle.state_laws.proofs.Tables.{free_differs, put_still, without_still}
use Rattle.state_laws.proofs.Stale.{filtered, stale_left, stale_put}
use Rattle.state_laws.proofs.Held.{none_excludes, none_held, none_exclusive, together_turned, none_together, GoesWith, each_goes, all_go, session_over}

abbrev pub no_names : List (List ℕ)
no_names = []

-- ---- the numbers of the storage

pub drawn_sound : (old made new : State) → IsDrawn old made new → IsSound made → IsSound new
drawn_sound old made new drawn sound = subst IsSound (sym drawn.same) (numbered made new.next new.parts sound)
  where
    numbered : (s : State) (next parts : ℕ) → IsSound s → IsSound (record s { next = next; parts = parts })
    numbered s next parts is = record {
      database = is.database;
      eight = is.eight;
      first = is.first;
      current = is.current;
      sessions = is.sessions;
      apart = is.apart;
      asked = is.asked;
    }

-- ---- another database

-- a database in the place of a state's, which the changes of all sessions fit, and in which what is asked for isn't up to date
pub database_sound : (state : State) (e : Database) → All (IsStale e) state.asked → ((c : Changes) → ChangesFit state.database c → ChangesFit e c) → IsSoundDatabase e → IsSound state → IsSound (record state { database = e })
database_sound state e asked keeps other sound = record {
  database = other;
  eight = sound.eight;
  first = sound.first;
  current = sound.current;
  sessions = All-weaker (IsSoundSession state.database) (IsSoundSession e) (λ changes is. session_over state.database e changes keeps is) state.sessions sound.sessions;
  apart = sound.apart;
  asked = asked;
}

-- fewer projections are asked for
pub fewer_asked : (state : State) (p : List ℕ → Bool) → IsSound state → IsSound (record state { asked = filter p state.asked })
fewer_asked state p sound = record {
  database = sound.database;
  eight = sound.eight;
  first = sound.first;
  current = sound.current;
  sessions = sound.sessions;
  apart = sound.apart;
  asked = All-filter p (IsStale state.database) state.asked sound.asked;
}

-- ---- CREATE TABLE

pub first_none : {X : Type 0} (a b : Option X) → first_of a b ≡ None → (a ≡ None) × (b ≡ None)
first_none None b is = (refl, is)
first_none (Some x) b is = absurd (cc)

pub none_taken : (tables : List Table) (name : List ℕ) → if_taken tables name ≡ None → is_taken name tables ≡ false
none_taken tables name is = by (is_taken name tables) is
  where
    by : (b : Bool) → cond b (Some name) None ≡ None → b ≡ false
    by true some = absurd (cc)
    by false none = refl

pub no_existing : (o : Option (List ℕ)) → option_map Refusal.Exists o ≡ None → o ≡ None
no_existing None is = refl
no_existing (Some n) is = absurd (cc)

pub names_free : (state : State) (name : List ℕ) (columns : List Column) → table_created_refusal state name columns ≡ None
    → (is_taken name state.database.tables ≡ false) × (is_taken (super_name name) state.database.tables ≡ false)
names_free state name columns free =
    let tables = state.database.tables in
    let whole = first_none (create_refusal tables name columns) (spent_refusal state) free in
    let exists = first_none (option_map Refusal.Exists (taken_name tables name columns)) (create_limit tables name columns) whole.0 in
    let names = first_none (if_taken tables name) (first_of (if_taken tables (super_name name)) (repeated_behind no_names columns)) (no_existing (taken_name tables name columns) exists.0) in
    let others = first_none (if_taken tables (super_name name)) (repeated_behind no_names columns) names.1 in
    (none_taken tables name names.0, none_taken tables (super_name name) others.0)

created_fit : (d : Database) (t : Table) → is_taken t.name d.tables ≡ false → (c : Changes) → ChangesFit d c → ChangesFit (record d { tables = put_table t d.tables }) c
created_fit d t free c fit = record {
  table = fit.table;
  there = put_still c.table t d.tables (free_differs t.name c.table d.tables fit.table free fit.there) ∙ fit.there;
  rows = fit.rows;
  deletes = fit.deletes;
  shared = fit.shared;
}

pub created_state : (state : State) (name : List ℕ) (columns : List Column) → table_created_refusal state name columns ≡ None → IsSound state → IsSound (table_created name columns state)
created_state state name columns free sound =
    let d = state.database in
    let names = names_free state name columns free in
    let t = empty_table name columns d.last in
    database_sound state (record d { tables = put_table t d.tables }) (All-weaker (IsStale d) (IsStale (record d { tables = put_table t d.tables })) (stale_put d t) state.asked sound.asked) (created_fit d (empty_table name columns d.last) names.0)
    (created_sound d name columns names.0 names.1 sound.database) sound

-- ---- a session's changes in the place of others

-- where the other sessions are sound over a database, and the new changes go with each
pub own_sound : (state : State) (e : Database) (changes : List Changes) → All (IsStale e) state.asked → IsSoundDatabase e → IsSoundSession e changes
    → AllBut (IsSoundSession e) (state.current - 1) state.sessions → AllBut (GoTogether changes) (state.current - 1) state.sessions → IsSound state
    → IsSound (with_changes changes (record state { database = e }))
own_sound state e changes asked other own rest go sound = record {
  database = other;
  eight = length-set state.sessions (state.current - 1) changes ∙ sound.eight;
  first = sound.first;
  current = sound.current;
  sessions = set_all_but (IsSoundSession e) state.sessions (state.current - 1) changes own rest;
  apart =
      set_pairs GoTogether state.sessions (state.current - 1) changes sound.apart
      (λ i d lt at. together_turned changes (get_or state.sessions i d) (go i d lt (λ is. omega (arith, at, is))))
      (λ i d lt at. go i d lt (λ is. omega (arith, at, is)));
  asked = asked;
}

-- changes in two tables
abbrev OtherTable : Changes → Changes → Type 0
OtherTable c e = bytes_eq c.table e.table ≡ false

pub no_changes : (d : Database) → IsSoundSession d []
no_changes d = record { each = All-nil (ChangesFit d); once = pairs_none OtherTable }

-- ROLLBACK
pub dropped_changes : (state : State) → IsSound state → IsSound (changes_dropped state)
dropped_changes state sound =
    own_sound state state.database [] sound.asked sound.database (no_changes state.database) (but_all (IsSoundSession state.database) (state.current - 1) state.sessions sound.sessions)
    (λ i d lt other. none_together (get_or state.sessions i d)) sound

-- another session is the current one
pub current_sound : (state : State) (n : ℕ) → 1 ≤ n → n ≤ 8 → IsSound state → IsSound (record state { current = n })
current_sound state n first last sound = record {
  database = sound.database;
  eight = sound.eight;
  first = first;
  current = last;
  sessions = sound.sessions;
  apart = sound.apart;
  asked = sound.asked;
}

either_way : (m n : ℕ) → (m ≤ n) ⊎ (n < m)
either_way m n = grind arith

same_or_less : (m n : ℕ) → m ≤ n → (m ≡ n) ⊎ (m < n)
same_or_less m n le = grind arith

less_or_more : (m n : ℕ) → (m ≡ n → ⊥) → (m < n) ⊎ (n < m)
less_or_more m n off = by (either_way m n)
  where
    than : (m ≡ n) ⊎ (m < n) → (m < n) ⊎ (n < m)
    than (inl same) = absurd (off same)
    than (inr lt) = inl lt

    by : (m ≤ n) ⊎ (n < m) → (m < n) ⊎ (n < m)
    by (inl le) = than (same_or_less m n le)
    by (inr lt) = inr lt

-- the current session and each other go together
pub own_with : (state : State) → IsSound state → AllBut (GoTogether (own_changes state)) (state.current - 1) state.sessions
own_with state sound i d lt other = by (less_or_more i (state.current - 1) other)
  where
    place : state.current - 1 < length state.sessions
    place = let eight = sound.eight in let first = sound.first in let last = sound.current in omega (arith, eight, first, last)

    at : (xs : List (List Changes)) (k : ℕ) (x y : List Changes) → k < length xs → get_or xs k x ≡ get_or xs k y
    at [] k x y below = absurd (omega (arith, below))
    at (z ∷ zs) zero x y below = refl
    at (z ∷ zs) (suc k) x y below = at zs k x y (omega (arith, below))

    by : (i < state.current - 1) ⊎ (state.current - 1 < i) → GoTogether (own_changes state) (get_or state.sessions i d)
    by (inl before) =
        subst (λ (own : List Changes). GoTogether own (get_or state.sessions i d)) (at state.sessions (state.current - 1) d [] place)
        (together_turned (get_or state.sessions i d) (get_or state.sessions (state.current - 1) d) (sound.apart i (state.current - 1) d before place))
    by (inr behind) =
        subst (λ (own : List Changes). GoTogether own (get_or state.sessions i d)) (at state.sessions (state.current - 1) d [] place) (sound.apart (state.current - 1) i d behind lt)

pub own_is_sound : (state : State) → IsSound state → IsSoundSession state.database (own_changes state)
own_is_sound state sound = let eight = sound.eight in let first = sound.first in let last = sound.current in sound.sessions (state.current - 1) [] (omega (arith, eight, first, last))

-- ---- DROP TABLE

dropped_fit : (d : Database) (name : List ℕ) (c : Changes) → Differ c.table name → ChangesFit d c → ChangesFit (record d { tables = filter (λ t. is_not_named name t.name) d.tables }) c
dropped_fit d name c other fit = record {
  table = fit.table;
  there = without_still name c.table d.tables other ∙ fit.there;
  rows = fit.rows;
  deletes = fit.deletes;
  shared = fit.shared;
}

dropped_session : (d : Database) (name : List ℕ) (changes : List Changes) → All (λ c. Differ c.table name) changes → IsSoundSession d changes → IsSoundSession (record d { tables = filter (λ t. is_not_named name t.name) d.tables }) changes
dropped_session d name changes apart sound = record {
  each = λ i x lt. dropped_fit d name (get_or changes i x) (apart i x lt) (sound.each i x lt);
  once = sound.once;
}

not_named : (name other : List ℕ) → is_not_named name other ≡ true → Differ other name
not_named name other is = by (bytes_eq other name) is
  where
    by : (b : Bool) → not b ≡ true → b ≡ false
    by true on = absurd (cc)
    by false off = refl

kept_once : (p : Changes → Bool) (changes : List Changes) → AllPairs (λ c e. bytes_eq c.table e.table ≡ false) changes → AllPairs (λ c e. bytes_eq c.table e.table ≡ false) (filter p changes)
kept_once p [] once = pairs_none OtherTable
kept_once p (c ∷ changes) once = by (p c) (kept_once p changes (pairs_tail (λ x e. bytes_eq x.table e.table ≡ false) c changes once))
  where
    by : (b : Bool) → AllPairs (λ x e. bytes_eq x.table e.table ≡ false) (filter p changes) → AllPairs (λ x e. bytes_eq x.table e.table ≡ false) (cond b (c ∷ filter p changes) (filter p changes))
    by true rest =
        AllPairs-cons (λ x e. bytes_eq x.table e.table ≡ false) c (filter p changes)
        (All-filter p (λ e. bytes_eq c.table e.table ≡ false) changes (pairs_head (λ x e. bytes_eq x.table e.table ≡ false) c changes once)) rest
    by false rest = rest

-- fewer changes go with what a session holds
fewer_go : (p : Changes → Bool) (one other : List Changes) → GoTogether one other → GoTogether (filter p one) other
fewer_go p one other go = all_go (filter p one) other (All-filter p (λ c. GoesWith other c.table c.exclusive) one (each_goes one other go))

-- what is asked for, but for a table's projections
abbrev asked_besides : List ℕ → State → State
asked_besides name state = record state { asked = filter (λ n. not (is_of_table name state.database.tables n)) state.asked }

-- the session's other changes over the other tables
others_left : (state : State) (name : List ℕ) → table_dropped_refusal state name ≡ None → IsSound state
    → IsSound (with_changes (filter (λ c. is_not_named name c.table) (own_changes state)) (record (asked_besides name state) { database = without_named name state.database }))
others_left state name free sound =
    let d = state.database in
    let rest = first_none (unknown_table_refusal state name) (first_of (locked state name true) (spent_refusal state)) free in
    let lock = first_none (locked state name true) (spent_refusal state) rest.1 in
    let p : Changes → Bool = λ c. is_not_named name c.table in
    let own = own_is_sound state sound in
    let gone : All (λ c. Differ c.table name) (filter p (own_changes state)) = All-weaker (λ c. p c ≡ true) (λ c. Differ c.table name) (λ c is. not_named name c.table is) (filter p (own_changes state)) (filter_passes p (own_changes state)) in
    let kept : IsSoundSession d (filter p (own_changes state)) = record { each = All-filter p (ChangesFit d) (own_changes state) own.each; once = kept_once p (own_changes state) own.once } in
    let stale : All (IsStale (without_named name d)) (asked_besides name state).asked =
    filtered (IsStale d) (IsStale (without_named name d)) (λ n. not (is_of_table name d.tables n)) state.asked (λ n passes is. stale_left d name n sound.database passes is) sound.asked in
    own_sound (asked_besides name state) (without_named name d) (filter p (own_changes state)) stale (dropped_sound d name sound.database) (dropped_session d name (filter p (own_changes state)) gone kept)
    (λ i x lt at. dropped_session d name (get_or state.sessions i x) (none_held name (get_or state.sessions i x) (none_excludes state name true sound.first lock.0 i x lt at)) (sound.sessions i x lt))
    (λ i x lt at. fewer_go p (own_changes state) (get_or state.sessions i x) (own_with state sound i x lt at)) (fewer_asked state (λ n. not (is_of_table name d.tables n)) sound)

pub dropped_state : (state : State) (name : List ℕ) → table_dropped_refusal state name ≡ None → IsSound state → IsSound (table_dropped name state)
dropped_state state name free sound =
    let left = others_left state name free sound in
    record {
      database = left.database;
      eight = left.eight;
      first = left.first;
      current = left.current;
      sessions = left.sessions;
      apart = left.apart;
      asked = left.asked;
    }

-- ---- rows that become pending

fits_new : (d : Database) (name : List ℕ) (rows : List (List Value)) (t : Table) → table_named name d.tables ≡ Some t → All (RowFits t.columns) rows → ChangesFit d (record { table = name; exclusive = false; rows = rows; deletes = [] })
fits_new d name rows t there fit = record { table = t; there = there; rows = fit; deletes = (t.rows, bag_refl t.rows); shared = λ is. refl }

fits_joined : (d : Database) (name : List ℕ) (rows : List (List Value)) (t : Table) (c : Changes) → c.table ≡ name → table_named name d.tables ≡ Some t → All (RowFits t.columns) rows → ChangesFit d c → ChangesFit d (joined c rows)
fits_joined d name rows t c same there fit old =
    let both : Some old.table ≡ Some t = sym old.there ∙ ap (λ (n : List ℕ). table_named n d.tables) same ∙ there in
    let table : t ≡ old.table = cc in
    record {
      table = old.table;
      there = old.there;
      rows = All-append (RowFits old.table.columns) c.rows rows old.rows (subst (λ (x : Table). All (RowFits x.columns) rows) table fit);
      deletes = old.deletes;
      shared = old.shared;
    }

joined_each : (d : Database) (name : List ℕ) (rows : List (List Value)) (t : Table) → table_named name d.tables ≡ Some t → All (RowFits t.columns) rows → (changes : List Changes) → All (ChangesFit d) changes → All (ChangesFit d) (with_rows name rows changes)
joined_each d name rows t there fit [] all = All-cons (ChangesFit d) (record { table = name; exclusive = false; rows = rows; deletes = [] }) [] (fits_new d name rows t there fit) (All-nil (ChangesFit d))
joined_each d name rows t there fit (c ∷ changes) all = by (bytes_eq c.table name) refl (joined_each d name rows t there fit changes (All-tail (ChangesFit d) c changes all))
  where
    by : (b : Bool) → bytes_eq c.table name ≡ b → All (ChangesFit d) (with_rows name rows changes) → All (ChangesFit d) (cond b (joined c rows ∷ changes) (c ∷ with_rows name rows changes))
    by true is rest =
        All-cons (ChangesFit d) (joined c rows) changes (fits_joined d name rows t c ((bytes_eq-Decides c.table name).0 is) there fit (All-head (ChangesFit d) c changes all)) (All-tail (ChangesFit d) c changes all)
    by false is rest = All-cons (ChangesFit d) c (with_rows name rows changes) (All-head (ChangesFit d) c changes all) rest

-- what holds of the names and modes of changes holds with rows that join
rows_join : (P : List ℕ → Bool → Type 0) (name : List ℕ) (rows : List (List Value)) → P name false → (changes : List Changes) → All (λ c. P c.table c.exclusive) changes → All (λ c. P c.table c.exclusive) (with_rows name rows changes)
rows_join P name rows here [] all = All-cons (λ c. P c.table c.exclusive) (record { table = name; exclusive = false; rows = rows; deletes = [] }) [] here (All-nil (λ c. P c.table c.exclusive))
rows_join P name rows here (c ∷ changes) all = by (bytes_eq c.table name) (rows_join P name rows here changes (All-tail (λ x. P x.table x.exclusive) c changes all))
  where
    by : (b : Bool) → All (λ x. P x.table x.exclusive) (with_rows name rows changes) → All (λ x. P x.table x.exclusive) (cond b (joined c rows ∷ changes) (c ∷ with_rows name rows changes))
    by true rest = All-cons (λ x. P x.table x.exclusive) (joined c rows) changes (All-head (λ x. P x.table x.exclusive) c changes all) (All-tail (λ x. P x.table x.exclusive) c changes all)
    by false rest = All-cons (λ x. P x.table x.exclusive) c (with_rows name rows changes) (All-head (λ x. P x.table x.exclusive) c changes all) rest

joined_once : (name : List ℕ) (rows : List (List Value)) (changes : List Changes) → AllPairs (λ c e. bytes_eq c.table e.table ≡ false) changes → AllPairs (λ c e. bytes_eq c.table e.table ≡ false) (with_rows name rows changes)
joined_once name rows [] once = AllPairs-cons (λ c e. bytes_eq c.table e.table ≡ false) (record { table = name; exclusive = false; rows = rows; deletes = [] }) [] (All-nil (OtherTable (record { table = name; exclusive = false; rows = rows; deletes = [] }))) (pairs_none OtherTable)
joined_once name rows (c ∷ changes) once = by (bytes_eq c.table name) refl (joined_once name rows changes (pairs_tail (λ x e. bytes_eq x.table e.table ≡ false) c changes once))
  where
    by : (b : Bool) → bytes_eq c.table name ≡ b → AllPairs (λ x e. bytes_eq x.table e.table ≡ false) (with_rows name rows changes)
        → AllPairs (λ x e. bytes_eq x.table e.table ≡ false) (cond b (joined c rows ∷ changes) (c ∷ with_rows name rows changes))
    by true is rest =
        AllPairs-cons (λ x e. bytes_eq x.table e.table ≡ false) (joined c rows) changes (pairs_head (λ x e. bytes_eq x.table e.table ≡ false) c changes once) (pairs_tail (λ x e. bytes_eq x.table e.table ≡ false) c changes once)
    by false is rest =
        AllPairs-cons (λ x e. bytes_eq x.table e.table ≡ false) c (with_rows name rows changes)
        (rows_join (λ n b. bytes_eq c.table n ≡ false) name rows is changes (pairs_head (λ x e. bytes_eq x.table e.table ≡ false) c changes once)) rest

pub pending_state : (state : State) (name : List ℕ) (rows : List (List Value)) (t : Table) → table_named name state.database.tables ≡ Some t → All (RowFits t.columns) rows → locked state name false ≡ None → IsSound state
    → IsSound (rows_pending name rows state)
pending_state state name rows t there fit free sound =
    let d = state.database in
    let own = own_is_sound state sound in
    own_sound state d (with_rows name rows (own_changes state)) sound.asked sound.database
    (record { each = joined_each d name rows t there fit (own_changes state) own.each; once = joined_once name rows (own_changes state) own.once })
    (but_all (IsSoundSession d) (state.current - 1) state.sessions sound.sessions) goes sound
  where
    goes : AllBut (GoTogether (with_rows name rows (own_changes state))) (state.current - 1) state.sessions
    goes i x lt at =
        let other = get_or state.sessions i x in
        let modes : All (λ c. c.table ≡ name → c.exclusive ≡ false) other = none_exclusive name other (sound.sessions i x lt).once (none_excludes state name false sound.first free i x lt at) in
        all_go (with_rows name rows (own_changes state)) other
        (rows_join (GoesWith other) name rows (λ e in_other same. All-contains (λ c. c.table ≡ name → c.exclusive ≡ false) other e modes in_other (sym same)) (own_changes state)
        (each_goes (own_changes state) other (own_with state sound i x lt at)))
