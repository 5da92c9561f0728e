-- A sound state stays sound in a CREATE PROJECTION.
use Rattle.std.proofs.Common.{◌≡◌, ◌⊎◌, inl, inr, ℕ, ◌++◌, Bool, true, false, cond, List, [], ◌∷◌, map, get_or, refl, sym, ◌∙◌, ap, subst, arith}
use Rattle.std.specs.Prelude.{◌||◌, bytes_eq, Option, Some, None, option_map, option_and_then}
use Rattle.std.specs.Bool.{OnTrue}
use Rattle.std.specs.Ordering.{is_lt, nat_cmp}
use Rattle.std.specs.Cmp.Lexicographic.{slice_cmp}
use Rattle.std.specs.List.{All, AllPairs, list_any}
use Rattle.std.proofs.lemmas.List.{append_assoc}
use Rattle.std.proofs.lemmas.List.Concat.{flat_map-cons}
use Rattle.std.proofs.lemmas.List.Elements.{All-head, All-tail, All-cons, All-nil, All-append, All-weaker}
use Rattle.std.proofs.lemmas.List.Kept.{AllPairs-cons}
use Rattle.row_history.specs.History.{Within, retained}
use Rattle.col_value.specs.declared.column.Column.{Column}
use Rattle.col_value.specs.declared.row.Stamped.{Stamped}
use Rattle.sql_tree.specs.declared.refusal.Refusal.{Refusal}
use Rattle.sql_tree.specs.declared.statement.NewProjection.{NewProjection}
use Rattle.sql_binding.specs.Firsts.{first_of}
use Rattle.sql_binding.specs.Projections.{projection_name_refusal}
use Rattle.db_model.specs.Database.{Database, Shape, Table, is_super, is_taken, table_named}
use Rattle.db_model.specs.State.{State, Changes, change_named}
use Rattle.db_model.specs.Events.{is_empty_list, new_shape, put_shape, with_shape, projection_created}
use Rattle.db_model.specs.Numbers.{spent_refusal}
use Rattle.db_model.specs.Refusing.{if_taken}
use Rattle.db_model.specs.Refusals.{projection_created_refusal, projection_refusal_over}
use Rattle.db_model.specs.Sound.{RowFits, ReachesMark, IsSoundShape, IsSoundTable, IsSoundDatabase, IsSound, IsStale, ChangesFit, names_of, all_names}
use Rattle.db_model.specs.Views.{columns_found, table_found}
use Rattle.sound_laws.proofs.Pairs.{pairs_front, pairs_back, pairs_across, pairs_join, all_front, all_back}
use Rattle.sound_laws.proofs.Created.{Differ, differ_turned, table_still}
use Rattle.state_laws.proofs.Stale.{HasStale, in_put_shape, stale_changed}
use Rattle.state_laws.proofs.Events.{first_none, none_taken, no_existing, database_sound}

-- ---- a name among others

-- `ys` are `xs` with one name more
record Joins (x : List ℕ) (xs ys : List (List ℕ)) : Type 0 where
  front : List (List ℕ)
  back : List (List ℕ)
  without : xs ≡ front ++ back
  joined : ys ≡ front ++ x ∷ back

join_first : (x : List ℕ) (xs : List (List ℕ)) → Joins x xs (x ∷ xs)
join_first x xs = record { front = []; back = xs; without = refl; joined = refl }

join_behind : (x y : List ℕ) (xs ys : List (List ℕ)) → Joins x xs ys → Joins x (y ∷ xs) (y ∷ ys)
join_behind x y xs ys j = record {
  front = y ∷ j.front;
  back = j.back;
  without = ap (λ (ns : List (List ℕ)). y ∷ ns) j.without;
  joined = ap (λ (ns : List (List ℕ)). y ∷ ns) j.joined;
}

join_after : (x : List ℕ) (zs xs ys : List (List ℕ)) → Joins x xs ys → Joins x (zs ++ xs) (zs ++ ys)
join_after x [] xs ys j = j
join_after x (z ∷ zs) xs ys j = join_behind x z (zs ++ xs) (zs ++ ys) (join_after x zs xs ys j)

join_before : (x : List ℕ) (zs xs ys : List (List ℕ)) → Joins x xs ys → Joins x (xs ++ zs) (ys ++ zs)
join_before x zs xs ys j = record {
  front = j.front;
  back = j.back ++ zs;
  without = ap (λ (ns : List (List ℕ)). ns ++ zs) j.without ∙ append_assoc j.front j.back zs;
  joined = ap (λ (ns : List (List ℕ)). ns ++ zs) j.joined ∙ append_assoc j.front (x ∷ j.back) zs;
}

joined_pairs : (x : List ℕ) (xs ys : List (List ℕ)) → Joins x xs ys → All (Differ x) xs → AllPairs Differ xs → AllPairs Differ ys
joined_pairs x xs ys j apart pairs = subst (AllPairs Differ) (sym j.joined) (pairs_join Differ j.front (x ∷ j.back) (pairs_front Differ j.front j.back both) back across)
  where
    both : AllPairs Differ (j.front ++ j.back)
    both = subst (AllPairs Differ) j.without pairs

    off : All (Differ x) (j.front ++ j.back)
    off = subst (All (Differ x)) j.without apart

    back : AllPairs Differ (x ∷ j.back)
    back = AllPairs-cons Differ x j.back (all_back (Differ x) j.front j.back off) (pairs_back Differ j.front j.back both)

    across : All (λ n. All (Differ n) (x ∷ j.back)) j.front
    across i d lt =
        All-cons (Differ (get_or j.front i d)) x j.back (differ_turned x (get_or j.front i d) (all_front (Differ x) j.front j.back off i d lt))
        (pairs_across Differ j.front j.back both i d lt)

-- ---- the names of a table with one projection more

put_joins : (s : Shape) (ss : List Shape) → Joins s.name (map (λ o. o.name) ss) (map (λ o. o.name) (put_shape s ss))
put_joins s [] = join_first s.name []
put_joins s (o ∷ os) = by (is_lt (slice_cmp nat_cmp s.name o.name)) (put_joins s os)
  where
    by : (b : Bool) → Joins s.name (map (λ x. x.name) os) (map (λ x. x.name) (put_shape s os)) → Joins s.name (map (λ x. x.name) (o ∷ os)) (map (λ x. x.name) (cond b (s ∷ (o ∷ os)) (o ∷ put_shape s os)))
    by true rest = join_first s.name (map (λ x. x.name) (o ∷ os))
    by false rest = join_behind s.name o.name (map (λ x. x.name) os) (map (λ x. x.name) (put_shape s os)) rest

table_joins : (mark last : ℕ) (p : NewProjection) (t : Table) → Joins p.name (names_of t) (names_of (with_shape mark last p t))
table_joins mark last p t = join_behind p.name t.name (map (λ o. o.name) t.shapes) (map (λ o. o.name) (put_shape (new_shape mark last p t) t.shapes)) (put_joins (new_shape mark last p t) t.shapes)

-- of the tables at most one has it
tables_join : (mark last : ℕ) (p : NewProjection) (ts : List Table) → Joins p.name (all_names ts) (all_names (change_named p.table (with_shape mark last p) ts)) ⊎ (all_names ts ≡ all_names (change_named p.table (with_shape mark last p) ts))
tables_join mark last p [] = inr refl
tables_join mark last p (u ∷ us) = by (bytes_eq u.name p.table) (tables_join mark last p us)
  where
    with : Table → Table
    with = with_shape mark last p

    others : List Table
    others = change_named p.table with us

    here : Joins p.name (all_names (u ∷ us)) (all_names (with u ∷ us))
    here =
        subst (λ (ns : List (List ℕ)). Joins p.name ns (all_names (with u ∷ us))) (sym (flat_map-cons names_of u us))
        (subst (λ (ns : List (List ℕ)). Joins p.name (names_of u ++ all_names us) ns) (sym (flat_map-cons names_of (with u) us))
        (join_before p.name (all_names us) (names_of u) (names_of (with u)) (table_joins mark last p u)))

    later : Joins p.name (all_names us) (all_names others) → Joins p.name (all_names (u ∷ us)) (all_names (u ∷ others))
    later rest =
        subst (λ (ns : List (List ℕ)). Joins p.name ns (all_names (u ∷ others))) (sym (flat_map-cons names_of u us))
        (subst (λ (ns : List (List ℕ)). Joins p.name (names_of u ++ all_names us) ns) (sym (flat_map-cons names_of u others))
        (join_after p.name (names_of u) (all_names us) (all_names others) rest))

    none : all_names us ≡ all_names others → all_names (u ∷ us) ≡ all_names (u ∷ others)
    none same = flat_map-cons names_of u us ∙ ap (λ (ns : List (List ℕ)). names_of u ++ ns) same ∙ sym (flat_map-cons names_of u others)

    either : Joins p.name (all_names us) (all_names others) ⊎ (all_names us ≡ all_names others) → Joins p.name (all_names (u ∷ us)) (all_names (u ∷ others)) ⊎ (all_names (u ∷ us) ≡ all_names (u ∷ others))
    either (inl rest) = inl (later rest)
    either (inr same) = inr (none same)

    by : (b : Bool) → Joins p.name (all_names us) (all_names others) ⊎ (all_names us ≡ all_names others)
        → Joins p.name (all_names (u ∷ us)) (all_names (cond b (with u ∷ us) (u ∷ others))) ⊎ (all_names (u ∷ us) ≡ all_names (cond b (with u ∷ us) (u ∷ others)))
    by true rest = inl here
    by false rest = either rest

-- ---- a name that isn't taken differs from all

or_off : (a b : Bool) → (a || b) ≡ false → (a ≡ false) × (b ≡ false)
or_off true b is = cc
or_off false b is = (refl, is)

free_shapes : (name : List ℕ) (ss : List Shape) → list_any (λ s. bytes_eq s.name name) ss ≡ false → All (Differ name) (map (λ s. s.name) ss)
free_shapes name [] free = All-nil (Differ name)
free_shapes name (s ∷ ss) free =
    let (here, rest) = or_off (bytes_eq s.name name) (list_any (λ o. bytes_eq o.name name) ss) free in
    All-cons (Differ name) s.name (map (λ o. o.name) ss) (differ_turned s.name name here) (free_shapes name ss rest)

free_names : (name : List ℕ) (ts : List Table) → is_taken name ts ≡ false → All (Differ name) (all_names ts)
free_names name [] free = All-nil (Differ name)
free_names name (t ∷ ts) free =
    let (here, rest) = or_off (bytes_eq t.name name || list_any (λ s. bytes_eq s.name name) t.shapes) (is_taken name ts) free in
    let (own, shapes) = or_off (bytes_eq t.name name) (list_any (λ s. bytes_eq s.name name) t.shapes) here in
    subst (All (Differ name)) (sym (flat_map-cons names_of t ts))
    (All-append (Differ name) (names_of t) (all_names ts)
    (All-cons (Differ name) t.name (map (λ s. s.name) t.shapes) (differ_turned t.name name own) (free_shapes name t.shapes shapes))
    (free_names name ts rest))

-- ---- the table with one projection more

put_all : (P : Shape → Type 0) (s : Shape) (ss : List Shape) → P s → All P ss → All P (put_shape s ss)
put_all P s [] here all = All-cons P s [] here all
put_all P s (o ∷ os) here all = by (is_lt (slice_cmp nat_cmp s.name o.name)) (put_all P s os here (All-tail P o os all))
  where
    by : (b : Bool) → All P (put_shape s os) → All P (cond b (s ∷ (o ∷ os)) (o ∷ put_shape s os))
    by true rest = All-cons P s (o ∷ os) here all
    by false rest = All-cons P o (put_shape s os) (All-head P o os all) rest

or_wider : (a b c : Bool) → (b ≡ true → c ≡ true) → (a || b) ≡ true → (a || c) ≡ true
or_wider true b c wider is = refl
or_wider false b c wider is = wider is

or_behind : (a b : Bool) → b ≡ true → (a || b) ≡ true
or_behind true b is = refl
or_behind false b is = is

put_any : (p : Shape → Bool) (s : Shape) (ss : List Shape) → list_any p ss ≡ true → list_any p (put_shape s ss) ≡ true
put_any p s [] is = absurd (cc)
put_any p s (o ∷ os) is = by (is_lt (slice_cmp nat_cmp s.name o.name)) (λ rest. put_any p s os rest)
  where
    by : (b : Bool) → (list_any p os ≡ true → list_any p (put_shape s os) ≡ true) → list_any p (cond b (s ∷ (o ∷ os)) (o ∷ put_shape s os)) ≡ true
    by true more = or_behind (p s) (list_any p (o ∷ os)) is
    by false more = or_wider (p o) (list_any p os) (list_any p (put_shape s os)) more is

new_sound : (d : Database) (p : NewProjection) (t : Table) → IsSoundDatabase d → IsSoundShape d (new_shape d.ahm d.last p t)
new_sound d p t sound = by (is_empty_list (retained d.ahm t.rows))
  where
    by : (b : Bool) → OnTrue b (ReachesMark d (record (new_shape d.ahm d.last p t) { fresh = b; lge = cond b d.last 0 }))
    by true = record { mark = sound.mark; closed = omega arith }
    by false = tt

table_shaped : (d : Database) (p : NewProjection) (t : Table) → IsSoundDatabase d → IsSoundTable d t → IsSoundTable d (with_shape d.ahm d.last p t)
table_shaped d p t sound is = record {
  rows = is.rows;
  epochs = is.epochs;
  shapes = put_all (IsSoundShape d) (new_shape d.ahm d.last p t) t.shapes (new_sound d p t sound) is.shapes;
  super = put_any (is_super t) (new_shape d.ahm d.last p t) t.shapes is.super;
}

tables_shaped : (d : Database) (p : NewProjection) (ts : List Table) → IsSoundDatabase d → All (IsSoundTable d) ts → All (IsSoundTable d) (change_named p.table (with_shape d.ahm d.last p) ts)
tables_shaped d p [] sound all = all
tables_shaped d p (t ∷ ts) sound all = by (bytes_eq t.name p.table) (tables_shaped d p ts sound (All-tail (IsSoundTable d) t ts all))
  where
    with : Table → Table
    with = with_shape d.ahm d.last p

    by : (b : Bool) → All (IsSoundTable d) (change_named p.table with ts) → All (IsSoundTable d) (cond b (with t ∷ ts) (t ∷ change_named p.table with ts))
    by true rest = All-cons (IsSoundTable d) (with t) ts (table_shaped d p t sound (All-head (IsSoundTable d) t ts all)) (All-tail (IsSoundTable d) t ts all)
    by false rest = All-cons (IsSoundTable d) t (change_named p.table with ts) (All-head (IsSoundTable d) t ts all) rest

abbrev pub shaped : NewProjection → Database → Database
shaped p d = record d { tables = change_named p.table (with_shape d.ahm d.last p) d.tables }

shaped_sound : (d : Database) (p : NewProjection) → is_taken p.name d.tables ≡ false → IsSoundDatabase d → IsSoundDatabase (shaped p d)
shaped_sound d p free sound = record {
  names = by (tables_join d.ahm d.last p d.tables);
  tables =
      All-weaker (IsSoundTable d) (IsSoundTable (shaped p d)) (λ u is. table_still d (shaped p d) u refl refl is) (shaped p d).tables
      (tables_shaped d p d.tables sound sound.tables);
  mark = sound.mark;
}
  where
    by : Joins p.name (all_names d.tables) (all_names (shaped p d).tables) ⊎ (all_names d.tables ≡ all_names (shaped p d).tables) → AllPairs Differ (all_names (shaped p d).tables)
    by (inl joins) = joined_pairs p.name (all_names d.tables) (all_names (shaped p d).tables) joins (free_names p.name d.tables free) sound.names
    by (inr same) = subst (AllPairs Differ) same sound.names

-- ---- the sessions' changes

shaped_named : (mark last : ℕ) (p : NewProjection) (n : List ℕ) (us : List Table) (t : Table) → table_named n us ≡ Some t
    → (u : Table) × (table_named n (change_named p.table (with_shape mark last p) us) ≡ Some u) × (u.columns ≡ t.columns) × (u.rows ≡ t.rows)
shaped_named mark last p n [] t none = absurd (cc)
shaped_named mark last p n (v ∷ us) t there = by (bytes_eq v.name p.table) (λ rest. shaped_named mark last p n us t rest)
  where
    with : Table → Table
    with = with_shape mark last p

    Found : Option Table → Type 0
    Found o = (u : Table) × (o ≡ Some u) × (u.columns ≡ t.columns) × (u.rows ≡ t.rows)

    first : (b : Bool) → cond b (Some v) (table_named n us) ≡ Some t → Found (cond b (Some (with v)) (table_named n us))
    first true here = let same : v ≡ t = cc in (with v, refl, ap (λ (x : Table). x.columns) same, ap (λ (x : Table). x.rows) same)
    first false rest = (t, rest, refl, refl)

    later : (b : Bool) → (table_named n us ≡ Some t → Found (table_named n (change_named p.table with us))) → cond b (Some v) (table_named n us) ≡ Some t → Found (cond b (Some v) (table_named n (change_named p.table with us)))
    later true more here = (t, here, refl, refl)
    later false more rest = more rest

    by : (b : Bool) → (table_named n us ≡ Some t → Found (table_named n (change_named p.table with us))) → Found (table_named n (cond b (with v ∷ us) (v ∷ change_named p.table with us)))
    by true more = first (bytes_eq v.name n) there
    by false more = later (bytes_eq v.name n) more there

shaped_fit : (d : Database) (p : NewProjection) (c : Changes) → ChangesFit d c → ChangesFit (shaped p d) c
shaped_fit d p c fit =
    let found = shaped_named d.ahm d.last p c.table d.tables fit.table fit.there in
    record {
      table = found.0;
      there = found.1;
      rows = subst (λ (columns : List Column). All (RowFits columns) c.rows) (sym found.2) fit.rows;
      deletes = subst (λ (rows : List Stamped). Within c.deletes rows) (sym found.3) fit.deletes;
      shared = fit.shared;
    }

-- ---- the event

shaped_free : (state : State) (p : NewProjection) → projection_created_refusal state p ≡ None → is_taken p.name state.database.tables ≡ false
shaped_free state p free =
    let tables = state.database.tables in
    let form = first_of (option_and_then (λ e. projection_refusal_over p e.1) (table_found p.table tables)) (spent_refusal state) in
    let whole = first_none (projection_name_refusal (columns_found tables p.table) p) (first_of (option_map Refusal.Exists (if_taken tables p.name)) form) free in
    let rest = first_none (option_map Refusal.Exists (if_taken tables p.name)) form whole.1 in
    none_taken tables p.name (no_existing (if_taken tables p.name) rest.0)

-- a table with a projection more has those that it had
has_shaped : (mark last : ℕ) (p : NewProjection) (name : List ℕ) (t : Table) → HasStale name t → HasStale name (with_shape mark last p t)
has_shaped mark last p name t has = record { shape = has.shape; of = in_put_shape (new_shape mark last p t) t.shapes has.shape has.of; named = has.named; stale = has.stale }

pub shaped_state : (state : State) (p : NewProjection) → projection_created_refusal state p ≡ None → IsSound state → IsSound (projection_created p state)
shaped_state state p free sound =
    let d = state.database in
    database_sound state (shaped p d)
    (All-weaker (IsStale d) (IsStale (shaped p d)) (λ n is. stale_changed d p.table (with_shape d.ahm d.last p) n (has_shaped d.ahm d.last p n) is) state.asked sound.asked) (shaped_fit d p)
    (shaped_sound d p (shaped_free state p free) sound.database) sound
