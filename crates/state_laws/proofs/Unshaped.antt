-- A sound state stays sound in a DROP PROJECTION.
use Rattle.std.proofs.Common.{◌≡◌, ℕ, ◌++◌, Bool, true, false, cond, List, [], ◌∷◌, map, filter, refl, sym, ◌∙◌, ap, ap₂, subst}
use Rattle.std.specs.Prelude.{◌||◌, ◌&&◌, not, bytes_eq, Option, Some, None, option_map}
use Rattle.std.specs.List.{All, AllPairs, list_any, list_all}
use Rattle.std.proofs.lemmas.List.Concat.{flat_map-cons}
use Rattle.std.proofs.lemmas.List.Elements.{All-head, All-tail, All-cons, All-append, All-filter, All-weaker}
use Rattle.std.proofs.lemmas.List.Kept.{AllPairs-cons}
use Rattle.std.proofs.lemmas.Slice.Eq.{bytes_eq-Decides}
use Rattle.sql_tree.specs.declared.refusal.Refusal.{Refusal}
use Rattle.db_model.specs.Database.{Database, Shape, Table, is_super}
use Rattle.db_model.specs.State.{State, Changes}
use Rattle.db_model.specs.Events.{is_not_named, without_shape, projection_dropped}
use Rattle.db_model.specs.Numbers.{spent_refusal}
use Rattle.db_model.specs.Refusals.{owner, is_last_super, last_super_refusal, projection_dropped_refusal}
use Rattle.db_model.specs.Sound.{IsSoundShape, IsSoundTable, IsSoundDatabase, IsSound, IsStale, ChangesFit, names_of, all_names}
use Rattle.sound_laws.proofs.Pairs.{pairs_front, pairs_back, pairs_across, pairs_join, all_front, all_back, pairs_head, pairs_tail}
use Rattle.sound_laws.proofs.Created.{Differ, differ_turned, table_still}
use Rattle.state_laws.proofs.Tables.{map_named}
use Rattle.state_laws.proofs.Stale.{HasStale, filtered, in_filter, stale_mapped}
use Rattle.state_laws.proofs.Events.{first_none, database_sound, fewer_asked}

-- ---- names

shapes_left : (P : List ℕ → Type 0) (name : List ℕ) (ss : List Shape) → All P (map (λ s. s.name) ss) → All P (map (λ s. s.name) (filter (λ s. is_not_named name s.name) ss))
shapes_left P name [] all = all
shapes_left P name (s ∷ ss) all = by (is_not_named name s.name) (shapes_left P name ss (All-tail P s.name (map (λ o. o.name) ss) all))
  where
    left : List Shape
    left = filter (λ o. is_not_named name o.name) ss

    by : (b : Bool) → All P (map (λ o. o.name) left) → All P (map (λ o. o.name) (cond b (s ∷ left) left))
    by true rest = All-cons P s.name (map (λ o. o.name) left) (All-head P s.name (map (λ o. o.name) ss) all) rest
    by false rest = rest

names_left : (P : List ℕ → Type 0) (name : List ℕ) (ts : List Table) → All P (all_names ts) → All P (all_names (map (without_shape name) ts))
names_left P name [] all = all
names_left P name (t ∷ ts) all =
    subst (All P) (sym (flat_map-cons names_of (without_shape name t) (map (without_shape name) ts)))
    (All-append P (names_of (without_shape name t)) (all_names (map (without_shape name) ts))
    (All-cons P t.name (map (λ s. s.name) (without_shape name t).shapes) (All-head P t.name (map (λ s. s.name) t.shapes) own) (shapes_left P name t.shapes (All-tail P t.name (map (λ s. s.name) t.shapes) own)))
    (names_left P name ts (all_back P (names_of t) (all_names ts) both)))
  where
    both : All P (names_of t ++ all_names ts)
    both = subst (All P) (flat_map-cons names_of t ts) all

    own : All P (names_of t)
    own = all_front P (names_of t) (all_names ts) both

shape_pairs : (name : List ℕ) (ss : List Shape) → AllPairs Differ (map (λ s. s.name) ss) → AllPairs Differ (map (λ s. s.name) (filter (λ s. is_not_named name s.name) ss))
shape_pairs name [] pairs = pairs
shape_pairs name (s ∷ ss) pairs = by (is_not_named name s.name) (shape_pairs name ss (pairs_tail Differ s.name (map (λ o. o.name) ss) pairs))
  where
    left : List Shape
    left = filter (λ o. is_not_named name o.name) ss

    by : (b : Bool) → AllPairs Differ (map (λ o. o.name) left) → AllPairs Differ (map (λ o. o.name) (cond b (s ∷ left) left))
    by true rest = AllPairs-cons Differ s.name (map (λ o. o.name) left) (shapes_left (Differ s.name) name ss (pairs_head Differ s.name (map (λ o. o.name) ss) pairs)) rest
    by false rest = rest

table_left : (P : List ℕ → Type 0) (name : List ℕ) (t : Table) → All P (names_of t) → All P (names_of (without_shape name t))
table_left P name t all = All-cons P t.name (map (λ s. s.name) (without_shape name t).shapes) (All-head P t.name (map (λ s. s.name) t.shapes) all) (shapes_left P name t.shapes (All-tail P t.name (map (λ s. s.name) t.shapes) all))

pairs_left : (name : List ℕ) (ts : List Table) → AllPairs Differ (all_names ts) → AllPairs Differ (all_names (map (without_shape name) ts))
pairs_left name [] pairs = pairs
pairs_left name (t ∷ ts) pairs =
    subst (AllPairs Differ) (sym (flat_map-cons names_of (without_shape name t) (map (without_shape name) ts)))
    (pairs_join Differ (names_of (without_shape name t)) (all_names (map (without_shape name) ts)) own (pairs_left name ts (pairs_back Differ (names_of t) (all_names ts) both)) across)
  where
    both : AllPairs Differ (names_of t ++ all_names ts)
    both = subst (AllPairs Differ) (flat_map-cons names_of t ts) pairs

    front : AllPairs Differ (names_of t)
    front = pairs_front Differ (names_of t) (all_names ts) both

    own : AllPairs Differ (names_of (without_shape name t))
    own =
        AllPairs-cons Differ t.name (map (λ s. s.name) (without_shape name t).shapes) (shapes_left (Differ t.name) name t.shapes (pairs_head Differ t.name (map (λ s. s.name) t.shapes) front))
        (shape_pairs name t.shapes (pairs_tail Differ t.name (map (λ s. s.name) t.shapes) front))

    across : All (λ n. All (Differ n) (all_names (map (without_shape name) ts))) (names_of (without_shape name t))
    across =
        table_left (λ n. All (Differ n) (all_names (map (without_shape name) ts))) name t
        (All-weaker (λ n. All (Differ n) (all_names ts)) (λ n. All (Differ n) (all_names (map (without_shape name) ts))) (λ n all. names_left (Differ n) name ts all) (names_of t) (pairs_across Differ (names_of t) (all_names ts) both))

-- ---- a super projection remains

-- where one that passes isn't called so, one passes among those that aren't
any_left : (p : Shape → Bool) (name : List ℕ) (ss : List Shape) → list_all (λ s. bytes_eq s.name name) (filter p ss) ≡ false → list_any p (filter (λ s. is_not_named name s.name) ss) ≡ true
any_left p name [] is = absurd (cc)
any_left p name (s ∷ ss) is = by (p s) refl (λ rest. any_left p name ss rest) is
  where
    left : List Shape
    left = filter (λ o. is_not_named name o.name) ss

    More : Type 0
    More = list_all (λ o. bytes_eq o.name name) (filter p ss) ≡ false → list_any p left ≡ true

    or_here : (a b : Bool) → a ≡ true → (a || b) ≡ true
    or_here a b here = ap (λ (x : Bool). x || b) here

    or_more : (a b : Bool) → b ≡ true → (a || b) ≡ true
    or_more true b more = refl
    or_more false b more = more

    passing : (c : Bool) → p s ≡ true → More → (c && list_all (λ o. bytes_eq o.name name) (filter p ss)) ≡ false → list_any p (cond (not c) (s ∷ left) left) ≡ true
    passing true passes more rest = more rest
    passing false passes more rest = or_here (p s) (list_any p left) passes

    other : (c : Bool) → list_any p left ≡ true → list_any p (cond (not c) (s ∷ left) left) ≡ true
    other true more = more
    other false more = or_more (p s) (list_any p left) more

    by : (b : Bool) → p s ≡ b → More → list_all (λ o. bytes_eq o.name name) (cond b (s ∷ filter p ss) (filter p ss)) ≡ false → list_any p (cond (is_not_named name s.name) (s ∷ left) left) ≡ true
    by true passes more rest = passing (bytes_eq s.name name) passes more rest
    by false off more rest = other (bytes_eq s.name name) (more rest)

-- ---- each table without it

table_unshaped : (d : Database) (name : List ℕ) (t : Table) → is_last_super name t ≡ false → IsSoundTable d t → IsSoundTable d (without_shape name t)
table_unshaped d name t others is = record {
  rows = is.rows;
  epochs = is.epochs;
  shapes = All-filter (λ s. is_not_named name s.name) (IsSoundShape d) t.shapes is.shapes;
  super = any_left (is_super t) name t.shapes others;
}

abbrev pub has_named : List ℕ → List Shape → Bool
has_named name ss = list_any (λ s. bytes_eq s.name name) ss

pub none_goes : (name : List ℕ) (ss : List Shape) → has_named name ss ≡ false → filter (λ s. is_not_named name s.name) ss ≡ ss
none_goes name [] free = refl
none_goes name (s ∷ ss) free = by (bytes_eq s.name name) (λ rest. none_goes name ss rest) free
  where
    left : List Shape
    left = filter (λ o. is_not_named name o.name) ss

    by : (b : Bool) → (has_named name ss ≡ false → left ≡ ss) → (b || has_named name ss) ≡ false → cond (not b) (s ∷ left) left ≡ s ∷ ss
    by true more is = absurd (cc)
    by false more is = ap (λ (os : List Shape). s ∷ os) (more is)

pub same_table : (name : List ℕ) (t : Table) → has_named name t.shapes ≡ false → without_shape name t ≡ t
same_table name t free = ap (λ (ss : List Shape). record t { shapes = ss }) (none_goes name t.shapes free)

-- what holds of each name of shapes holds of this one, if it is among them
pub of_named : (P : List ℕ → Type 0) (name : List ℕ) (ss : List Shape) → has_named name ss ≡ true → All P (map (λ s. s.name) ss) → P name
of_named P name [] is all = absurd (cc)
of_named P name (s ∷ ss) is all = by (bytes_eq s.name name) refl (λ rest. of_named P name ss rest (All-tail P s.name (map (λ o. o.name) ss) all)) is
  where
    by : (b : Bool) → bytes_eq s.name name ≡ b → (has_named name ss ≡ true → P name) → (b || has_named name ss) ≡ true → P name
    by true here more found = subst P ((bytes_eq-Decides s.name name).0 here) (All-head P s.name (map (λ o. o.name) ss) all)
    by false off more found = more found

pub none_named : (name : List ℕ) (ss : List Shape) → All (Differ name) (map (λ s. s.name) ss) → has_named name ss ≡ false
none_named name [] all = refl
none_named name (s ∷ ss) all =
    let off : bytes_eq s.name name ≡ false = differ_turned name s.name (All-head (Differ name) s.name (map (λ o. o.name) ss) all) in
    ap (λ (b : Bool). b || has_named name ss) off ∙ none_named name ss (All-tail (Differ name) s.name (map (λ o. o.name) ss) all)

pub same_tables : (name : List ℕ) (ts : List Table) → All (Differ name) (all_names ts) → map (without_shape name) ts ≡ ts
same_tables name [] all = refl
same_tables name (t ∷ ts) all =
    let both : All (Differ name) (names_of t ++ all_names ts) = subst (All (Differ name)) (flat_map-cons names_of t ts) all in
    let own : All (Differ name) (names_of t) = all_front (Differ name) (names_of t) (all_names ts) both in
    let free = none_named name t.shapes (All-tail (Differ name) t.name (map (λ s. s.name) t.shapes) own) in
    ap₂ (λ (u : Table) (us : List Table). u ∷ us) (same_table name t free) (same_tables name ts (all_back (Differ name) (names_of t) (all_names ts) both))

tables_unshaped : (d : Database) (name : List ℕ) (ts : List Table) (t : Table) → owner name ts ≡ Some t → is_last_super name t ≡ false → AllPairs Differ (all_names ts) → All (IsSoundTable d) ts → All (IsSoundTable d) (map (without_shape name) ts)
tables_unshaped d name [] t none others pairs all = absurd (cc)
tables_unshaped d name (u ∷ us) t there others pairs all =
    by (has_named name u.shapes) refl (λ found apart sound. tables_unshaped d name us t found others apart sound) there
  where
    both : AllPairs Differ (names_of u ++ all_names us)
    both = subst (AllPairs Differ) (flat_map-cons names_of u us) pairs

    shapes : All (λ n. All (Differ n) (all_names us)) (map (λ s. s.name) u.shapes)
    shapes = All-tail (λ n. All (Differ n) (all_names us)) u.name (map (λ s. s.name) u.shapes) (pairs_across Differ (names_of u) (all_names us) both)

    here : IsSoundTable d u
    here = All-head (IsSoundTable d) u us all

    by : (b : Bool) → has_named name u.shapes ≡ b → (owner name us ≡ Some t → AllPairs Differ (all_names us) → All (IsSoundTable d) us → All (IsSoundTable d) (map (without_shape name) us)) → cond b (Some u) (owner name us) ≡ Some t
        → All (IsSoundTable d) (without_shape name u ∷ map (without_shape name) us)
    by true is more found =
        let same : t ≡ u = cc in
        All-cons (IsSoundTable d) (without_shape name u) (map (without_shape name) us) (table_unshaped d name u (subst (λ (v : Table). is_last_super name v ≡ false) same others) here)
        (subst (All (IsSoundTable d)) (sym (same_tables name us (of_named (λ n. All (Differ n) (all_names us)) name u.shapes is shapes))) (All-tail (IsSoundTable d) u us all))
    by false off more found =
        All-cons (IsSoundTable d) (without_shape name u) (map (without_shape name) us) (subst (IsSoundTable d) (sym (same_table name u off)) here)
        (more found (pairs_back Differ (names_of u) (all_names us) both) (All-tail (IsSoundTable d) u us all))

abbrev pub unshaped : List ℕ → Database → Database
unshaped name d = record d { tables = map (without_shape name) d.tables }

unshaped_sound : (d : Database) (name : List ℕ) (t : Table) → owner name d.tables ≡ Some t → is_last_super name t ≡ false → IsSoundDatabase d → IsSoundDatabase (unshaped name d)
unshaped_sound d name t there others sound = record {
  names = pairs_left name d.tables sound.names;
  tables =
      All-weaker (IsSoundTable d) (IsSoundTable (unshaped name d)) (λ u is. table_still d (unshaped name d) u refl refl is) (unshaped name d).tables
      (tables_unshaped d name d.tables t there others sound.names sound.tables);
  mark = sound.mark;
}

-- ---- the event

unshaped_fit : (d : Database) (name : List ℕ) (c : Changes) → ChangesFit d c → ChangesFit (unshaped name d) c
unshaped_fit d name c fit = record {
  table = without_shape name fit.table;
  there = map_named (without_shape name) c.table d.tables (λ t. refl) ∙ ap (option_map (without_shape name)) fit.there;
  rows = fit.rows;
  deletes = fit.deletes;
  shared = fit.shared;
}

has_owner : (name : List ℕ) (o : Option Table) → last_super_refusal name o ≡ None → (t : Table) × (o ≡ Some t) × (is_last_super name t ≡ false)
has_owner name None is = absurd (cc)
has_owner name (Some t) is = (t, refl, by (is_last_super name t) is)
  where
    by : (b : Bool) → cond b (Some (Refusal.LastSuper name)) None ≡ None → b ≡ false
    by true some = absurd (cc)
    by false none = refl

-- a table without a projection of one name has those of other names
has_unshaped : (name other : List ℕ) (t : Table) → is_not_named name other ≡ true → HasStale other t → HasStale other (without_shape name t)
has_unshaped name other t off has = record {
  shape = has.shape;
  of = in_filter (λ s. is_not_named name s.name) t.shapes has.shape (ap (is_not_named name) has.named ∙ off) has.of;
  named = has.named;
  stale = has.stale;
}

-- what is asked for, but for one name
abbrev asked_besides : List ℕ → State → State
asked_besides name state = record state { asked = filter (is_not_named name) state.asked }

unshaped_database : (state : State) (name : List ℕ) → projection_dropped_refusal state name ≡ None → IsSound state → IsSound (record (asked_besides name state) { database = unshaped name state.database })
unshaped_database state name free sound =
    let d = state.database in
    let found = has_owner name (owner name d.tables) (first_none (last_super_refusal name (owner name d.tables)) (spent_refusal state) free).0 in
    let stale : All (IsStale (unshaped name d)) (asked_besides name state).asked =
    filtered (IsStale d) (IsStale (unshaped name d)) (is_not_named name) state.asked
    (λ n passes is. stale_mapped d (unshaped name d) (without_shape name) n refl (λ t has. has_unshaped name n t passes has) is) sound.asked in
    database_sound (asked_besides name state) (unshaped name d) stale (unshaped_fit d name) (unshaped_sound d name found.0 found.1 found.2 sound.database) (fewer_asked state (is_not_named name) sound)

pub unshaped_state : (state : State) (name : List ℕ) → projection_dropped_refusal state name ≡ None → IsSound state → IsSound (projection_dropped name state)
unshaped_state state name free sound =
    let left = unshaped_database state name free sound in
    record {
      database = left.database;
      eight = left.eight;
      first = left.first;
      current = left.current;
      sessions = left.sessions;
      apart = left.apart;
      asked = left.asked;
    }
