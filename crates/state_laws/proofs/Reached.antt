-- A projection found by its name whose data reached an epoch: the database stays sound, and so does the state.
use Rattle.std.proofs.Common.{◌≡◌, ◌≤◌, ◌++◌, ℕ, zero, suc, Bool, true, false, cond, List, [], ◌∷◌, length, map, filter, refl, sym, ◌∙◌, ap, ap₂, subst, arith}
use Rattle.std.specs.Prelude.{◌||◌, ◌&&◌, not, nat_lt, bytes_eq, find, Contains, Option, Some, None, option_map}
use Rattle.std.specs.List.{All, AllPairs, list_any, list_all}
use Rattle.std.proofs.lemmas.Bool.{OnTrue_at}
use Rattle.std.proofs.lemmas.List.Elements.{All-contains, All-contains_itself, All-map, All-weaker}
use Rattle.db_model.specs.Database.{Database, Table, Shape, is_behind, is_super, has_columns, ordinals}
use Rattle.db_model.specs.Epochs.{all_shapes}
use Rattle.db_model.specs.Events.{refresh_started}
use Rattle.db_model.specs.Mover.{behind, change_shape, change_shape_of, first_behind, given_up, moved_one, moves_first, reached_to, refreshed, stale_of, with_change, MovesAll, MovesFirst, RaisesAll, RaisesOne, RefreshesAll, RefreshesFirst, Rises}
use Rattle.db_model.specs.Sound.{IsSoundShape, IsSoundTable, ReachesMark, all_names, IsSoundDatabase, ChangesFit, IsSound, IsStale}
use Rattle.db_model.specs.State.{State, Changes}
use Rattle.db_laws.proofs.Goods.{shapes_joined}
use Rattle.db_laws.proofs.Jobs.{jobs_keep}
use Rattle.sound_laws.proofs.Created.{Differ, table_still}
use Rattle.state_laws.proofs.Stale.{filtered, fresh_differs, stale_are_stale, stale_other}
use Rattle.state_laws.proofs.Events.{database_sound, drawn_sound, fewer_asked}
use Rattle.state_laws.proofs.Tables.{map_named}

-- ---- the names

name_still : (epoch : ℕ) (s : Shape) (b : Bool) → (cond b (reached_to epoch s) s).name ≡ s.name
name_still epoch s true = refl
name_still epoch s false = refl

names_still : (name : List ℕ) (epoch : ℕ) (ss : List Shape)
    → map (λ s. s.name) (map (change_shape name (reached_to epoch)) ss) ≡ map (λ s. s.name) ss
names_still name epoch [] = refl
names_still name epoch (s ∷ ss) =
    ap₂ (λ (n : List ℕ) (ns : List (List ℕ)). n ∷ ns) (name_still epoch s (bytes_eq s.name name)) (names_still name epoch ss)

pub all_names_still : (name : List ℕ) (epoch : ℕ) (ts : List Table)
    → all_names (map (change_shape_of name (reached_to epoch)) ts) ≡ all_names ts
all_names_still name epoch [] = refl
all_names_still name epoch (t ∷ ts) =
    ap₂ (λ (ns ms : List (List ℕ)). (t.name ∷ ns) ++ ms) (names_still name epoch t.shapes) (all_names_still name epoch ts)

-- ---- the projections

shape_reached : (d : Database) (name : List ℕ) (epoch : ℕ) (s : Shape) → d.ahm ≤ epoch → epoch ≤ d.last → IsSoundShape d s
    → IsSoundShape d (change_shape name (reached_to epoch) s)
shape_reached d name epoch s mark closed sound = by (bytes_eq s.name name)
  where
    by : (b : Bool) → IsSoundShape d (cond b (reached_to epoch s) s)
    by true = record { mark = mark; closed = closed }
    by false = sound

both_wider : (a b c e : Bool) → (a ≡ true → c ≡ true) → (b ≡ true → e ≡ true) → (a || b) ≡ true → (c || e) ≡ true
both_wider true b c e first more is = ap (λ (x : Bool). x || e) (first refl)
both_wider false b true e first more is = refl
both_wider false b false e first more is = more is

fresh_more : (a b : Bool) → (a && b) ≡ true → (true && b) ≡ true
fresh_more true b is = is
fresh_more false b is = absurd (cc)

super_one : (t : Table) (epoch : ℕ) (s : Shape) (b : Bool) → is_super t s ≡ true → is_super t (cond b (reached_to epoch s) s) ≡ true
super_one t epoch s true is = fresh_more s.fresh (has_columns s (ordinals t)) is
super_one t epoch s false is = is

super_still : (t : Table) (name : List ℕ) (epoch : ℕ) (ss : List Shape) → list_any (is_super t) ss ≡ true
    → list_any (is_super t) (map (change_shape name (reached_to epoch)) ss) ≡ true
super_still t name epoch [] is = is
super_still t name epoch (s ∷ ss) is =
    both_wider (is_super t s) (list_any (is_super t) ss) (is_super t (change_shape name (reached_to epoch) s)) (list_any (is_super t) (map (change_shape name (reached_to epoch)) ss))
    (λ here. super_one t epoch s (bytes_eq s.name name) here) (λ more. super_still t name epoch ss more) is

-- ---- the tables and the database

table_reached : (d : Database) (name : List ℕ) (epoch : ℕ) (t : Table) → d.ahm ≤ epoch → epoch ≤ d.last → IsSoundTable d t
    → IsSoundTable d (change_shape_of name (reached_to epoch) t)
table_reached d name epoch t mark closed sound = record {
  rows = sound.rows;
  epochs = sound.epochs;
  shapes = All-map (IsSoundShape d) (change_shape name (reached_to epoch)) t.shapes
      (All-weaker (IsSoundShape d) (λ s. IsSoundShape d (change_shape name (reached_to epoch) s)) (λ s here. shape_reached d name epoch s mark closed here) t.shapes sound.shapes);
  super = super_still t name epoch t.shapes sound.super;
}

pub reached_sound : (d : Database) (name : List ℕ) (epoch : ℕ) → d.ahm ≤ epoch → epoch ≤ d.last → IsSoundDatabase d
    → IsSoundDatabase (with_change name (reached_to epoch) d)
reached_sound d name epoch mark closed sound = record {
  names = subst (AllPairs (λ m n. bytes_eq m n ≡ false)) (sym (all_names_still name epoch d.tables)) sound.names;
  tables = All-map (IsSoundTable after) (change_shape_of name (reached_to epoch)) d.tables
      (All-weaker (IsSoundTable d) (λ t. IsSoundTable after (change_shape_of name (reached_to epoch) t))
      (λ t here. table_still d after (change_shape_of name (reached_to epoch) t) refl refl (table_reached d name epoch t mark closed here)) d.tables sound.tables);
  mark = sound.mark;
}
  where
    after : Database
    after = with_change name (reached_to epoch) d

-- ---- the state

changes_fit : (d : Database) (name : List ℕ) (epoch : ℕ) (c : Changes) → ChangesFit d c
    → ChangesFit (with_change name (reached_to epoch) d) c
changes_fit d name epoch c fit = record {
  table = change_shape_of name (reached_to epoch) fit.table;
  there = map_named (change_shape_of name (reached_to epoch)) c.table d.tables (λ t. refl) ∙ ap (option_map (change_shape_of name (reached_to epoch))) fit.there;
  rows = fit.rows;
  deletes = fit.deletes;
  shared = fit.shared;
}

pub reached_state : (state : State) (name : List ℕ) (epoch : ℕ)
    → All (IsStale (with_change name (reached_to epoch) state.database)) state.asked → state.database.ahm ≤ epoch
    → epoch ≤ state.database.last → IsSound state
    → IsSound (record state { database = with_change name (reached_to epoch) state.database })
reached_state state name epoch asked mark closed sound =
    database_sound state (with_change name (reached_to epoch) state.database) asked (changes_fit state.database name epoch) (reached_sound state.database name epoch mark closed sound.database) sound

-- ---- the epoch up to which an up-to-date projection is on disk rises

fresh_reached : (state : State) (s : Shape) (epoch : ℕ) → Contains (all_shapes state.database.tables) s → s.fresh ≡ true
    → state.database.ahm ≤ epoch → epoch ≤ state.database.last → IsSound state
    → IsSound (record state { database = with_change s.name (reached_to epoch) state.database })
fresh_reached state s epoch there fresh mark closed sound =
    let d = state.database in
    let after = with_change s.name (reached_to epoch) d in
    reached_state state s.name epoch
    (All-weaker (IsStale d) (IsStale after) (λ n is. stale_other d n s.name (reached_to epoch) (fresh_differs d s n sound.database there fresh is) is) state.asked sound.asked) mark closed sound

all_sound : (d : Database) (ts : List Table) → All (IsSoundTable d) ts → All (IsSoundShape d) (all_shapes ts)
all_sound d ts all =
    shapes_joined (IsSoundShape d) ts (All-weaker (IsSoundTable d) (λ t. All (IsSoundShape d) t.shapes) (λ t is. is.shapes) ts all)

pub risen_state : (state : State) (d : Database) → Rises state.database d → IsSound state → IsSound (record state { database = d })
risen_state state d rises sound =
    subst with_database (sym rises.same) (fresh_reached state rises.shape rises.epoch rises.there rises.fresh reaches rises.to sound)
  where
    with_database : Database → Type 0
    with_database e = IsSound (record state { database = e })

    before : ReachesMark state.database rises.shape
    before =
        OnTrue_at rises.fresh
        (All-contains (IsSoundShape state.database) (all_shapes state.database.tables) rises.shape (all_sound state.database state.database.tables sound.database.tables) rises.there)

    reaches : state.database.ahm ≤ rises.epoch
    reaches = let mark = before.mark in let from = rises.from in omega (arith, mark, from)

-- ---- a moveout of the first projection that is behind

found_passes : (p : Shape → Bool) (ss : List Shape) (s : Shape) → find p ss ≡ Some s → Contains ss s
found_passes p [] s none = absurd (cc)
found_passes p (x ∷ ss) s found = by (p x) found (λ rest. found_passes p ss s rest)
  where
    by : (b : Bool) → cond b (Some x) (find p ss) ≡ Some s → (find p ss ≡ Some s → Contains ss s) → Contains (x ∷ ss) s
    by true here more = let same : x ≡ s = cc in (zero, omega arith, same)
    by false rest more = let (k, lt, at) = more rest in (suc k, omega (arith, lt), at)

and_first : (a b : Bool) → (a && b) ≡ true → a ≡ true
and_first true b is = refl
and_first false b is = absurd (cc)

-- each that is behind is a projection that is up to date
abbrev IsFreshOf : Database → Shape → Type 0
IsFreshOf d s = Contains (all_shapes d.tables) s × (s.fresh ≡ true)

behind_fresh : (d : Database) → All (IsFreshOf d) (behind d)
behind_fresh d =
    filtered (Contains (all_shapes d.tables)) (IsFreshOf d) (is_behind d.last) (all_shapes d.tables) (λ s passes there. (there, and_first s.fresh (nat_lt s.lge d.last) passes)) (All-contains_itself (all_shapes d.tables))

pub moved_out_state : (state : State) (s : Shape) → first_behind state.database ≡ Some s → IsSound state → IsSound (moved_one s state)
moved_out_state state s first sound =
    let d = state.database in
    let there : Contains (behind d) s = found_passes (λ x. list_all (λ other. not (moves_first other x)) (behind d)) (behind d) s first in
    let (of, fresh) = All-contains (IsFreshOf d) (behind d) s (behind_fresh d) there in
    fresh_reached state s d.last of fresh sound.database.mark (omega arith) sound

-- ---- a projection comes to be up to date

pub refreshed_state : (state : State) (name : List ℕ) → IsSound state → IsSound (refreshed name state)
refreshed_state state name sound =
    let d = state.database in
    let other : List ℕ → Bool = λ n. not (bytes_eq n name) in
    let after = with_change name (reached_to d.last) d in
    reached_state (record state { asked = filter other state.asked }) name d.last
    (filtered (IsStale d) (IsStale after) other state.asked (λ n passes is. stale_other d n name (reached_to d.last) (differs n passes) is) sound.asked) sound.database.mark (omega arith)
    (fewer_asked state other sound)
  where
    differs : (n : List ℕ) → not (bytes_eq n name) ≡ true → Differ n name
    differs n passes = by (bytes_eq n name) passes
      where
        by : (b : Bool) → not b ≡ true → b ≡ false
        by true on = absurd (cc)
        by false off = refl

-- the mover is asked for all that aren't
pub started_state : (state : State) → IsSound state → IsSound (refresh_started state)
started_state state sound = record {
  database = sound.database;
  eight = sound.eight;
  first = sound.first;
  current = sound.current;
  sessions = sound.sessions;
  apart = sound.apart;
  asked = stale_are_stale state.database;
}

-- ---- several jobs

-- the mover's job goes on, or is given up
pub busy_state : (state : State) (steps : ℕ) → IsSound state → IsSound (record state { busy = steps })
busy_state state steps sound = record {
  database = sound.database;
  eight = sound.eight;
  first = sound.first;
  current = sound.current;
  sessions = sound.sessions;
  apart = sound.apart;
  asked = sound.asked;
}

one_moved : (o : Option Shape) (old new : State) → first_behind old.database ≡ o → MovesFirst o old new → IsSound old → IsSound new
one_moved None old new first never sound = absurd never
one_moved (Some s) old new first drawn sound = drawn_sound old (moved_one s old) new drawn (moved_out_state old s first sound)

pub all_moved : (stopped : Bool) (old new : State) → MovesAll old stopped new → IsSound old → IsSound new
all_moved stopped old new moves sound =
    jobs_keep IsSound (λ one other. MovesFirst (first_behind one.database) one other) (λ one other moved is. one_moved (first_behind one.database) one other refl moved is)
    (length (behind old.database)) (given_up old) stopped new moves.jobs (busy_state old 0 sound)

one_raised : (meant : Shape → Bool) (old new : State) → RaisesOne meant old new → IsSound old → IsSound new
one_raised meant old new (d, rises, is, drawn) sound =
    drawn_sound old (record old { database = d }) new drawn (risen_state old d rises sound)

pub all_raised : (meant : Shape → Bool) (stopped : Bool) (old new : State) → RaisesAll meant old stopped new → IsSound old → IsSound new
all_raised meant stopped old new raises sound =
    jobs_keep IsSound (RaisesOne meant) (one_raised meant) raises.count (given_up old) stopped new raises.jobs (busy_state old 0 sound)

one_refreshed : (names : List (List ℕ)) (old new : State) → RefreshesFirst names old new → IsSound old → IsSound new
one_refreshed [] old new never sound = absurd never
one_refreshed (name ∷ names) old new drawn sound = drawn_sound old (refreshed name old) new drawn (refreshed_state old name sound)

pub all_refreshed : (table : List ℕ) (stopped : Bool) (old new : State) → RefreshesAll table old stopped new → IsSound old → IsSound new
all_refreshed table stopped old new refreshes sound =
    jobs_keep IsSound (λ one other. RefreshesFirst (stale_of table one.database) one other) (λ one other first is. one_refreshed (stale_of table one.database) one other first is)
    (length (stale_of table old.database)) (given_up old) stopped new refreshes.jobs (busy_state old 0 sound)
