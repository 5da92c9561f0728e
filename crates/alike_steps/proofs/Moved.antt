-- Functions of several jobs over alike states.
use Rattle.std.proofs.Common.{◌≡◌, ℕ, zero, suc, not, Bool, true, false, List, [], ◌∷◌, filter, length, map, sym, ap, ap₂, ◌∙◌, subst, inl, inr}
use Rattle.std.specs.Prelude.{Option, Some, None, bytes_eq, find}
use Rattle.std.specs.List.{list_all}
use Rattle.db_model.specs.Alike.{AreAlikeStates, IsAlikeTable}
use Rattle.db_model.specs.Database.{Shape, Table, is_behind, table_named}
use Rattle.db_model.specs.Events.{stale_names}
use Rattle.db_model.specs.Mover.{Jobs, MovesAll, MovesFirst, MovesOut, RefreshesAll, RefreshesFirst, behind, change_shape, change_shape_of, first_behind, given_up, moved_one, moves_first, reached_to, refreshed, stale_of}
use Rattle.db_model.specs.Numbers.{are_spent}
use Rattle.db_model.specs.State.{State}
use Rattle.alike_steps.proofs.Shaped.{drawn_alike, left_alike}
use Rattle.alike_steps.proofs.Tables.{shapes_same}
use Rattle.alike_steps.proofs.Zipped.{both_or, found_zip, map_zip}

moved_table : (mark epoch other : ℕ) (name : List ℕ) (t u : Table) → epoch ≡ other → IsAlikeTable mark t u → IsAlikeTable mark (change_shape_of name (reached_to epoch) t) (change_shape_of name (reached_to other) u)
moved_table mark epoch other name t u is same = record {
  name = same.name;
  columns = same.columns;
  shapes = ap₂ (λ (n : ℕ) (shapes : List Shape). map (change_shape name (reached_to n)) shapes) is same.shapes;
  rows = same.rows;
}

moved_alike : (s : Shape) (a b : State) → AreAlikeStates a b → AreAlikeStates (moved_one s a) (moved_one s b)
moved_alike s a b alike = record {
  database = record {
    last = alike.database.last;
    ahm = alike.database.ahm;
    tables =
        map_zip (IsAlikeTable a.database.ahm) (IsAlikeTable a.database.ahm) (change_shape_of s.name (reached_to a.database.last)) (change_shape_of s.name (reached_to b.database.last))
        (λ t u same. moved_table a.database.ahm a.database.last b.database.last s.name t u alike.database.last same) a.database.tables b.database.tables alike.database.tables;
  };
  sessions = alike.sessions;
  current = alike.current;
  asked = alike.asked;
}

behind_same : (a b : State) → AreAlikeStates a b → behind a.database ≡ behind b.database
behind_same a b alike =
    ap₂ (λ (n : ℕ) (shapes : List Shape). filter (is_behind n) shapes) alike.database.last (shapes_same a.database.ahm a.database.tables b.database.tables alike.database.tables)

first_same : (a b : State) → AreAlikeStates a b → first_behind a.database ≡ first_behind b.database
first_same a b alike = ap (λ (shapes : List Shape). find (λ s. list_all (λ other. not (moves_first other s)) shapes) shapes) (behind_same a b alike)

first_alike : (o : Option Shape) (a b x y : State) → AreAlikeStates a b → MovesFirst o a x → MovesFirst o b y → AreAlikeStates x y
first_alike None a b x y alike first second = absurd first
first_alike (Some s) a b x y alike first second = drawn_alike a b (moved_one s a) (moved_one s b) x y first second (moved_alike s a b alike)

-- as many jobs that nothing stops, each of which leaves alike states alike
jobs_alike : (Job : State → State → Type 0) → ((a b x y : State) → AreAlikeStates a b → Job a x → Job b y → AreAlikeStates x y)
    → (n : ℕ) (a b x y : State) → AreAlikeStates a b → Jobs Job n a false x → Jobs Job n b false y → AreAlikeStates x y
jobs_alike Job keeps zero a b x y alike (goes, x_is) (also, y_is) = left_alike a b x y x_is y_is alike
jobs_alike Job keeps (suc n) a b x y alike (inl (spent, stops, x_is)) second = absurd (cc)
jobs_alike Job keeps (suc n) a b x y alike (inr first) (inl (spent, stops, y_is)) = absurd (cc)
jobs_alike Job keeps (suc n) a b x y alike (inr (left, mid, first, more)) (inr (also, other, second, later)) =
    jobs_alike Job keeps n mid other x y (keeps a b mid other alike first second) more later

abbrev OneMoved : State → State → Type 0
OneMoved a x = MovesFirst (first_behind a.database) a x

one_moved_alike : (a b x y : State) → AreAlikeStates a b → OneMoved a x → OneMoved b y → AreAlikeStates x y
one_moved_alike a b x y alike first second = first_alike (first_behind b.database) a b x y alike (subst (λ (o : Option Shape). MovesFirst o a x) (first_same a b alike) first) second

given_up_alike : (a b : State) → AreAlikeStates a b → AreAlikeStates (given_up a) (given_up b)
given_up_alike a b alike = record { database = alike.database; sessions = alike.sessions; current = alike.current; asked = alike.asked }

pub all_alike : (a b x y : State) → AreAlikeStates a b → MovesAll a false x → MovesAll b false y → AreAlikeStates x y
all_alike a b x y alike first second =
    jobs_alike OneMoved one_moved_alike (length (behind b.database)) (given_up a) (given_up b) x y (given_up_alike a b alike)
    (subst (λ (shapes : List Shape). MovesOut (length shapes) (given_up a) false x) (behind_same a b alike) first.jobs) second.jobs

-- ---- projections that come to be up to date

refreshed_alike : (name : List ℕ) (a b : State) → AreAlikeStates a b → AreAlikeStates (refreshed name a) (refreshed name b)
refreshed_alike name a b alike = record {
  database = record {
    last = alike.database.last;
    ahm = alike.database.ahm;
    tables =
        map_zip (IsAlikeTable a.database.ahm) (IsAlikeTable a.database.ahm) (change_shape_of name (reached_to a.database.last)) (change_shape_of name (reached_to b.database.last))
        (λ t u same. moved_table a.database.ahm a.database.last b.database.last name t u alike.database.last same) a.database.tables b.database.tables alike.database.tables;
  };
  sessions = alike.sessions;
  current = alike.current;
  asked = ap (filter (λ (n : List ℕ). not (bytes_eq n name))) alike.asked;
}

stale_same : (table : List ℕ) (a b : State) → AreAlikeStates a b → stale_of table a.database ≡ stale_of table b.database
stale_same table a b alike =
    ap stale_names
    (both_or (IsAlikeTable a.database.ahm) (λ t. t.shapes) (λ t. t.shapes) [] (λ t u same. same.shapes) (table_named table a.database.tables) (table_named table b.database.tables)
    (found_zip (IsAlikeTable a.database.ahm) (λ t. bytes_eq t.name table) (λ t. bytes_eq t.name table) (λ t u same. ap (λ (n : List ℕ). bytes_eq n table) same.name) a.database.tables b.database.tables alike.database.tables))

abbrev OneRefreshed : List ℕ → State → State → Type 0
OneRefreshed table a x = RefreshesFirst (stale_of table a.database) a x

first_refreshed : (names : List (List ℕ)) (a b x y : State) → AreAlikeStates a b → RefreshesFirst names a x → RefreshesFirst names b y → AreAlikeStates x y
first_refreshed [] a b x y alike first second = absurd first
first_refreshed (name ∷ names) a b x y alike first second = drawn_alike a b (refreshed name a) (refreshed name b) x y first second (refreshed_alike name a b alike)

one_refreshed_alike : (table : List ℕ) (a b x y : State) → AreAlikeStates a b → OneRefreshed table a x → OneRefreshed table b y → AreAlikeStates x y
one_refreshed_alike table a b x y alike first second =
    first_refreshed (stale_of table b.database) a b x y alike (subst (λ (names : List (List ℕ)). RefreshesFirst names a x) (stale_same table a b alike) first) second

pub refreshes_alike : (table : List ℕ) (a b x y : State) → AreAlikeStates a b → RefreshesAll table a false x → RefreshesAll table b false y → AreAlikeStates x y
refreshes_alike table a b x y alike first second =
    jobs_alike (OneRefreshed table) (one_refreshed_alike table) (length (stale_of table b.database)) (given_up a) (given_up b) x y (given_up_alike a b alike)
    (subst (λ (names : List (List ℕ)). Jobs (OneRefreshed table) (length names) (given_up a) false x) (stale_same table a b alike) first.jobs) second.jobs

-- where numbers are left at its end a moveout wasn't stopped
not_stopped : (n : ℕ) (a x : State) (stopped : Bool) → are_spent x ≡ false → MovesOut n a stopped x → stopped ≡ false
not_stopped zero a x stopped left (goes, x_is) = goes
not_stopped (suc n) a x stopped left (inl (spent, stops, x_is)) =
    let never : true ≡ false = sym spent ∙ sym (ap (λ (s : State). are_spent s) x_is) ∙ left in
    absurd (cc)
not_stopped (suc n) a x stopped left (inr (has, mid, first, more)) = not_stopped n mid x stopped left more

pub left_goes : (a x : State) (stopped : Bool) → are_spent x ≡ false → MovesAll a stopped x → MovesAll a false x
left_goes a x stopped left moves = subst (λ (b : Bool). MovesAll a b x) (not_stopped (length (behind a.database)) (given_up a) x stopped left moves.jobs) moves
