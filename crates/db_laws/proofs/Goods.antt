-- The last good epoch never falls.
use Rattle.std.proofs.Common.{◌≡◌, ℕ, zero, suc, ◌+◌, ◌≤◌, ◌++◌, inl, inr, List, [], ◌∷◌, length, Bool, true, false, cond, map, filter, refl, sym, subst, arith}
use Rattle.std.specs.Prelude.{Option, Some, None, min, fold, bytes_eq}
use Rattle.std.specs.Bool.{OnTrue}
use Rattle.std.specs.List.{All}
use Rattle.std.specs.Ordering.{is_lt, nat_cmp}
use Rattle.std.specs.Cmp.Lexicographic.{slice_cmp}
use Rattle.std.proofs.lemmas.List.Elements.{All-nil, All-cons, All-head, All-tail, All-append, All-filter, All-map, All-contains, All-weaker}
use Rattle.col_value.specs.declared.column.Column.{Column}
use Rattle.col_value.specs.declared.kinds.Encoding.{Encoding}
use Rattle.sql_tree.specs.declared.statement.AddColumn.{AddColumn}
use Rattle.sql_tree.specs.declared.statement.NewProjection.{NewProjection}
use Rattle.sql_binding.specs.Additions.{default_value}
use Rattle.row_history.specs.History.{retained}
use Rattle.db_model.specs.Database.{Shape, Table, Database, put_table, has_columns, ordinals}
use Rattle.db_model.specs.State.{State, Changes, own_changes, has_changes, commit_into, change_named, commit_changes, committed}
use Rattle.db_model.specs.Sound.{ReachesMark, IsSoundShape, IsSoundTable, IsSoundDatabase}
use Rattle.db_model.specs.Epochs.{all_shapes, least_or, last_good}
use Rattle.db_model.specs.Events.{empty_table, is_empty_list, new_shape, put_shape, with_shape, without_shape, is_not_named, table_created, projection_created, table_dropped, projection_dropped, changes_committed, column_added, widened, with_column}
use Rattle.db_model.specs.Numbers.{are_spent, IsDrawn}
use Rattle.db_model.specs.Mover.{change_shape, change_shape_of, with_change, reached_to, behind, first_behind, moved_one, MovesFirst, given_up, MovesAll, Rises, refreshed, RaisesOne, RaisesAll, stale_of, RefreshesFirst, RefreshesAll, Installs, GoesOn, MayBegin, MovesOrBegins, StepsOn, StepsUnless, MoverSteps, MoverRuns}
use Rattle.db_laws.proofs.Jobs.{jobs_keep}

-- an up-to-date projection has all its data on disk up to an epoch
abbrev pub Reaches : ℕ → Shape → Type 0
Reaches n s = s.fresh ≡ true → n ≤ s.lge

abbrev pub TableReaches : ℕ → Table → Type 0
TableReaches n t = All (Reaches n) t.shapes

-- all of them have, and the epoch is closed
pub record IsGood (n : ℕ) (d : Database) : Type 0 where
  pub closed : n ≤ d.last
  pub tables : All (TableReaches n) d.tables

-- ---- the least of epochs

fold_from : (n a : ℕ) (ms : List ℕ) → n ≤ a → All (λ m. n ≤ m) ms → n ≤ fold min a ms
fold_from n a [] le all = le
fold_from n a (m ∷ ms) le all = fold_from n (min a m) ms (both n a m le (All-head (λ k. n ≤ k) m ms all)) (All-tail (λ k. n ≤ k) m ms all)
  where
    both : (n a m : ℕ) → n ≤ a → n ≤ m → n ≤ min a m
    both n a m x y = grind (arith)

least_from : (n other : ℕ) (ms : List ℕ) → n ≤ other → All (λ m. n ≤ m) ms → n ≤ least_or other ms
least_from n other [] le all = le
least_from n other (m ∷ ms) le all = fold_from n m ms (All-head (λ k. n ≤ k) m ms all) (All-tail (λ k. n ≤ k) m ms all)

fold_below : (a : ℕ) (ms : List ℕ) → (fold min a ms ≤ a) × All (λ m. fold min a ms ≤ m) ms
fold_below a [] = (le a, All-nil (λ m. fold min a [] ≤ m))
  where
    le : (n : ℕ) → n ≤ n
    le n = omega arith
fold_below a (m ∷ ms) = by (fold min (min a m) ms) (fold_below (min a m) ms)
  where
    left : (r a m : ℕ) → r ≤ min a m → r ≤ a
    left r a m x = grind (arith)

    right : (r a m : ℕ) → r ≤ min a m → r ≤ m
    right r a m x = grind (arith)

    by : (r : ℕ) → (r ≤ min a m) × All (λ k. r ≤ k) ms → (r ≤ a) × All (λ k. r ≤ k) (m ∷ ms)
    by r (first, rest) = (left r a m first, All-cons (λ k. r ≤ k) m ms (right r a m first) rest)

least_below : (other : ℕ) (ms : List ℕ) → All (λ m. least_or other ms ≤ m) ms
least_below other [] = All-nil (λ m. other ≤ m)
least_below other (m ∷ ms) = let b = fold_below m ms in All-cons (λ k. fold min m ms ≤ k) m ms b.0 b.1

least_within : (other : ℕ) (ms : List ℕ) → All (λ m. m ≤ other) ms → least_or other ms ≤ other
least_within other [] all = omega arith
least_within other (m ∷ ms) all = let b = fold_below m ms in omega (arith, b.0, All-head (λ k. k ≤ other) m ms all)

-- ---- shapes of all tables

pub shapes_joined : (P : Shape → Type 0) (ts : List Table) → All (λ t. All P t.shapes) ts → All P (all_shapes ts)
shapes_joined P [] all = All-nil P
shapes_joined P (t ∷ ts) all = All-append P t.shapes (all_shapes ts) (All-head (λ u. All P u.shapes) t ts all) (shapes_joined P ts (All-tail (λ u. All P u.shapes) t ts all))

front : (P : Shape → Type 0) (xs ys : List Shape) → All P (xs ++ ys) → All P xs
front P [] ys all = All-nil P
front P (x ∷ xs) ys all = All-cons P x xs (All-head P x (xs ++ ys) all) (front P xs ys (All-tail P x (xs ++ ys) all))

back : (P : Shape → Type 0) (xs ys : List Shape) → All P (xs ++ ys) → All P ys
back P [] ys all = all
back P (x ∷ xs) ys all = back P xs ys (All-tail P x (xs ++ ys) all)

pub shapes_apart : (P : Shape → Type 0) (ts : List Table) → All P (all_shapes ts) → All (λ t. All P t.shapes) ts
shapes_apart P [] all = All-nil (λ t. All P t.shapes)
shapes_apart P (t ∷ ts) all = All-cons (λ u. All P u.shapes) t ts (front P t.shapes (all_shapes ts) all) (shapes_apart P ts (back P t.shapes (all_shapes ts) all))

abbrev lges : List Shape → List ℕ
lges ss = map (λ s. s.lge) (filter (λ s. s.fresh) ss)

-- what holds of the epochs of the up-to-date ones
fresh_lges : (P : ℕ → Type 0) (ss : List Shape) → All (λ s. s.fresh ≡ true → P s.lge) ss → All P (lges ss)
fresh_lges P [] all = All-nil P
fresh_lges P (s ∷ ss) all = by s.fresh refl (All-head (λ t. t.fresh ≡ true → P t.lge) s ss all) (fresh_lges P ss (All-tail (λ t. t.fresh ≡ true → P t.lge) s ss all))
  where
    by : (b : Bool) → s.fresh ≡ b → (s.fresh ≡ true → P s.lge) → All P (lges ss) → All P (map (λ t. t.lge) (cond b (s ∷ filter (λ t. t.fresh) ss) (filter (λ t. t.fresh) ss)))
    by true is here rest = All-cons P s.lge (lges ss) (here is) rest
    by false is here rest = rest

lges_fresh : (P : ℕ → Type 0) (ss : List Shape) → All P (lges ss) → All (λ s. s.fresh ≡ true → P s.lge) ss
lges_fresh P [] all = All-nil (λ t. t.fresh ≡ true → P t.lge)
lges_fresh P (s ∷ ss) all = by s.fresh refl all (λ told. lges_fresh P ss told)
  where
    by : (b : Bool) → s.fresh ≡ b → All P (map (λ t. t.lge) (cond b (s ∷ filter (λ t. t.fresh) ss) (filter (λ t. t.fresh) ss))) → (All P (lges ss) → All (λ t. t.fresh ≡ true → P t.lge) ss) → All (λ t. t.fresh ≡ true → P t.lge) (s ∷ ss)
    by true is told rec = All-cons (λ t. t.fresh ≡ true → P t.lge) s ss (λ e. All-head P s.lge (lges ss) told) (rec (All-tail P s.lge (lges ss) told))
    by false is told rec = All-cons (λ t. t.fresh ≡ true → P t.lge) s ss (λ e. absurd (cc)) (rec told)

-- what is good up to an epoch is no less than it, and what a sound database has as its last good epoch is good
pub good_least : (n : ℕ) (d : Database) → IsGood n d → n ≤ last_good d
good_least n d good = least_from n d.last (lges (all_shapes d.tables)) good.closed (fresh_lges (λ m. n ≤ m) (all_shapes d.tables) (shapes_joined (Reaches n) d.tables good.tables))

sound_closed : (d : Database) (t : Table) → IsSoundTable d t → All (λ s. s.fresh ≡ true → s.lge ≤ d.last) t.shapes
sound_closed d t sound = All-weaker (IsSoundShape d) (λ s. s.fresh ≡ true → s.lge ≤ d.last) (λ s told. by s s.fresh told) t.shapes sound.shapes
  where
    by : (s : Shape) (b : Bool) → OnTrue b (ReachesMark d s) → b ≡ true → s.lge ≤ d.last
    by s true told is = told.closed
    by s false told is = absurd (cc)

pub good_itself : (d : Database) → IsSoundDatabase d → IsGood (last_good d) d
good_itself d sound = record {
  closed = least_within d.last (lges (all_shapes d.tables)) (fresh_lges (λ m. m ≤ d.last) (all_shapes d.tables) (shapes_joined (λ s. s.fresh ≡ true → s.lge ≤ d.last) d.tables
      (All-weaker (IsSoundTable d) (λ t. All (λ s. s.fresh ≡ true → s.lge ≤ d.last) t.shapes) (sound_closed d) d.tables sound.tables)));
  tables = shapes_apart (Reaches (last_good d)) d.tables (lges_fresh (λ m. last_good d ≤ m) (all_shapes d.tables) (least_below d.last (lges (all_shapes d.tables))));
}

-- ---- the events

good_put : (n : ℕ) (t : Table) (ts : List Table) → TableReaches n t → All (TableReaches n) ts → All (TableReaches n) (put_table t ts)
good_put n t [] here all = All-cons (TableReaches n) t [] here all
good_put n t (u ∷ us) here all = by (is_lt (slice_cmp nat_cmp t.name u.name)) (good_put n t us here (All-tail (TableReaches n) u us all))
  where
    by : (b : Bool) → All (TableReaches n) (put_table t us) → All (TableReaches n) (cond b (t ∷ (u ∷ us)) (u ∷ put_table t us))
    by true rest = All-cons (TableReaches n) t (u ∷ us) here all
    by false rest = All-cons (TableReaches n) u (put_table t us) (All-head (TableReaches n) u us all) rest

good_change : (n : ℕ) (name : List ℕ) (f : Table → Table) (ts : List Table) → ((t : Table) → TableReaches n t → TableReaches n (f t)) → All (TableReaches n) ts → All (TableReaches n) (change_named name f ts)
good_change n name f [] keeps all = all
good_change n name f (t ∷ ts) keeps all = by (bytes_eq t.name name) (good_change n name f ts keeps (All-tail (TableReaches n) t ts all))
  where
    by : (b : Bool) → All (TableReaches n) (change_named name f ts) → All (TableReaches n) (cond b (f t ∷ ts) (t ∷ change_named name f ts))
    by true rest = All-cons (TableReaches n) (f t) ts (keeps t (All-head (TableReaches n) t ts all)) (All-tail (TableReaches n) t ts all)
    by false rest = All-cons (TableReaches n) t (change_named name f ts) (All-head (TableReaches n) t ts all) rest

good_shape : (n : ℕ) (s : Shape) (ss : List Shape) → Reaches n s → All (Reaches n) ss → All (Reaches n) (put_shape s ss)
good_shape n s [] here all = All-cons (Reaches n) s [] here all
good_shape n s (o ∷ os) here all = by (is_lt (slice_cmp nat_cmp s.name o.name)) (good_shape n s os here (All-tail (Reaches n) o os all))
  where
    by : (b : Bool) → All (Reaches n) (put_shape s os) → All (Reaches n) (cond b (s ∷ (o ∷ os)) (o ∷ put_shape s os))
    by true rest = All-cons (Reaches n) s (o ∷ os) here all
    by false rest = All-cons (Reaches n) o (put_shape s os) (All-head (Reaches n) o os all) rest

good_new : (n mark last : ℕ) (p : NewProjection) (t : Table) → n ≤ last → Reaches n (new_shape mark last p t)
good_new n mark last p t le = by (is_empty_list (retained mark t.rows))
  where
    by : (b : Bool) → b ≡ true → n ≤ cond b last 0
    by true is = le
    by false is = absurd (cc)

pub good_created : (n : ℕ) (name : List ℕ) (columns : List Column) (state : State) → IsGood n state.database → IsGood n (table_created name columns state).database
good_created n name columns state good = record {
  closed = good.closed;
  tables = good_put n (empty_table name columns state.database.last) state.database.tables (All-cons (Reaches n) _ [] (λ e. good.closed) (All-nil (Reaches n))) good.tables;
}

pub good_projected : (n : ℕ) (p : NewProjection) (state : State) → IsGood n state.database → IsGood n (projection_created p state).database
good_projected n p state good = record {
  closed = good.closed;
  tables = good_change n p.table (with_shape state.database.ahm state.database.last p) state.database.tables
      (λ t here. good_shape n (new_shape state.database.ahm state.database.last p t) t.shapes (good_new n state.database.ahm state.database.last p t good.closed) here) good.tables;
}

pub good_dropped : (n : ℕ) (name : List ℕ) (state : State) → IsGood n state.database → IsGood n (table_dropped name state).database
good_dropped n name state good = record { closed = good.closed; tables = All-filter (λ t. is_not_named name t.name) (TableReaches n) state.database.tables good.tables }

pub good_bared : (n : ℕ) (name : List ℕ) (state : State) → IsGood n state.database → IsGood n (projection_dropped name state).database
good_bared n name state good = record {
  closed = good.closed;
  tables = All-map (TableReaches n) (without_shape name) state.database.tables
      (All-weaker (TableReaches n) (λ t. TableReaches n (without_shape name t)) (λ t here. All-filter (λ s. is_not_named name s.name) (Reaches n) t.shapes here) state.database.tables good.tables);
}

good_changes : (n epoch : ℕ) (cs : List Changes) (ts : List Table) → All (TableReaches n) ts → All (TableReaches n) (commit_changes epoch cs ts)
good_changes n epoch [] ts all = all
good_changes n epoch (c ∷ cs) ts all = good_changes n epoch cs (change_named c.table (commit_into epoch c) ts) (good_change n c.table (commit_into epoch c) ts (λ t here. here) all)

pub good_committed : (n : ℕ) (state : State) → IsGood n state.database → IsGood n (changes_committed state).database
good_committed n state good = by (has_changes (own_changes state))
  where
    later : (a b : ℕ) → a ≤ b → a ≤ b + 1
    later a b le = omega arith

    made : State
    made = record state { database = committed (own_changes state) state.database }

    by : (b : Bool) → IsGood n (cond b made state).database
    by true = record { closed = later n state.database.last good.closed; tables = good_changes n (state.database.last + 1) (own_changes state) state.database.tables good.tables }
    by false = good

good_with_column : (n : ℕ) (t : Table) (s : Shape) → Reaches n s → Reaches n (with_column t s)
good_with_column n t s here = by (has_columns s (ordinals t))
  where
    by : (b : Bool) → Reaches n (cond b (record s { columns = s.columns ++ (length t.columns, Encoding.Auto) ∷ [] }) s)
    by true = here
    by false = here

pub good_widened : (n : ℕ) (a : AddColumn) (state : State) → IsGood n state.database → IsGood n (column_added a state).database
good_widened n a state good = record {
  closed = good.closed;
  tables = good_change n a.table (widened a.column (default_value a)) state.database.tables
      (λ t here. All-map (Reaches n) (with_column t) t.shapes (All-weaker (Reaches n) (λ s. Reaches n (with_column t s)) (good_with_column n t) t.shapes here)) good.tables;
}

-- a projection reaches an epoch that is no less
good_changed : (n epoch : ℕ) (name : List ℕ) (d : Database) → n ≤ epoch → IsGood n d → IsGood n (with_change name (reached_to epoch) d)
good_changed n epoch name d le good = record {
  closed = good.closed;
  tables = All-map (TableReaches n) (change_shape_of name (reached_to epoch)) d.tables
      (All-weaker (TableReaches n) (λ t. TableReaches n (change_shape_of name (reached_to epoch) t))
      (λ t here. All-map (Reaches n) (change_shape name (reached_to epoch)) t.shapes (All-weaker (Reaches n) (λ s. Reaches n (change_shape name (reached_to epoch) s)) (λ s told. by s (bytes_eq s.name name) told) t.shapes here))
      d.tables good.tables);
}
  where
    by : (s : Shape) (b : Bool) → Reaches n s → Reaches n (cond b (reached_to epoch s) s)
    by s true told = λ e. le
    by s false told = told

pub good_drawn : (n : ℕ) (old made new : State) → IsDrawn old made new → IsGood n made.database → IsGood n new.database
good_drawn n old made new drawn good = subst (λ (x : State). IsGood n x.database) (sym drawn.same) good

good_first : (n : ℕ) (s : Option Shape) (old new : State) → MovesFirst s old new → IsGood n old.database → IsGood n new.database
good_first n None old new moves good = absurd moves
good_first n (Some s) old new moves good = good_drawn n old (moved_one s old) new moves (good_changed n old.database.last s.name old.database good.closed good)

pub good_all : (n : ℕ) (old : State) (stopped : Bool) (new : State) → MovesAll old stopped new → IsGood n old.database → IsGood n new.database
good_all n old stopped new moves good =
    jobs_keep (λ s. IsGood n s.database) (λ one other. MovesFirst (first_behind one.database) one other) (λ one other first here. good_first n (first_behind one.database) one other first here)
    (length (behind old.database)) (given_up old) stopped new moves.jobs good

good_rise : (n : ℕ) (old new : Database) → Rises old new → IsGood n old → IsGood n new
good_rise n old new rises good =
    let here : Reaches n rises.shape = All-contains (Reaches n) (all_shapes old.tables) rises.shape (shapes_joined (Reaches n) old.tables good.tables) rises.there in
    let le : n ≤ rises.epoch = omega (arith, here rises.fresh, rises.from) in
    subst (IsGood n) (sym rises.same) (good_changed n rises.epoch rises.shape.name old le good)

good_refreshed : (n : ℕ) (name : List ℕ) (state : State) → IsGood n state.database → IsGood n (refreshed name state).database
good_refreshed n name state good = good_changed n state.database.last name state.database good.closed good

good_installs : (n : ℕ) (old made : State) → Installs old made → IsGood n old.database → IsGood n made.database
good_installs n old made (inl same) good = subst (λ (x : State). IsGood n x.database) (sym same) good
good_installs n old made (inr (inl (d, rises, same))) good = subst (λ (x : State). IsGood n x.database) (sym same) (good_rise n old.database d rises good)
good_installs n old made (inr (inr (name, there, same))) good =
    subst (λ (x : State). IsGood n x.database) (sym same) (good_refreshed n name old good)

good_on : (n : ℕ) (b : Bool) (old new : State) → GoesOn b old new → IsGood n old.database → IsGood n new.database
good_on n true old new (made, installs, drawn) good = good_drawn n old made new drawn (good_installs n (given_up old) made installs good)
good_on n false old new same good = subst (λ (x : State). IsGood n x.database) (sym same) good

-- functions of several jobs

good_raise : (n : ℕ) (meant : Shape → Bool) (old new : State) → RaisesOne meant old new → IsGood n old.database → IsGood n new.database
good_raise n meant old new (d, rises, is, drawn) good = good_drawn n old (record old { database = d }) new drawn (good_rise n old.database d rises good)

pub good_raises : (n : ℕ) (meant : Shape → Bool) (old : State) (stopped : Bool) (new : State) → RaisesAll meant old stopped new → IsGood n old.database → IsGood n new.database
good_raises n meant old stopped new raises good = jobs_keep (λ s. IsGood n s.database) (RaisesOne meant) (good_raise n meant) raises.count (given_up old) stopped new raises.jobs good

good_refresh : (n : ℕ) (names : List (List ℕ)) (old new : State) → RefreshesFirst names old new → IsGood n old.database → IsGood n new.database
good_refresh n [] old new never good = absurd never
good_refresh n (name ∷ names) old new drawn good = good_drawn n old (refreshed name old) new drawn (good_refreshed n name old good)

pub good_refreshes : (n : ℕ) (table : List ℕ) (old : State) (stopped : Bool) (new : State) → RefreshesAll table old stopped new → IsGood n old.database → IsGood n new.database
good_refreshes n table old stopped new refreshes good =
    jobs_keep (λ s. IsGood n s.database) (λ one other. RefreshesFirst (stale_of table one.database) one other) (λ one other first here. good_refresh n (stale_of table one.database) one other first here)
    (length (stale_of table old.database)) (given_up old) stopped new refreshes.jobs good

good_begun : (n : ℕ) (old new : State) → MayBegin old new → IsGood n old.database → IsGood n new.database
good_begun n old new (inl (none, same)) good = subst (λ (x : State). IsGood n x.database) (sym same) good
good_begun n old new (inr (steps, least, most, drawn)) good = good_drawn n old (record old { busy = steps }) new drawn good

good_moves : (n : ℕ) (s : Option Shape) (old new : State) → MovesOrBegins s old new → IsGood n old.database → IsGood n new.database
good_moves n (Some s) old new moves good = good_drawn n old (moved_one s old) new moves (good_changed n old.database.last s.name old.database good.closed good)
good_moves n None old new begins good = good_begun n old new begins good

good_steps : (n : ℕ) (b : Bool) (old new : State) → StepsOn b old new → IsGood n old.database → IsGood n new.database
good_steps n true old new goes good = good_on n (_) old new goes good
good_steps n false old new moves good = good_moves n (first_behind old.database) old new moves good

good_unless : (n : ℕ) (b : Bool) (old new : State) → StepsUnless b old new → IsGood n old.database → IsGood n new.database
good_unless n true old new same good = subst (λ (x : State). IsGood n x.database) (sym same) good
good_unless n false old new steps good = good_steps n (_) old new steps good

pub good_mover : (n : ℕ) (old new : State) → MoverSteps old new → IsGood n old.database → IsGood n new.database
good_mover n old new steps good = good_unless n (are_spent old) old new steps good

pub good_runs : (n count : ℕ) (old new : State) → MoverRuns count old new → IsGood n old.database → IsGood n new.database
good_runs n zero old new same good = subst (λ (x : State). IsGood n x.database) (sym same) good
good_runs n (suc count) old new (mid, first, rest) good = good_runs n count mid new rest (good_mover n old mid first good)
