-- What isn't up to date of a database isn't in one that comes of it.
use Rattle.std.proofs.Common.{◌≡◌, ◌⊎◌, inl, inr, ◌+◌, ◌<◌, ℕ, zero, suc, Bool, true, false, cond, List, [], ◌∷◌, ◌++◌, length, get_or, map, filter, refl, sym, ◌∙◌, ap, subst, arith}
use Rattle.std.specs.Prelude.{not, find, bytes_eq, Contains, Option, Some, None, option_map}
use Rattle.std.specs.List.{All, AllPairs, list_any, enumerate_from}
use Rattle.std.specs.Option.{option_map_or}
use Rattle.std.specs.Ordering.{is_lt, nat_cmp}
use Rattle.std.specs.Cmp.Lexicographic.{slice_cmp}
use Rattle.std.proofs.lemmas.List.{map-append}
use Rattle.std.proofs.lemmas.List.Concat.{flat_map-cons}
use Rattle.std.proofs.lemmas.List.Elements.{All-head, All-tail, All-cons, All-nil, All-append, All-contains, All-contains_itself, All-filter, All-map, All-weaker, filter_passes}
use Rattle.std.proofs.lemmas.List.Folds.{list_any_at}
use Rattle.std.proofs.lemmas.Slice.Eq.{bytes_eq-Decides}
use Rattle.db_model.specs.Database.{Database, Shape, Table, put_table, table_named}
use Rattle.db_model.specs.Epochs.{all_shapes}
use Rattle.db_model.specs.Events.{is_not_named, is_of_table, put_shape, stale_names}
use Rattle.db_model.specs.Mover.{change_shape, change_shape_of, with_change}
use Rattle.db_model.specs.Sound.{IsSoundDatabase, IsStale, all_names, names_of}
use Rattle.db_model.specs.State.{change_named}
use Rattle.db_model.specs.Views.{table_found}
use Rattle.db_laws.proofs.Goods.{shapes_joined, shapes_apart as shapes_of_tables}
use Rattle.sound_laws.proofs.Changes.{found_all, names_differ}
use Rattle.sound_laws.proofs.Created.{Differ, differ_turned}
use Rattle.sound_laws.proofs.Pairs.{pairs_none, pairs_head, pairs_tail, pairs_front, pairs_back, pairs_across, pairs_join, all_front, all_back}

-- ---- elements of lists that come of others

all_of_map : {X Y : Type 0} (P : Y → Type 0) (f : X → Y) (xs : List X) → All P (map f xs) → All (λ x. P (f x)) xs
all_of_map P f [] all = All-nil (λ x. P (f x))
all_of_map P f (x ∷ xs) all =
    All-cons (λ y. P (f y)) x xs (All-head P (f x) (map f xs) all) (all_of_map P f xs (All-tail P (f x) (map f xs) all))

pub in_map : {X Y : Type 0} (f : X → Y) (xs : List X) (x : X) → Contains xs x → Contains (map f xs) (f x)
in_map f xs x there =
    All-contains (λ y. Contains (map f xs) (f y)) xs x (all_of_map (Contains (map f xs)) f xs (All-contains_itself (map f xs))) there

all_of_filter : {X : Type 0} (P : X → Type 0) (p : X → Bool) (xs : List X) → All P (filter p xs) → All (λ x. p x ≡ true → P x) xs
all_of_filter P p [] all = All-nil (λ x. p x ≡ true → P x)
all_of_filter P p (x ∷ xs) all = by (p x) refl (λ rest. all_of_filter P p xs rest) all
  where
    by : (b : Bool) → p x ≡ b → (All P (filter p xs) → All (λ y. p y ≡ true → P y) xs) → All P (cond b (x ∷ filter p xs) (filter p xs))
        → All (λ y. p y ≡ true → P y) (x ∷ xs)
    by true is more some =
        All-cons (λ y. p y ≡ true → P y) x xs (λ on. All-head P x (filter p xs) some) (more (All-tail P x (filter p xs) some))
    by false is more rest = All-cons (λ y. p y ≡ true → P y) x xs (λ on. absurd (cc)) (more rest)

pub in_filter : {X : Type 0} (p : X → Bool) (xs : List X) (x : X) → p x ≡ true → Contains xs x → Contains (filter p xs) x
in_filter p xs x passes there =
    All-contains (λ y. p y ≡ true → Contains (filter p xs) y) xs x (all_of_filter (Contains (filter p xs)) p xs (All-contains_itself (filter p xs))) there passes

all_of_put : (P : Table → Type 0) (t : Table) (us : List Table) → All P (put_table t us) → All P us
all_of_put P t [] all = All-nil P
all_of_put P t (u ∷ us) all = by (is_lt (slice_cmp nat_cmp t.name u.name)) all (λ rest. all_of_put P t us rest)
  where
    by : (b : Bool) → All P (cond b (t ∷ (u ∷ us)) (u ∷ put_table t us)) → (All P (put_table t us) → All P us) → All P (u ∷ us)
    by true some more = All-tail P t (u ∷ us) some
    by false some more = All-cons P u us (All-head P u (put_table t us) some) (more (All-tail P u (put_table t us) some))

in_put : (t : Table) (us : List Table) (u : Table) → Contains us u → Contains (put_table t us) u
in_put t us u there =
    All-contains (Contains (put_table t us)) us u (all_of_put (Contains (put_table t us)) t us (All-contains_itself (put_table t us))) there

all_of_put_shape : (P : Shape → Type 0) (s : Shape) (os : List Shape) → All P (put_shape s os) → All P os
all_of_put_shape P s [] all = All-nil P
all_of_put_shape P s (o ∷ os) all = by (is_lt (slice_cmp nat_cmp s.name o.name)) all (λ rest. all_of_put_shape P s os rest)
  where
    by : (b : Bool) → All P (cond b (s ∷ (o ∷ os)) (o ∷ put_shape s os)) → (All P (put_shape s os) → All P os) → All P (o ∷ os)
    by true some more = All-tail P s (o ∷ os) some
    by false some more = All-cons P o os (All-head P o (put_shape s os) some) (more (All-tail P o (put_shape s os) some))

pub in_put_shape : (s : Shape) (os : List Shape) (o : Shape) → Contains os o → Contains (put_shape s os) o
in_put_shape s os o there =
    All-contains (Contains (put_shape s os)) os o (all_of_put_shape (Contains (put_shape s os)) s os (All-contains_itself (put_shape s os))) there

all_of_change : (P : Table → Type 0) (name : List ℕ) (f : Table → Table) (ts : List Table) → All P (change_named name f ts)
    → All (λ t. P t ⊎ P (f t)) ts
all_of_change P name f [] all = All-nil (λ t. P t ⊎ P (f t))
all_of_change P name f (t ∷ ts) all = by (bytes_eq t.name name) all (λ rest. all_of_change P name f ts rest)
  where
    by : (b : Bool) → All P (cond b (f t ∷ ts) (t ∷ change_named name f ts))
        → (All P (change_named name f ts) → All (λ u. P u ⊎ P (f u)) ts) → All (λ u. P u ⊎ P (f u)) (t ∷ ts)
    by true some more =
        All-cons (λ u. P u ⊎ P (f u)) t ts (inr (All-head P (f t) ts some)) (All-weaker P (λ u. P u ⊎ P (f u)) (λ u is. inl is) ts (All-tail P (f t) ts some))
    by false some more =
        All-cons (λ u. P u ⊎ P (f u)) t ts (inl (All-head P t (change_named name f ts) some)) (more (All-tail P t (change_named name f ts) some))

in_change : (name : List ℕ) (f : Table → Table) (ts : List Table) (t : Table) → Contains ts t
    → Contains (change_named name f ts) t ⊎ Contains (change_named name f ts) (f t)
in_change name f ts t there =
    let changed = change_named name f ts in
    All-contains (λ u. Contains changed u ⊎ Contains changed (f u)) ts t (all_of_change (Contains changed) name f ts (All-contains_itself changed)) there

-- ---- tables that come, go or change

-- a table has a projection of this name that isn't up to date
pub record HasStale (name : List ℕ) (t : Table) : Type 0 where
  pub shape : Shape
  pub of : Contains t.shapes shape
  pub named : shape.name ≡ name
  pub stale : shape.fresh ≡ false

stale_in : (d : Database) (name : List ℕ) (t : Table) → Contains d.tables t → HasStale name t → IsStale d name
stale_in d name t there has = record { table = t; shape = has.shape; there = there; of = has.of; named = has.named; stale = has.stale }

has_stale : (d : Database) (name : List ℕ) (is : IsStale d name) → HasStale name is.table
has_stale d name is = record { shape = is.shape; of = is.of; named = is.named; stale = is.stale }

pub stale_put : (d : Database) (t : Table) (name : List ℕ) → IsStale d name → IsStale (record d { tables = put_table t d.tables }) name
stale_put d t name is =
    stale_in (record d { tables = put_table t d.tables }) name is.table (in_put t d.tables is.table is.there) (has_stale d name is)

pub stale_mapped : (d e : Database) (f : Table → Table) (name : List ℕ) → e.tables ≡ map f d.tables
    → ((t : Table) → HasStale name t → HasStale name (f t)) → IsStale d name → IsStale e name
stale_mapped d e f name same keeps is =
    stale_in e name (f is.table) (subst (λ (ts : List Table). Contains ts (f is.table)) (sym same) (in_map f d.tables is.table is.there)) (keeps is.table (has_stale d name is))

pub stale_changed : (d : Database) (table : List ℕ) (f : Table → Table) (name : List ℕ)
    → ((t : Table) → HasStale name t → HasStale name (f t)) → IsStale d name
    → IsStale (record d { tables = change_named table f d.tables }) name
stale_changed d table f name keeps is = by (in_change table f d.tables is.table is.there)
  where
    after : Database
    after = record d { tables = change_named table f d.tables }

    by : Contains after.tables is.table ⊎ Contains after.tables (f is.table) → IsStale after name
    by (inl there) = stale_in after name is.table there (has_stale d name is)
    by (inr there) = stale_in after name (f is.table) there (keeps is.table (has_stale d name is))

-- ---- a table that goes takes its own along

found_at : (name : List ℕ) (k : ℕ) (ts : List Table)
    → option_map (λ e. e.1) (find (λ e. bytes_eq e.1.name name) (enumerate_from k ts)) ≡ table_named name ts
found_at name k [] = refl
found_at name k (t ∷ ts) = by (bytes_eq t.name name) (found_at name (k + 1) ts)
  where
    by : (b : Bool) → option_map (λ e. e.1) (find (λ e. bytes_eq e.1.name name) (enumerate_from (k + 1) ts)) ≡ table_named name ts
        → option_map (λ (e : ℕ × Table). e.1) (cond b (Some (k, t)) (find (λ e. bytes_eq e.1.name name) (enumerate_from (k + 1) ts))) ≡ cond b (Some t) (table_named name ts)
    by true rest = refl
    by false rest = rest

shapes_of : (o : Option (ℕ × Table)) (t : Table) → option_map (λ e. e.1) o ≡ Some t → option_map_or (λ e. e.1.shapes) o [] ≡ t.shapes
shapes_of None t is = absurd (cc)
shapes_of (Some e) t is = let same : e.1 ≡ t = cc in ap (λ (u : Table). u.shapes) same

any_named : (t : Table) (name : List ℕ) → HasStale name t → list_any (λ s. bytes_eq s.name name) t.shapes ≡ true
any_named t name has =
    let (k, lt, at) = has.of in
    list_any_at (λ s. bytes_eq s.name name) t.shapes k has.shape lt
    ((bytes_eq-Decides (get_or t.shapes k has.shape).name name).1 (ap (λ (s : Shape). s.name) at ∙ has.named))

not_of : (d : Database) (table name : List ℕ) (is : IsStale d name) → IsSoundDatabase d → not (is_of_table table d.tables name) ≡ true
    → is_not_named table is.table.name ≡ true
not_of d table name is sound other = by (bytes_eq is.table.name table) refl
  where
    by : (b : Bool) → bytes_eq is.table.name table ≡ b → not b ≡ true
    by false off = refl
    by true on =
        let same : is.table.name ≡ table = (bytes_eq-Decides is.table.name table).0 on in
        let found : table_named is.table.name d.tables ≡ Some is.table = All-contains (λ u. table_named u.name d.tables ≡ Some u) d.tables is.table (found_all d.tables (names_differ d sound)) is.there in
        let there : option_map (λ e. e.1) (table_found table d.tables) ≡ Some is.table = found_at table 0 d.tables ∙ ap (λ (n : List ℕ). table_named n d.tables) (sym same) ∙ found in
        let of : is_of_table table d.tables name ≡ true =
        ap (λ (ss : List Shape). list_any (λ s. bytes_eq s.name name) ss) (shapes_of (table_found table d.tables) is.table there) ∙ any_named is.table name (has_stale d name is) in
        absurd (cc)

pub stale_left : (d : Database) (table name : List ℕ) → IsSoundDatabase d → not (is_of_table table d.tables name) ≡ true → IsStale d name
    → IsStale (record d { tables = filter (λ t. is_not_named table t.name) d.tables }) name
stale_left d table name sound other is =
    stale_in (record d { tables = filter (λ t. is_not_named table t.name) d.tables }) name is.table (in_filter (λ t. is_not_named table t.name) d.tables is.table (not_of d table name is sound other) is.there)
    (has_stale d name is)

-- what holds of each name behind a filter holds where it passes
pub filtered : {X : Type 0} (P Q : X → Type 0) (p : X → Bool) (xs : List X) → ((x : X) → p x ≡ true → P x → Q x) → All P xs
    → All Q (filter p xs)
filtered P Q p xs keeps all i d lt = keeps (get_or (filter p xs) i d) (filter_passes p xs i d lt) (All-filter p P xs all i d lt)

-- ---- a projection that comes to be up to date

-- the others stay
has_other : (name other : List ℕ) (f : Shape → Shape) (t : Table) → Differ name other → HasStale name t
    → HasStale name (change_shape_of other f t)
has_other name other f t differ has = record {
  shape = has.shape;
  of = subst (Contains (map (change_shape other f) t.shapes)) same (in_map (change_shape other f) t.shapes has.shape has.of);
  named = has.named;
  stale = has.stale;
}
  where
    off : bytes_eq has.shape.name other ≡ false
    off = subst (λ (n : List ℕ). bytes_eq n other ≡ false) (sym has.named) differ

    same : change_shape other f has.shape ≡ has.shape
    same = ap (λ (b : Bool). cond b (f has.shape) has.shape) off

pub stale_other : (d : Database) (name other : List ℕ) (f : Shape → Shape) → Differ name other → IsStale d name
    → IsStale (with_change other f d) name
stale_other d name other f differ is =
    stale_mapped d (with_change other f d) (change_shape_of other f) name refl (λ t has. has_other name other f t differ has) is

-- no two projections have one name

abbrev pub shape_names : List Shape → List (List ℕ)
shape_names ss = map (λ s. s.name) ss

names_split : (t : Table) (ts : List Table) → shape_names (all_shapes (t ∷ ts)) ≡ shape_names t.shapes ++ shape_names (all_shapes ts)
names_split t ts = ap (map (λ s. s.name)) (flat_map-cons (λ (u : Table). u.shapes) t ts) ∙ map-append (λ s. s.name) t.shapes (all_shapes ts)

all_of_shapes : (P : List ℕ → Type 0) (ts : List Table) → All P (all_names ts) → All P (shape_names (all_shapes ts))
all_of_shapes P [] all = all
all_of_shapes P (t ∷ ts) all =
    let both : All P (names_of t ++ all_names ts) = subst (All P) (flat_map-cons names_of t ts) all in
    subst (All P) (sym (names_split t ts))
    (All-append P (shape_names t.shapes) (shape_names (all_shapes ts)) (All-tail P t.name (shape_names t.shapes) (all_front P (names_of t) (all_names ts) both)) (all_of_shapes P ts (all_back P (names_of t) (all_names ts) both)))

pub shapes_apart : (ts : List Table) → AllPairs Differ (all_names ts) → AllPairs Differ (shape_names (all_shapes ts))
shapes_apart [] pairs = pairs_none Differ
shapes_apart (t ∷ ts) pairs =
    let both : AllPairs Differ (names_of t ++ all_names ts) = subst (AllPairs Differ) (flat_map-cons names_of t ts) pairs in
    let own : AllPairs Differ (shape_names t.shapes) = pairs_tail Differ t.name (shape_names t.shapes) (pairs_front Differ (names_of t) (all_names ts) both) in
    let across : All (λ n. All (Differ n) (all_names ts)) (shape_names t.shapes) =
    All-tail (λ n. All (Differ n) (all_names ts)) t.name (shape_names t.shapes) (pairs_across Differ (names_of t) (all_names ts) both) in
    subst (AllPairs Differ) (sym (names_split t ts))
    (pairs_join Differ (shape_names t.shapes) (shape_names (all_shapes ts)) own (shapes_apart ts (pairs_back Differ (names_of t) (all_names ts) both))
    (All-weaker (λ n. All (Differ n) (all_names ts)) (λ n. All (Differ n) (shape_names (all_shapes ts))) (λ n all. all_of_shapes (Differ n) ts all) (shape_names t.shapes) across))

-- so each of an up-to-date one's name is up to date
fresh_named : (ss : List Shape) (s : Shape) → AllPairs Differ (shape_names ss) → Contains ss s → s.fresh ≡ true
    → All (λ o. o.fresh ≡ false → Differ o.name s.name) ss
fresh_named [] s pairs there fresh = All-nil (λ o. o.fresh ≡ false → Differ o.name s.name)
fresh_named (x ∷ ss) s pairs (k, lt, at) fresh =
    by k lt at (λ there. fresh_named ss s (pairs_tail Differ x.name (shape_names ss) pairs) there fresh)
  where
    Apart : Shape → Type 0
    Apart o = o.fresh ≡ false → Differ o.name s.name

    front : All (Differ x.name) (shape_names ss)
    front = pairs_head Differ x.name (shape_names ss) pairs

    by : (j : ℕ) → j < length (x ∷ ss) → get_or (x ∷ ss) j s ≡ s → (Contains ss s → All Apart ss) → All Apart (x ∷ ss)
    by zero below is more =
        All-cons Apart x ss (λ stale. let on : x.fresh ≡ true = ap (λ (o : Shape). o.fresh) is ∙ fresh in absurd (cc))
        (All-weaker (λ o. Differ x.name o.name) Apart (λ o other stale. subst (λ (y : Shape). Differ o.name y.name) is (differ_turned x.name o.name other)) ss
        (all_of_map (Differ x.name) (λ o. o.name) ss front))
    by (suc j) below is more =
        let there : Contains ss s = (j, omega (arith, below), is) in
        All-cons Apart x ss (λ stale. All-contains (λ o. Differ x.name o.name) ss s (all_of_map (Differ x.name) (λ o. o.name) ss front) there)
        (more there)

in_all_shapes : (ts : List Table) (t : Table) (s : Shape) → Contains ts t → Contains t.shapes s → Contains (all_shapes ts) s
in_all_shapes ts t s there of =
    All-contains (Contains (all_shapes ts)) t.shapes s
    (All-contains (λ u. All (Contains (all_shapes ts)) u.shapes) ts t (shapes_of_tables (Contains (all_shapes ts)) ts (All-contains_itself (all_shapes ts))) there) of

pub fresh_differs : (d : Database) (s : Shape) (name : List ℕ) → IsSoundDatabase d → Contains (all_shapes d.tables) s → s.fresh ≡ true
    → IsStale d name → Differ name s.name
fresh_differs d s name sound there fresh is =
    subst (λ (n : List ℕ). Differ n s.name) is.named
    (All-contains (λ o. o.fresh ≡ false → Differ o.name s.name) (all_shapes d.tables) is.shape (fresh_named (all_shapes d.tables) s (shapes_apart d.tables sound.names) there fresh)
    (in_all_shapes d.tables is.table is.shape is.there is.of) is.stale)

-- ---- all that aren't up to date

pub stale_are_stale : (d : Database) → All (IsStale d) (stale_names (all_shapes d.tables))
stale_are_stale d =
    All-map (IsStale d) (λ s. s.name) (filter (λ s. not s.fresh) (all_shapes d.tables))
    (filtered Named (λ s. IsStale d s.name) (λ s. not s.fresh) (all_shapes d.tables) (λ s passes named. named (not_true s.fresh passes))
    (shapes_joined Named d.tables (All-weaker (Contains d.tables) (λ t. All Named t.shapes) each d.tables (All-contains_itself d.tables))))
  where
    Named : Shape → Type 0
    Named s = s.fresh ≡ false → IsStale d s.name

    not_true : (b : Bool) → not b ≡ true → b ≡ false
    not_true true is = absurd (cc)
    not_true false is = refl

    each : (t : Table) → Contains d.tables t → All Named t.shapes
    each t there =
        All-weaker (Contains t.shapes) Named (λ s of stale. record { table = t; shape = s; there = there; of = of; named = refl; stale = stale }) t.shapes (All-contains_itself t.shapes)
