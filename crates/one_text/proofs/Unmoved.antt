-- A state without what the mover makes of it: what is found in it, why it refuses a statement, what it prints and what it leaves.
use Rattle.std.proofs.Common.{◌≡◌, ℕ, ◌+◌, ◌++◌, Bool, true, false, cond, List, [], ◌∷◌, length, map, filter, refl, ap, ap₂, ◌∙◌}
use Rattle.std.specs.Prelude.{◌||◌, Option, Some, None, find, bytes_eq, option_map}
use Rattle.std.specs.List.{enumerate_from, flat_map, list_any}
use Rattle.std.specs.Option.{option_map_or}
use Rattle.std.specs.Ordering.{is_lt, nat_cmp}
use Rattle.std.specs.Cmp.Lexicographic.{slice_cmp}
use Rattle.std.proofs.lemmas.List.{length-map}
use Rattle.col_value.specs.declared.column.Column.{Column}
use Rattle.col_value.specs.declared.kinds.Encoding.{Encoding}
use Rattle.col_value.specs.declared.value.Value.{Value}
use Rattle.sql_tree.specs.declared.query.At.{At}
use Rattle.sql_tree.specs.declared.query.Query.{Query}
use Rattle.sql_tree.specs.declared.query.Source.{Source}
use Rattle.sql_binding.specs.Queries.{bound_query}
use Rattle.db_model.specs.Database.{Shape, Table, has_columns, is_taken, ordinals, put_table}
use Rattle.db_model.specs.Events.{is_not_named, put_shape, with_column, widened}
use Rattle.db_model.specs.State.{Changes, State, change_named, commit_changes, commit_into}
use Rattle.db_model.specs.Views.{bound_in, columns_found, inputs, rows_read, source_columns, source_tables, table_found}
use Rattle.one_text.specs.Movers.{unmoved, unmoved_shape, unmoved_table}

abbrev pub Found : Type 0
Found = ℕ × Table

-- such a state, over which no number was drawn
abbrev pub still : State → State
still a = record { database = unmoved a.database; sessions = a.sessions; current = a.current; asked = []; next = 1; busy = 0; parts = 0 }

abbrev pub still_found : Found → Found
still_found e = (e.0, unmoved_table e.1)

-- ---- what is found

find_still : (name : List ℕ) (n : ℕ) (ts : List Table)
    → find (λ e. bytes_eq e.1.name name) (enumerate_from n (map unmoved_table ts)) ≡ option_map still_found (find (λ e. bytes_eq e.1.name name) (enumerate_from n ts))
find_still name n [] = refl
find_still name n (t ∷ ts) = by (bytes_eq t.name name) (find_still name (n + 1) ts)
  where
    by : (b : Bool) → find (λ e. bytes_eq e.1.name name) (enumerate_from (n + 1) (map unmoved_table ts)) ≡ option_map still_found (find (λ e. bytes_eq e.1.name name) (enumerate_from (n + 1) ts))
        → cond b (Some (n, unmoved_table t)) (find (λ e. bytes_eq e.1.name name) (enumerate_from (n + 1) (map unmoved_table ts)))
        ≡ option_map still_found (cond b (Some (n, t)) (find (λ e. bytes_eq e.1.name name) (enumerate_from (n + 1) ts)))
    by true rest = refl
    by false rest = rest

pub found_still : (name : List ℕ) (ts : List Table) → table_found name (map unmoved_table ts) ≡ option_map still_found (table_found name ts)
found_still name ts = find_still name 0 ts

-- two functions of what is found agree where they do on the table that is
pub by_found : {X : Type 0} (name : List ℕ) (ts : List Table) (f g : Option Found → X) → ((o : Option Found) → f (option_map still_found o) ≡ g o)
    → f (table_found name (map unmoved_table ts)) ≡ g (table_found name ts)
by_found name ts f g same = ap f (found_still name ts) ∙ same (table_found name ts)

pub columns_still : (name : List ℕ) (ts : List Table) → columns_found (map unmoved_table ts) name ≡ columns_found ts name
columns_still name ts = by_found name ts (λ o. option_map (λ e. e.1.columns) o) (λ o. option_map (λ e. e.1.columns) o) of
  where
    of : (o : Option Found) → option_map (λ e. e.1.columns) (option_map still_found o) ≡ option_map (λ e. e.1.columns) o
    of None = refl
    of (Some e) = refl

named_still : (name : List ℕ) (ss : List Shape) → list_any (λ s. bytes_eq s.name name) (map unmoved_shape ss) ≡ list_any (λ s. bytes_eq s.name name) ss
named_still name [] = refl
named_still name (s ∷ ss) = ap (λ (b : Bool). bytes_eq s.name name || b) (named_still name ss)

pub taken_still : (name : List ℕ) (ts : List Table) → is_taken name (map unmoved_table ts) ≡ is_taken name ts
taken_still name [] = refl
taken_still name (t ∷ ts) = ap₂ (λ (x y : Bool). (bytes_eq t.name name || x) || y) (named_still name t.shapes) (taken_still name ts)

pub tables_still : (ts : List Table) → length (map unmoved_table ts) ≡ length ts
tables_still ts = length-map ts unmoved_table

pub shapes_still : (ss : List Shape) → length (map unmoved_shape ss) ≡ length ss
shapes_still ss = length-map ss unmoved_shape

-- ---- what a query reads

sources_still : (ts : List Table) (sources : List Source)
    → flat_map (λ s. option_map_or (λ e. e ∷ []) (table_found s.table (map unmoved_table ts)) []) sources ≡ map still_found (flat_map (λ s. option_map_or (λ e. e ∷ []) (table_found s.table ts) []) sources)
sources_still ts [] = refl
sources_still ts (s ∷ sources) =
    ap₂ (λ (o : Option Found) (rest : List Found). option_map_or (λ e. e ∷ []) o [] ++ rest) (found_still s.table ts) (sources_still ts sources)
    ∙ one (table_found s.table ts)
  where
    rest : List Found
    rest = flat_map (λ (x : Source). option_map_or (λ e. e ∷ []) (table_found x.table ts) []) sources

    one : (o : Option Found) → option_map_or (λ e. e ∷ []) (option_map still_found o) [] ++ map still_found rest ≡ map still_found (option_map_or (λ e. e ∷ []) o [] ++ rest)
    one None = refl
    one (Some e) = refl

-- a table's place with its columns
abbrev of_place : Found → ℕ × List Column
of_place e = (e.0, e.1.columns)

placed_still : (es : List Found) → map of_place (map still_found es) ≡ map of_place es
placed_still [] = refl
placed_still (e ∷ es) = ap (λ (rest : List (ℕ × List Column)). of_place e ∷ rest) (placed_still es)

pub bound_still : (a : State) (q : Query) → bound_in (still a) q ≡ bound_in a q
bound_still a q =
    ap (λ (es : List Found). bound_query (map of_place es) q) (sources_still a.database.tables q.sources)
    ∙ ap (λ (cs : List (ℕ × List Column)). bound_query cs q) (placed_still (source_tables a.database.tables q))

read_still : (at : At) (a : State) (t : Table) → rows_read at (still a) (unmoved_table t) ≡ rows_read at a t
read_still At.View a t = refl
read_still At.Latest a t = refl
read_still (At.Epoch n) a t = refl

all_read : (at : At) (a : State) (es : List Found) → map (λ e. rows_read at (still a) e.1) (map still_found es) ≡ map (λ e. rows_read at a e.1) es
all_read at a [] = refl
all_read at a (e ∷ es) = ap₂ (λ (rows : List (List Value)) (rest : List (List (List Value))). rows ∷ rest) (read_still at a e.1) (all_read at a es)

pub inputs_still : (at : At) (a : State) (q : Query) → inputs at (still a) q ≡ inputs at a q
inputs_still at a q =
    ap (λ (es : List Found). map (λ e. rows_read at (still a) e.1) es) (sources_still a.database.tables q.sources) ∙ all_read at a (source_tables a.database.tables q)

pub source_columns_still : (ts : List Table) (q : Query) → source_columns (map unmoved_table ts) q ≡ source_columns ts q
source_columns_still ts q = all q.sources
  where
    all : (sources : List Source) → map (λ s. columns_found (map unmoved_table ts) s.table) sources ≡ map (λ s. columns_found ts s.table) sources
    all [] = refl
    all (s ∷ sources) = ap₂ (λ (o : Option (List Column)) (rest : List (Option (List Column))). o ∷ rest) (columns_still s.table ts) (all sources)

-- ---- what events make of tables

shapes_twice : (ss : List Shape) → map unmoved_shape (map unmoved_shape ss) ≡ map unmoved_shape ss
shapes_twice [] = refl
shapes_twice (s ∷ ss) = ap (λ (rest : List Shape). unmoved_shape s ∷ rest) (shapes_twice ss)

table_twice : (t : Table) → unmoved_table (unmoved_table t) ≡ unmoved_table t
table_twice t = ap (λ (ss : List Shape). record t { shapes = ss }) (shapes_twice t.shapes)

pub tables_twice : (ts : List Table) → map unmoved_table (map unmoved_table ts) ≡ map unmoved_table ts
tables_twice [] = refl
tables_twice (t ∷ ts) = ap₂ (λ (one : Table) (rest : List Table). one ∷ rest) (table_twice t) (tables_twice ts)

pub put_still : (t u : Table) (ts : List Table) → t.name ≡ u.name → unmoved_table t ≡ unmoved_table u → map unmoved_table (put_table t (map unmoved_table ts)) ≡ map unmoved_table (put_table u ts)
put_still t u [] name same = ap (λ (one : Table). one ∷ []) same
put_still t u (x ∷ ts) name same =
    ap (λ (n : List ℕ). map unmoved_table (cond (is_lt (slice_cmp nat_cmp n x.name)) (t ∷ map unmoved_table (x ∷ ts)) (unmoved_table x ∷ put_table t (map unmoved_table ts)))) name
    ∙ by (is_lt (slice_cmp nat_cmp u.name x.name)) (put_still t u ts name same)
  where
    by : (b : Bool) → map unmoved_table (put_table t (map unmoved_table ts)) ≡ map unmoved_table (put_table u ts)
        → map unmoved_table (cond b (t ∷ map unmoved_table (x ∷ ts)) (unmoved_table x ∷ put_table t (map unmoved_table ts))) ≡ map unmoved_table (cond b (u ∷ (x ∷ ts)) (x ∷ put_table u ts))
    by true rest = ap₂ (λ (one : Table) (more : List Table). one ∷ more) same (tables_twice (x ∷ ts))
    by false rest = ap₂ (λ (one : Table) (more : List Table). one ∷ more) (table_twice x) rest

pub filter_still : (name : List ℕ) (ts : List Table)
    → map unmoved_table (filter (λ t. is_not_named name t.name) (map unmoved_table ts)) ≡ map unmoved_table (filter (λ t. is_not_named name t.name) ts)
filter_still name [] = refl
filter_still name (t ∷ ts) = by (is_not_named name t.name) (filter_still name ts)
  where
    by : (b : Bool) → map unmoved_table (filter (λ x. is_not_named name x.name) (map unmoved_table ts)) ≡ map unmoved_table (filter (λ x. is_not_named name x.name) ts)
        → map unmoved_table (cond b (unmoved_table t ∷ filter (λ x. is_not_named name x.name) (map unmoved_table ts)) (filter (λ x. is_not_named name x.name) (map unmoved_table ts)))
        ≡ map unmoved_table (cond b (t ∷ filter (λ x. is_not_named name x.name) ts) (filter (λ x. is_not_named name x.name) ts))
    by true rest = ap₂ (λ (one : Table) (more : List Table). one ∷ more) (table_twice t) rest
    by false rest = rest

pub changed_still : (name : List ℕ) (f g : Table → Table) → ((t : Table) → unmoved_table (f (unmoved_table t)) ≡ unmoved_table (g t)) → (ts : List Table)
    → map unmoved_table (change_named name f (map unmoved_table ts)) ≡ map unmoved_table (change_named name g ts)
changed_still name f g same [] = refl
changed_still name f g same (t ∷ ts) = by (bytes_eq t.name name) (changed_still name f g same ts)
  where
    by : (b : Bool) → map unmoved_table (change_named name f (map unmoved_table ts)) ≡ map unmoved_table (change_named name g ts)
        → map unmoved_table (cond b (f (unmoved_table t) ∷ map unmoved_table ts) (unmoved_table t ∷ change_named name f (map unmoved_table ts)))
        ≡ map unmoved_table (cond b (g t ∷ ts) (t ∷ change_named name g ts))
    by true rest = ap₂ (λ (one : Table) (more : List Table). one ∷ more) (same t) (tables_twice ts)
    by false rest = ap₂ (λ (one : Table) (more : List Table). one ∷ more) (table_twice t) rest

-- a commit changes rows alone
into_still : (epoch : ℕ) (c : Changes) (ts : List Table) → change_named c.table (commit_into epoch c) (map unmoved_table ts) ≡ map unmoved_table (change_named c.table (commit_into epoch c) ts)
into_still epoch c [] = refl
into_still epoch c (t ∷ ts) = by (bytes_eq t.name c.table) (into_still epoch c ts)
  where
    by : (b : Bool) → change_named c.table (commit_into epoch c) (map unmoved_table ts) ≡ map unmoved_table (change_named c.table (commit_into epoch c) ts)
        → cond b (commit_into epoch c (unmoved_table t) ∷ map unmoved_table ts) (unmoved_table t ∷ change_named c.table (commit_into epoch c) (map unmoved_table ts))
        ≡ map unmoved_table (cond b (commit_into epoch c t ∷ ts) (t ∷ change_named c.table (commit_into epoch c) ts))
    by true rest = refl
    by false rest = ap (λ (more : List Table). unmoved_table t ∷ more) rest

pub commit_still : (epoch : ℕ) (changes : List Changes) (ts : List Table) → commit_changes epoch changes (map unmoved_table ts) ≡ map unmoved_table (commit_changes epoch changes ts)
commit_still epoch [] ts = refl
commit_still epoch (c ∷ changes) ts =
    ap (λ (us : List Table). commit_changes epoch changes us) (into_still epoch c ts) ∙ commit_still epoch changes (change_named c.table (commit_into epoch c) ts)

-- a projection that takes its place, up to date or not
pub placed_shape : (new : Shape) (ss : List Shape) → map unmoved_shape (put_shape new (map unmoved_shape ss)) ≡ map unmoved_shape (put_shape new ss)
placed_shape new [] = refl
placed_shape new (s ∷ ss) = by (is_lt (slice_cmp nat_cmp new.name s.name)) (placed_shape new ss)
  where
    by : (b : Bool) → map unmoved_shape (put_shape new (map unmoved_shape ss)) ≡ map unmoved_shape (put_shape new ss)
        → map unmoved_shape (cond b (new ∷ (unmoved_shape s ∷ map unmoved_shape ss)) (unmoved_shape s ∷ put_shape new (map unmoved_shape ss))) ≡ map unmoved_shape (cond b (new ∷ (s ∷ ss)) (s ∷ put_shape new ss))
    by true rest = ap (λ (more : List Shape). unmoved_shape new ∷ (unmoved_shape s ∷ more)) (shapes_twice ss)
    by false rest = ap (λ (more : List Shape). unmoved_shape s ∷ more) rest

-- a column that is added
columns_added : (t : Table) (ss : List Shape) → map unmoved_shape (map (with_column (unmoved_table t)) (map unmoved_shape ss)) ≡ map unmoved_shape (map (with_column t) ss)
columns_added t [] = refl
columns_added t (s ∷ ss) = ap₂ (λ (one : Shape) (more : List Shape). one ∷ more) (by (has_columns s (ordinals t))) (columns_added t ss)
  where
    wide : Shape → Shape
    wide x = record x { columns = x.columns ++ (length t.columns, Encoding.Auto) ∷ [] }

    by : (b : Bool) → unmoved_shape (cond b (wide (unmoved_shape s)) (unmoved_shape s)) ≡ unmoved_shape (cond b (wide s) s)
    by true = refl
    by false = refl

pub widened_still : (c : Column) (v : Value) (t : Table) → unmoved_table (widened c v (unmoved_table t)) ≡ unmoved_table (widened c v t)
widened_still c v t = ap (λ (ss : List Shape). record (widened c v t) { shapes = ss }) (columns_added t t.shapes)
