-- What is looked at before the rows is the same in a state and in the one without its rows.
use Rattle.std.proofs.Common.{◌≡◌, ◌<◌, ℕ, ◌+◌, List, [], ◌∷◌, ◌++◌, Bool, true, false, cond, length, map, filter, refl, sym, ◌∙◌, ap, ap₂, arith}
use Rattle.std.specs.Prelude.{Option, Some, None, option_map, option_and_then, find, is_some, bytes_eq, nat_le, nat_lt, ◌&&◌, ◌||◌, ◌==◌, not}
use Rattle.std.specs.List.{AllZip, enumerate_from, flat_map, list_all, list_any}
use Rattle.std.specs.Option.{option_map_or}
use Rattle.std.proofs.lemmas.Bool.Decides.{nat_tests}
use Rattle.std.proofs.lemmas.List.Concat.{flat_map-cons}
use Rattle.std.proofs.lemmas.List.Elements.{length_all_zip}
use Rattle.col_value.specs.declared.column.Column.{Column}
use Rattle.sql_tree.specs.declared.query.At.{At}
use Rattle.sql_tree.specs.declared.query.Query.{Query}
use Rattle.sql_tree.specs.declared.query.Source.{Source}
use Rattle.sql_tree.specs.declared.refusal.Refusal.{Refusal}
use Rattle.sql_tree.specs.declared.refusal.Which.{Which}
use Rattle.sql_tree.specs.declared.statement.AddColumn.{AddColumn}
use Rattle.sql_tree.specs.declared.statement.Delete.{Delete}
use Rattle.sql_tree.specs.declared.statement.Function.{Function}
use Rattle.sql_tree.specs.declared.statement.Insert.{Insert}
use Rattle.sql_tree.specs.declared.statement.NewProjection.{NewProjection}
use Rattle.sql_tree.specs.declared.statement.Statement.{Statement}
use Rattle.sql_tree.specs.declared.statement.Update.{Update}
use Rattle.sql_binding.specs.Firsts.{first_of, refused_where}
use Rattle.sql_binding.specs.Changes.{delete_refusal, update_refusal}
use Rattle.sql_binding.specs.Projections.{name_limit, projection_form_refusal, projection_name_refusal}
use Rattle.sql_binding.specs.Additions.{addition_refusal, default_refusal}
use Rattle.sql_binding.specs.Inserts.{insert_refusal, stored_refusal}
use Rattle.sql_binding.specs.Queries.{bound_query, query_refusal}
use Rattle.db_model.specs.Database.{Table, Shape, has_columns, is_taken, super_name}
use Rattle.db_model.specs.State.{State, Changes}
use Rattle.db_model.specs.Epochs.{all_shapes, last_good, least_or}
use Rattle.db_model.specs.Loading.{Load}
use Rattle.db_model.specs.Locks.{changes_on, excludes, holder}
use Rattle.db_model.specs.Numbers.{spent_refusal}
use Rattle.db_model.specs.Refusing.{column_limit, columns_limit, commit_refusal, create_limit, create_refusal, epoch_refusal, if_taken, repeated_behind, taken_name}
use Rattle.db_model.specs.Refusals.{column_added_refusal, joining_limit, last_super_refusal, load_refusal, locked, mark_refusal, owner, projection_created_refusal, projection_dropped_refusal, projection_refusal_over, query_refusal_in, raise_refusal, rows_deleted_refusal, rows_inserted_refusal, table_created_refusal, table_dropped_refusal, unknown_table_refusal}
use Rattle.db_model.specs.Views.{bound_in, columns_found, table_found}
use Rattle.alike_laws.proofs.Refused.{commit_alike, joining_alike, load_alike, locked_alike}
use Rattle.statement_plan.specs.Bare.{IsBare, IsBareTable}
use Rattle.statement_plan.specs.Places.{columns_at}
use Rattle.statement_plan.specs.Planned.{early_call_refusal, early_refusal, select_refusal}

abbrev pub pair : ℕ × Table → ℕ × List Column
pair e = (e.0, e.1.columns)

-- the place and the columns of the table of a name
one_found : (b c : Bool) (n : ℕ) (t u : Table) (o p : Option (ℕ × Table)) → b ≡ c → t.columns ≡ u.columns → option_map pair o ≡ option_map pair p
    → option_map pair (cond b (Some (n, t)) o) ≡ option_map pair (cond c (Some (n, u)) p)
one_found true true n t u o p is columns rest = ap (λ (cs : List Column). Some (n, cs)) columns
one_found false false n t u o p is columns rest = rest
one_found true false n t u o p is columns rest = cc
one_found false true n t u o p is columns rest = cc

found_from : (name : List ℕ) (n : ℕ) (bs ts : List Table) → AllZip IsBareTable bs ts
    → option_map pair (find (λ (e : ℕ × Table). bytes_eq e.1.name name) (enumerate_from n bs)) ≡ option_map pair (find (λ (e : ℕ × Table). bytes_eq e.1.name name) (enumerate_from n ts))
found_from name n [] [] z = refl
found_from name n [] (t ∷ ts) z = absurd z
found_from name n (b ∷ bs) [] z = absurd z
found_from name n (b ∷ bs) (t ∷ ts) z =
    one_found (bytes_eq b.name name) (bytes_eq t.name name) n b t (find (λ (e : ℕ × Table). bytes_eq e.1.name name) (enumerate_from (n + 1) bs))
    (find (λ (e : ℕ × Table). bytes_eq e.1.name name) (enumerate_from (n + 1) ts))
    (ap (λ (m : List ℕ). bytes_eq m name) z.0.name) z.0.columns (found_from name (n + 1) bs ts z.1)

abbrev pair_found : List Table → List ℕ → Option (ℕ × List Column)
pair_found tables name = option_map pair (table_found name tables)

pub found_same : (name : List ℕ) (bs ts : List Table) → AllZip IsBareTable bs ts → pair_found bs name ≡ pair_found ts name
found_same name bs ts z = found_from name 0 bs ts z

pub columns_of_name : (bare state : State) (name : List ℕ) → IsBare bare state → columns_at name bare.database.tables ≡ columns_at name state.database.tables
columns_of_name bare state name is = found_same name bare.database.tables state.database.tables is.tables

-- what is said of a table that was found, by its place and its columns
columns_by : (o : Option (ℕ × Table)) → option_map (λ (e : ℕ × Table). e.1.columns) o ≡ option_map (λ (p : ℕ × List Column). p.1) (option_map pair o)
columns_by None = refl
columns_by (Some e) = refl

columns_same : (name : List ℕ) (bs ts : List Table) → AllZip IsBareTable bs ts → columns_found bs name ≡ columns_found ts name
columns_same name bs ts z =
    columns_by (table_found name bs)
    ∙ ap (λ (o : Option (ℕ × List Column)). option_map (λ (p : ℕ × List Column). p.1) o) (found_same name bs ts z)
    ∙ sym (columns_by (table_found name ts))

sources_same : (bs ts : List Table) (ss : List Source) → AllZip IsBareTable bs ts
    → map (λ (s : Source). columns_found bs s.table) ss ≡ map (λ (s : Source). columns_found ts s.table) ss
sources_same bs ts [] z = refl
sources_same bs ts (s ∷ ss) z =
    ap₂ (λ (o : Option (List Column)) (os : List (Option (List Column))). o ∷ os) (columns_same s.table bs ts z) (sources_same bs ts ss z)

unknown_by : (name : List ℕ) (o : Option (ℕ × Table))
    → option_map_or (λ (e : ℕ × Table). None) o (Some (Refusal.UnknownTable name)) ≡ option_map_or (λ (p : ℕ × List Column). None) (option_map pair o) (Some (Refusal.UnknownTable name))
unknown_by name None = refl
unknown_by name (Some e) = refl

unknown_same : (name : List ℕ) (bare state : State) → IsBare bare state → unknown_table_refusal bare name ≡ unknown_table_refusal state name
unknown_same name bare state is =
    unknown_by name (table_found name bare.database.tables)
    ∙ ap (λ (o : Option (ℕ × List Column)). option_map_or (λ (p : ℕ × List Column). None) o (Some (Refusal.UnknownTable name))) (found_same name bare.database.tables state.database.tables is.tables)
    ∙ sym (unknown_by name (table_found name state.database.tables))

one_source : (o : Option (ℕ × Table)) (es : List (ℕ × Table)) (ps : List (ℕ × List Column)) → map pair es ≡ ps
    → map pair (option_map_or (λ (e : ℕ × Table). e ∷ []) o [] ++ es) ≡ option_map_or (λ (p : ℕ × List Column). p ∷ []) (option_map pair o) [] ++ ps
one_source None es ps is = is
one_source (Some e) es ps is = ap (λ (l : List (ℕ × List Column)). pair e ∷ l) is

tables_by : (ts : List Table) (ss : List Source)
    → map pair (flat_map (λ (s : Source). option_map_or (λ (e : ℕ × Table). e ∷ []) (table_found s.table ts) []) ss)
    ≡ flat_map (λ (s : Source). option_map_or (λ (p : ℕ × List Column). p ∷ []) (pair_found ts s.table) []) ss
tables_by ts [] = refl
tables_by ts (s ∷ ss) =
    one_source (table_found s.table ts) (flat_map (λ (t : Source). option_map_or (λ (e : ℕ × Table). e ∷ []) (table_found t.table ts) []) ss)
    (flat_map (λ (t : Source). option_map_or (λ (p : ℕ × List Column). p ∷ []) (pair_found ts t.table) []) ss) (tables_by ts ss)

pairs_same : (bs ts : List Table) (ss : List Source) → AllZip IsBareTable bs ts
    → flat_map (λ (s : Source). option_map_or (λ (p : ℕ × List Column). p ∷ []) (pair_found bs s.table) []) ss
    ≡ flat_map (λ (s : Source). option_map_or (λ (p : ℕ × List Column). p ∷ []) (pair_found ts s.table) []) ss
pairs_same bs ts [] z = refl
pairs_same bs ts (s ∷ ss) z =
    ap₂ (λ (o : Option (ℕ × List Column)) (l : List (ℕ × List Column)). option_map_or (λ (p : ℕ × List Column). p ∷ []) o [] ++ l)
    (found_same s.table bs ts z) (pairs_same bs ts ss z)

-- the bound tree of a query
pub tree_same : (bare state : State) (q : Query) → IsBare bare state → bound_in bare q ≡ bound_in state q
tree_same bare state q is =
    ap (λ (l : List (ℕ × List Column)). bound_query l q)
    (tables_by bare.database.tables q.sources ∙ pairs_same bare.database.tables state.database.tables q.sources is.tables ∙ sym (tables_by state.database.tables q.sources))

-- whether a name is taken
taken_same : (name : List ℕ) (bs ts : List Table) → AllZip IsBareTable bs ts → is_taken name bs ≡ is_taken name ts
taken_same name [] [] z = refl
taken_same name [] (t ∷ ts) z = absurd z
taken_same name (b ∷ bs) [] z = absurd z
taken_same name (b ∷ bs) (t ∷ ts) z =
    ap₂ (λ (here behind : Bool). here || behind)
    (ap₂ (λ (m : List ℕ) (shapes : List Shape). bytes_eq m name || list_any (λ (s : Shape). bytes_eq s.name name) shapes) z.0.name z.0.shapes)
    (taken_same name bs ts z.1)

spent_same : (bare state : State) → IsBare bare state → spent_refusal bare ≡ spent_refusal state
spent_same bare state is = ap (λ (n : ℕ). refused_where (nat_le 1152921504606846976 n) Refusal.NumbersSpent) is.next

pub locked_same : (bare state : State) (name : List ℕ) (want : Bool) → IsBare bare state → locked bare name want ≡ locked state name want
locked_same bare state name want is = locked_alike bare state name want is.sessions is.current

joining_same : (bare state : State) (name : List ℕ) (more : ℕ) → IsBare bare state → joining_limit bare name more ≡ joining_limit state name more
joining_same bare state name more is = joining_alike bare state name more is.sessions is.current

if_taken_same : (name : List ℕ) (bs ts : List Table) → AllZip IsBareTable bs ts → if_taken bs name ≡ if_taken ts name
if_taken_same name bs ts z = ap (λ (b : Bool). cond b (Some name) None) (taken_same name bs ts z)

names_same : (name : List ℕ) (columns : List Column) (bs ts : List Table) → AllZip IsBareTable bs ts → taken_name bs name columns ≡ taken_name ts name columns
names_same name columns bs ts z =
    ap₂ (λ (o p : Option (List ℕ)). first_of o (first_of p (repeated_behind [] columns))) (if_taken_same name bs ts z) (if_taken_same (super_name name) bs ts z)

limit_same : (name : List ℕ) (columns : List Column) (bs ts : List Table) → AllZip IsBareTable bs ts → create_limit bs name columns ≡ create_limit ts name columns
limit_same name columns bs ts z =
    ap (λ (n : ℕ). first_of (first_of (refused_where (nat_le 1024 n) (Refusal.Limit Which.Tables 1024)) (name_limit name)) (columns_limit columns))
    (length_all_zip IsBareTable bs ts z)

made_same : (name : List ℕ) (columns : List Column) (bs ts : List Table) → AllZip IsBareTable bs ts → create_refusal bs name columns ≡ create_refusal ts name columns
made_same name columns bs ts z =
    ap₂ (λ (o : Option (List ℕ)) (p : Option Refusal). first_of (option_map Refusal.Exists o) p) (names_same name columns bs ts z) (limit_same name columns bs ts z)

created_same : (bare state : State) (name : List ℕ) (columns : List Column) → IsBare bare state
    → table_created_refusal bare name columns ≡ table_created_refusal state name columns
created_same bare state name columns is =
    ap₂ (λ (o p : Option Refusal). first_of o p) (made_same name columns bare.database.tables state.database.tables is.tables) (spent_same bare state is)

dropped_same : (bare state : State) (name : List ℕ) → IsBare bare state → table_dropped_refusal bare name ≡ table_dropped_refusal state name
dropped_same bare state name is =
    ap₂ (λ (o p : Option Refusal). first_of o p) (unknown_same name bare state is)
    (ap₂ (λ (o p : Option Refusal). first_of o p) (locked_same bare state name true is) (spent_same bare state is))

inserted_same : (bare state : State) (i : Insert) → IsBare bare state → rows_inserted_refusal bare i ≡ rows_inserted_refusal state i
inserted_same bare state i is =
    let columns : columns_found bare.database.tables i.table ≡ columns_found state.database.tables i.table =
    columns_same i.table bare.database.tables state.database.tables is.tables in
    ap₂ (λ (o : Option (List Column)) (rest : Option Refusal). first_of (insert_refusal o i) rest) columns
    (ap₂ (λ (o p : Option Refusal). first_of o p) (joining_same bare state i.table (length i.rows) is)
    (ap₂ (λ (l : Option Refusal) (o : Option (List Column)). first_of l (option_and_then (λ (cs : List Column). stored_refusal cs i) o))
    (locked_same bare state i.table false is) columns))

-- why the rows of a load file can't be committed
pub loaded_same : (bare state : State) (name : List ℕ) (load : Load) → IsBare bare state → load_refusal bare name load ≡ load_refusal state name load
loaded_same bare state name (Load.Wrong line field) is = refl
loaded_same bare state name (Load.Rows rows) is =
    ap₂ (λ (o p : Option Refusal). first_of o p) (joining_same bare state name (length rows) is) (load_alike bare state name rows is.sessions is.current is.last)

committed_same : (bare state : State) → IsBare bare state → commit_refusal bare ≡ commit_refusal state
committed_same bare state is = commit_alike bare state is.sessions is.current is.last

queried_same : (bare state : State) (q : Query) → IsBare bare state → query_refusal_in bare q ≡ query_refusal_in state q
queried_same bare state q is =
    ap (λ (cs : List (Option (List Column))). query_refusal cs q) (sources_same bare.database.tables state.database.tables q.sources is.tables)

selected_same : (bare state : State) (at : At) (q : Query) → IsBare bare state → select_refusal bare at q ≡ select_refusal state at q
selected_same bare state at q is =
    ap₂ (λ (o p : Option Refusal). first_of o p) (queried_same bare state q is)
    (ap₂ (λ (mark last : ℕ). epoch_refusal mark last at) is.mark is.last)

-- a new projection
pub one_said : {X : Type 0} (f : ℕ × Table → Option X) (b c : Bool) (n : ℕ) (t u : Table) (o p : Option (ℕ × Table)) → b ≡ c → f (n, t) ≡ f (n, u)
    → option_and_then f o ≡ option_and_then f p → option_and_then f (cond b (Some (n, t)) o) ≡ option_and_then f (cond c (Some (n, u)) p)
one_said f true true n t u o p is here rest = here
one_said f false false n t u o p is here rest = rest
one_said f true false n t u o p is here rest = absurd (cc)
one_said f false true n t u o p is here rest = absurd (cc)

said_from : {X : Type 0} (f : ℕ × Table → Option X) → ((n : ℕ) (b t : Table) → IsBareTable b t → f (n, b) ≡ f (n, t))
    → (name : List ℕ) (n : ℕ) (bs ts : List Table) → AllZip IsBareTable bs ts
    → option_and_then f (find (λ (e : ℕ × Table). bytes_eq e.1.name name) (enumerate_from n bs))
    ≡ option_and_then f (find (λ (e : ℕ × Table). bytes_eq e.1.name name) (enumerate_from n ts))
said_from f each name n [] [] z = refl
said_from f each name n [] (t ∷ ts) z = absurd z
said_from f each name n (b ∷ bs) [] z = absurd z
said_from f each name n (b ∷ bs) (t ∷ ts) z =
    one_said f (bytes_eq b.name name) (bytes_eq t.name name) n b t (find (λ (e : ℕ × Table). bytes_eq e.1.name name) (enumerate_from (n + 1) bs))
    (find (λ (e : ℕ × Table). bytes_eq e.1.name name) (enumerate_from (n + 1) ts))
    (ap (λ (m : List ℕ). bytes_eq m name) z.0.name) (each n b t z.0) (said_from f each name (n + 1) bs ts z.1)

form_same : (p : NewProjection) (n : ℕ) (b t : Table) → IsBareTable b t → projection_refusal_over p b ≡ projection_refusal_over p t
form_same p n b t is =
    ap₂ (λ (cs : List Column) (ss : List Shape). first_of (projection_form_refusal cs p)
    (first_of (refused_where (nat_le 16 (length ss)) (Refusal.Limit Which.Projections 16)) (name_limit p.name)))
    is.columns is.shapes

shaped_same : (bare state : State) (p : NewProjection) → IsBare bare state → projection_created_refusal bare p ≡ projection_created_refusal state p
shaped_same bare state p is =
    ap₂ (λ (o : Option (List Column)) (rest : Option Refusal). first_of (projection_name_refusal o p) rest)
    (columns_same p.table bare.database.tables state.database.tables is.tables)
    (ap₂ (λ (o : Option (List ℕ)) (rest : Option Refusal). first_of (option_map Refusal.Exists o) rest)
    (if_taken_same p.name bare.database.tables state.database.tables is.tables)
    (ap₂ (λ (o q : Option Refusal). first_of o q)
    (said_from (λ (e : ℕ × Table). projection_refusal_over p e.1) (form_same p) p.table 0 bare.database.tables state.database.tables is.tables)
    (spent_same bare state is)))

-- a projection that is dropped
one_super : (name : List ℕ) (k l : Bool) (b t : Table) (o p : Option Table) → k ≡ l → IsBareTable b t → last_super_refusal name o ≡ last_super_refusal name p
    → last_super_refusal name (cond k (Some b) o) ≡ last_super_refusal name (cond l (Some t) p)
one_super name true true b t o p is same rest =
    ap₂ (λ (cs : List Column) (ss : List Shape). refused_where
    (list_all (λ (s : Shape). bytes_eq s.name name) (filter (λ (s : Shape). s.fresh && has_columns s (map (λ (e : ℕ × Column). e.0) (enumerate_from 0 cs))) ss))
    (Refusal.LastSuper name))
    same.columns same.shapes
one_super name false false b t o p is same rest = rest
one_super name true false b t o p is same rest = absurd (cc)
one_super name false true b t o p is same rest = absurd (cc)

super_same : (name : List ℕ) (bs ts : List Table) → AllZip IsBareTable bs ts → last_super_refusal name (owner name bs) ≡ last_super_refusal name (owner name ts)
super_same name [] [] z = refl
super_same name [] (t ∷ ts) z = absurd z
super_same name (b ∷ bs) [] z = absurd z
super_same name (b ∷ bs) (t ∷ ts) z =
    one_super name (list_any (λ (s : Shape). bytes_eq s.name name) b.shapes) (list_any (λ (s : Shape). bytes_eq s.name name) t.shapes) b t (owner name bs) (owner name ts)
    (ap (λ (ss : List Shape). list_any (λ (s : Shape). bytes_eq s.name name) ss) z.0.shapes) z.0 (super_same name bs ts z.1)

undone_same : (bare state : State) (name : List ℕ) → IsBare bare state → projection_dropped_refusal bare name ≡ projection_dropped_refusal state name
undone_same bare state name is =
    ap₂ (λ (o p : Option Refusal). first_of o p) (super_same name bare.database.tables state.database.tables is.tables) (spent_same bare state is)

deleted_same : (bare state : State) (d : Delete) → IsBare bare state → rows_deleted_refusal bare d ≡ rows_deleted_refusal state d
deleted_same bare state d is =
    ap₂ (λ (o : Option (List Column)) (rest : Option Refusal). first_of (delete_refusal o d) rest)
    (columns_same d.table bare.database.tables state.database.tables is.tables) (locked_same bare state d.table true is)

updated_same : (bare state : State) (u : Update) → IsBare bare state
    → update_refusal (columns_found bare.database.tables u.table) u ≡ update_refusal (columns_found state.database.tables u.table) u
updated_same bare state u is =
    ap (λ (o : Option (List Column)). update_refusal o u) (columns_same u.table bare.database.tables state.database.tables is.tables)

-- who holds a table is who would keep a session that isn't there from it
some_held : (o : Option Changes) → is_some o ≡ option_map_or (λ (c : Changes). c.exclusive || true) o false
some_held None = refl
some_held (Some c) = by c.exclusive
  where
    by : (b : Bool) → true ≡ (b || true)
    by true = refl
    by false = refl

not_zero : (n : ℕ) → 0 < n → (n == 0) ≡ false
not_zero n above = grind (arith, nat_tests, above)

one_holds : (b c : Bool) (e : ℕ × List Changes) (o p : Option (ℕ × List Changes)) → b ≡ c → o ≡ p → cond b (Some e) o ≡ cond c (Some e) p
one_holds b c e o p is rest = ap₂ (λ (d : Bool) (q : Option (ℕ × List Changes)). cond d (Some e) q) is rest

held_from : (name : List ℕ) (n : ℕ) (ss : List (List Changes)) → 0 < n
    → find (λ (e : ℕ × List Changes). is_some (changes_on name e.1)) (enumerate_from n ss)
    ≡ find (λ (e : ℕ × List Changes). not (e.0 == 0) && excludes name true e.1) (enumerate_from n ss)
held_from name n [] above = refl
held_from name n (s ∷ ss) above =
    one_holds (is_some (changes_on name s)) (not (n == 0) && excludes name true s) (n, s) (find (λ (e : ℕ × List Changes). is_some (changes_on name e.1)) (enumerate_from (n + 1) ss))
    (find (λ (e : ℕ × List Changes). not (e.0 == 0) && excludes name true e.1) (enumerate_from (n + 1) ss))
    (some_held (changes_on name s) ∙ ap (λ (b : Bool). not b && excludes name true s) (sym (not_zero n above)))
    (held_from name (n + 1) ss (omega (arith, above)))

abbrev as_nobody : State → State
as_nobody state = record state { current = 0 }

held_by : (state : State) (name : List ℕ) → option_map Refusal.Locked (holder state name) ≡ locked (as_nobody state) name true
held_by state name = ap (λ (o : Option (ℕ × List Changes)). option_map Refusal.Locked (option_map (λ (e : ℕ × List Changes). e.0) o)) (held_from name 1 state.sessions (omega arith))

held_same : (bare state : State) (name : List ℕ) → IsBare bare state → option_map Refusal.Locked (holder bare name) ≡ option_map Refusal.Locked (holder state name)
held_same bare state name is = held_by bare name ∙ locked_alike (as_nobody bare) (as_nobody state) name true is.sessions refl ∙ sym (held_by state name)

added_same : (bare state : State) (a : AddColumn) → IsBare bare state → column_added_refusal bare a ≡ column_added_refusal state a
added_same bare state a is =
    ap₂ (λ (o : Option (List Column)) (rest : Option Refusal).
    first_of (addition_refusal o a) (first_of (option_and_then (λ (cs : List Column). column_limit (length cs, a.column)) o) rest))
    (columns_same a.table bare.database.tables state.database.tables is.tables)
    (ap₂ (λ (l s : Option Refusal). first_of l (first_of (default_refusal a) s)) (held_same bare state a.table is) (spent_same bare state is))

-- why a statement is refused
shapes_same : (bs ts : List Table) → AllZip IsBareTable bs ts → all_shapes bs ≡ all_shapes ts
shapes_same [] [] z = refl
shapes_same [] (t ∷ ts) z = absurd z
shapes_same (b ∷ bs) [] z = absurd z
shapes_same (b ∷ bs) (t ∷ ts) z =
    flat_map-cons (λ (u : Table). u.shapes) b bs ∙ ap₂ (λ (ss os : List Shape). ss ++ os) z.0.shapes (shapes_same bs ts z.1) ∙ sym (flat_map-cons (λ (u : Table). u.shapes) t ts)

good_same : (bare state : State) → IsBare bare state → last_good bare.database ≡ last_good state.database
good_same bare state is =
    ap₂ (λ (last : ℕ) (ss : List Shape). least_or last (map (λ (s : Shape). s.lge) (filter (λ (s : Shape). s.fresh) ss))) is.last (shapes_same bare.database.tables state.database.tables is.tables)

raise_same : (bare state : State) (mark : ℕ) → IsBare bare state → raise_refusal mark bare ≡ raise_refusal mark state
raise_same bare state mark is = ap₂ (λ (ahm next : ℕ). refused_where (nat_lt ahm mark && nat_le 1152921504606846976 next) Refusal.NumbersSpent) is.mark is.next

mark_same : (bare state : State) (mark : ℕ) → IsBare bare state → mark_refusal mark bare.database ≡ mark_refusal mark state.database
mark_same bare state mark is = ap₂ (λ (ahm good : ℕ). refused_where (nat_lt mark ahm || nat_lt good mark) (Refusal.BadMark mark ahm good)) is.mark (good_same bare state is)

call_same : (bare state : State) (f : Function) → IsBare bare state → early_call_refusal bare f ≡ early_call_refusal state f
call_same bare state Function.Lge is = refl
call_same bare state Function.Ahm is = refl
call_same bare state Function.Current is = refl
call_same bare state Function.MakeAhmNow is = ap (λ (mark : ℕ). raise_refusal mark bare) (good_same bare state is) ∙ raise_same bare state (last_good state.database) is
call_same bare state (Function.SetAhm n) is = ap₂ (λ (o p : Option Refusal). first_of o p) (mark_same bare state n is) (raise_same bare state n is)
call_same bare state Function.Moveout is = refl
call_same bare state Function.Mergeout is = refl
call_same bare state (Function.Purge table) is = unknown_same table bare state is
call_same bare state (Function.Refresh table) is = unknown_same table bare state is
call_same bare state Function.StartRefresh is = refl

pub early_same : (bare state : State) (s : Statement) → IsBare bare state → early_refusal bare s ≡ early_refusal state s
early_same bare state (Statement.CreateTable name columns) is = created_same bare state name columns is
early_same bare state (Statement.CreateProjection p) is = shaped_same bare state p is
early_same bare state (Statement.DropTable name) is = dropped_same bare state name is
early_same bare state (Statement.DropProjection name) is = undone_same bare state name is
early_same bare state (Statement.Insert i) is = inserted_same bare state i is
early_same bare state (Statement.Delete d) is = deleted_same bare state d is
early_same bare state (Statement.Update u) is = updated_same bare state u is
early_same bare state (Statement.AddColumn a) is = added_same bare state a is
early_same bare state (Statement.Copy table file) is =
    ap₂ (λ (o p : Option Refusal). first_of o p) (unknown_same table bare state is) (locked_same bare state table false is)
early_same bare state Statement.Commit is = committed_same bare state is
early_same bare state Statement.Rollback is = refl
early_same bare state (Statement.Select at q) is = selected_same bare state at q is
early_same bare state (Statement.Explain q) is = queried_same bare state q is
early_same bare state (Statement.Call f) is = call_same bare state f is
early_same bare state (Statement.Session n) is = refl
early_same bare state Statement.Step is = refl
