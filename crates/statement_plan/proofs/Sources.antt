-- The tables of a query's FROM items, and the bounds of a query that isn't refused.
use Rattle.std.proofs.Common.{◌≡◌, ℕ, List, [], ◌∷◌, ◌++◌, Bool, true, false, cond, map, refl, sym, ◌∙◌, ap, ap₂, subst}
use Rattle.std.specs.Prelude.{Option, Some, None, option_map, option_and_then, not, ◌&&◌, Result, IfErr}
use Rattle.std.specs.List.{All, list_all, flat_map, zip}
use Rattle.std.specs.Option.{option_map_or}
use Rattle.std.proofs.lemmas.Bool.{and_parts}
use Rattle.std.proofs.lemmas.Option.{same_Some}
use Rattle.std.proofs.lemmas.List.Elements.{All-nil, All-cons}
use Rattle.col_value.specs.declared.column.Column.{Column}
use Rattle.sql_tree.specs.declared.query.Query.{Query}
use Rattle.sql_tree.specs.declared.query.Source.{Source}
use Rattle.sql_tree.specs.declared.query.Window.{Window}
use Rattle.sql_tree.specs.declared.query.WindowKind.{WindowKind}
use Rattle.sql_tree.specs.declared.refusal.Refusal.{Refusal}
use Rattle.sql_bound.specs.declared.expr.Expr.{Expr}
use Rattle.sql_bound.specs.declared.query.Aggregate.{Aggregate}
use Rattle.sql_bound.specs.declared.query.BoundQuery.{BoundQuery}
use Rattle.sql_bound.specs.Bounds.{bound_of_aggregate, is_narrow}
use Rattle.sql_binding.specs.Firsts.{first_of, refused_where, with_first, all_there}
use Rattle.sql_binding.specs.Sight.{Seen, sight}
use Rattle.sql_binding.specs.Trees.{Scope, aggregate_kind, bound_window, window_aggregate}
use Rattle.sql_binding.specs.Uses.{is_grouped}
use Rattle.sql_binding.specs.Queries.{at_no_place, bound_query, columns_of, from_limit, is_narrow_aggregate, is_narrow_query, is_typed_query, name_refusal, over_groups, over_rows, query_refusal, refusal_over, row_kinds, tree_refusal, unknown_table, whole_scope, windows_of}
use Rattle.sql_binding.specs.Queries as binding
use Rattle.name_binder.specs.declared.fault.BindFault.{BindFault}
use Rattle.name_binder.specs.Refusing.{RefusesBy}
use Rattle.name_binder.specs.Tables as there
use Rattle.statement_binder.specs.Answers.{IsBoundQuery}
use Rattle.statement_binder.proofs.Refused.{same_trees}
use Rattle.query_laws.specs.Bounded.{IsBoundedQuery, bound_beside, seen_bounds, window_bound}
use Rattle.db_model.specs.Database.{Table}
use Rattle.db_model.specs.State.{State}
use Rattle.db_model.specs.Views.{table_found, columns_found, source_tables, bound_in}
use Rattle.db_model.specs.Refusals.{query_refusal_in}
use Rattle.statement_plan.specs.Planned.{IsBoundIn}
use Rattle.statement_plan.specs.Querying.{found_of}

abbrev pair : ℕ × Table → ℕ × List Column
pair e = (e.0, e.1.columns)

pub first_none : {X : Type 0} (a b : Option X) → first_of a b ≡ None → a ≡ None
first_none None b is = refl
first_none (Some x) b is = cc

pub second_none : {X : Type 0} (a b : Option X) → first_of a b ≡ None → b ≡ None
second_none None b is = is
second_none (Some x) b is = cc

pub unrefused : (b : Bool) (r : Refusal) → refused_where (not b) r ≡ None → b ≡ true
unrefused true r is = refl
unrefused false r is = cc

pub each_passes : {X : Type 0} (p : X → Bool) (xs : List X) → list_all p xs ≡ true → All (λ x. p x ≡ true) xs
each_passes {X} p [] all = All-nil (λ (x : X). p x ≡ true)
each_passes {X} p (x ∷ xs) all =
    let parts = and_parts (p x) (list_all p xs) all in
    All-cons (λ (y : X). p y ≡ true) x xs parts.0 (each_passes p xs parts.1)

-- the columns of what was found
pub one_column : (o : Option (ℕ × Table)) → option_map (λ (t : ℕ × List Column). t.1) (option_map pair o) ≡ option_map (λ (e : ℕ × Table). e.1.columns) o
one_column None = refl
one_column (Some e) = refl

columns_are : (state : State) (ss : List Source) → there.columns_found (map (found_of state) ss) ≡ map (λ (s : Source). columns_found state.database.tables s.table) ss
columns_are state [] = refl
columns_are state (s ∷ ss) =
    ap₂ (λ (o : Option (List Column)) (os : List (Option (List Column))). o ∷ os) (one_column (table_found s.table state.database.tables)) (columns_are state ss)

-- the tables that were found, where all are there
with_rest : (x : ℕ × List Column) (o : Option (List (ℕ × List Column))) (us ts : List (ℕ × List Column))
    → ((vs : List (ℕ × List Column)) → o ≡ Some vs → us ≡ vs) → with_first x o ≡ Some ts → x ∷ us ≡ ts
with_rest x None us ts rest is = cc
with_rest x (Some vs) us ts rest is = ap (λ (l : List (ℕ × List Column)). x ∷ l) (rest vs refl) ∙ same_Some (x ∷ vs) ts is

more_tables : (o : Option (ℕ × Table)) (fs : List (Option (ℕ × List Column))) (es : List (ℕ × Table)) (ts : List (ℕ × List Column))
    → ((vs : List (ℕ × List Column)) → all_there fs ≡ Some vs → map pair es ≡ vs)
    → all_there (option_map pair o ∷ fs) ≡ Some ts → map pair (option_map_or (λ (e : ℕ × Table). e ∷ []) o [] ++ es) ≡ ts
more_tables None fs es ts rest is = cc
more_tables (Some e) fs es ts rest is = with_rest (pair e) (all_there fs) (map pair es) ts rest is

tables_are : (state : State) (ss : List Source) (ts : List (ℕ × List Column)) → all_there (map (found_of state) ss) ≡ Some ts
    → map pair (flat_map (λ (s : Source). option_map_or (λ (e : ℕ × Table). e ∷ []) (table_found s.table state.database.tables) []) ss) ≡ ts
tables_are state [] ts is = same_Some [] ts is
tables_are state (s ∷ ss) ts is =
    more_tables (table_found s.table state.database.tables) (map (found_of state) ss)
    (flat_map (λ (t : Source). option_map_or (λ (e : ℕ × Table). e ∷ []) (table_found t.table state.database.tables) []) ss) ts (tables_are state ss) is

with_all : (t : ℕ × List Column) (o : Option (List (ℕ × List Column))) (cs : Option (List (List Column))) (ts : List (ℕ × List Column))
    → ((us : List (ℕ × List Column)) → o ≡ Some us → cs ≡ Some (columns_of us)) → with_first t o ≡ Some ts → with_first t.1 cs ≡ Some (columns_of ts)
with_all t None cs ts rest is = cc
with_all t (Some us) cs ts rest is =
    ap (λ (o : Option (List (List Column))). with_first t.1 o) (rest us refl)
    ∙ ap (λ (vs : List (ℕ × List Column)). Some (columns_of vs)) (same_Some (t ∷ us) ts is)

columns_all : (found : List (Option (ℕ × List Column))) (ts : List (ℕ × List Column)) → all_there found ≡ Some ts → all_there (there.columns_found found) ≡ Some (columns_of ts)
columns_all [] ts is = ap (λ (us : List (ℕ × List Column)). Some (columns_of us)) (same_Some [] ts is)
columns_all (None ∷ rest) ts is = cc
columns_all (Some t ∷ rest) ts is = with_all t (all_there rest) (all_there (there.columns_found rest)) ts (columns_all rest) is

-- a window has the bound of the aggregate that it is over its frame
window_bounds : (kind : WindowKind) (arg : Option Expr) → (let a : Aggregate = record { kind = aggregate_kind kind; arg = arg } in window_bound kind a ≡ bound_of_aggregate a)
window_bounds WindowKind.RowNumber arg = refl
window_bounds WindowKind.Rank arg = refl
window_bounds WindowKind.CountAll arg = refl
window_bounds WindowKind.Count arg = refl
window_bounds WindowKind.Sum arg = refl

bounds_beside : (s : Scope) (ws : List Window) → map bound_beside (zip (map (bound_window s) ws) (map (window_aggregate s) ws)) ≡ map bound_of_aggregate (map (window_aggregate s) ws)
bounds_beside s [] = refl
bounds_beside s (w ∷ ws) = ap₂ (λ (n : ℕ) (ns : List ℕ). n ∷ ns) (window_bounds w.kind (window_aggregate s w).arg) (bounds_beside s ws)

-- a query that isn't refused has static bounds
pub bounded_by : (b : BoundQuery) → seen_bounds b ≡ map bound_of_aggregate b.aggs → is_narrow_query b ≡ true → IsBoundedQuery b
bounded_by b seen narrow =
    let bounds : List ℕ = map bound_of_aggregate b.aggs in
    let same : bounds ≡ seen_bounds b = sym seen in
    let last : Bool = option_map_or (is_narrow bounds) b.having true in
    let shown : Bool = list_all (is_narrow bounds) b.items && last in
    let one = and_parts (list_all (is_narrow []) b.keep) (list_all is_narrow_aggregate b.aggs && shown) narrow in
    let two = and_parts (list_all is_narrow_aggregate b.aggs) shown one.1 in
    let three = and_parts (list_all (is_narrow bounds) b.items) last two.1 in
    record {
      keep = each_passes (is_narrow []) b.keep one.0;
      aggs = each_passes is_narrow_aggregate b.aggs two.0;
      items = subst (λ (ns : List ℕ). All (λ (e : Expr). is_narrow ns e ≡ true) b.items) same (each_passes (is_narrow bounds) b.items three.0);
      having = subst (λ (ns : List ℕ). option_map_or (is_narrow ns) b.having true ≡ true) same three.1;
    }

pub same_bounds : (tables : List (ℕ × List Column)) (q : Query) → seen_bounds (bound_query tables q) ≡ map bound_of_aggregate (bound_query tables q).aggs
same_bounds tables q = by (is_grouped q)
  where
    over : Bool → BoundQuery
    over so = cond so (over_groups tables (sight q.sources (columns_of tables)) q) (over_rows tables (sight q.sources (columns_of tables)) q)

    by : (so : Bool) → seen_bounds (over so) ≡ map bound_of_aggregate (over so).aggs
    by true = refl
    by false = bounds_beside (whole_scope (sight q.sources (columns_of tables)) q) (windows_of q.items)

narrow_over : (tables : List (ℕ × List Column)) (q : Query) → refusal_over (columns_of tables) q ≡ None → is_narrow_query (bound_query tables q) ≡ true
narrow_over tables q accepted =
    let seen : List Seen = sight q.sources (columns_of tables) in
    let trees : List (ℕ × List Column) = map at_no_place (columns_of tables) in
    let told : tree_refusal seen (binding.bound_in trees seen q) ≡ None =
    first_none (tree_refusal seen (binding.bound_in trees seen q)) (from_limit q)
    (second_none (name_refusal seen q) (first_of (tree_refusal seen (binding.bound_in trees seen q)) (from_limit q)) accepted) in
    let here : tree_refusal seen (bound_query tables q) ≡ None = same_trees tables trees seen q ∙ told in
    unrefused (is_narrow_query (bound_query tables q)) Refusal.TooWide
    (second_none (refused_where (not (is_typed_query (row_kinds seen) (bound_query tables q))) Refusal.TypeMismatch)
    (refused_where (not (is_narrow_query (bound_query tables q))) Refusal.TooWide) here)

pub bounded_over : (found : List (Option (ℕ × List Column))) (tables : List (ℕ × List Column)) (q : Query)
    → all_there found ≡ Some tables → query_refusal (there.columns_found found) q ≡ None → IsBoundedQuery (bound_query tables q)
bounded_over found tables q all accepted =
    let behind : option_and_then (λ (ts : List (List Column)). refusal_over ts q) (all_there (there.columns_found found)) ≡ None =
    second_none (option_map Refusal.UnknownTable (unknown_table (there.columns_found found) q))
    (option_and_then (λ (ts : List (List Column)). refusal_over ts q) (all_there (there.columns_found found))) accepted in
    let over : refusal_over (columns_of tables) q ≡ None =
    sym (ap (λ (o : Option (List (List Column))). option_and_then (λ (ts : List (List Column)). refusal_over ts q) o) (columns_all found tables all)) ∙ behind in
    bounded_by (bound_query tables q) (same_bounds tables q) (narrow_over tables q over)

bound_by : (found : List (Option (ℕ × List Column))) (q : Query) (b : BoundQuery) (us : List (ℕ × List Column)) (o : Option (List (ℕ × List Column)))
    → all_there found ≡ o → ((vs : List (ℕ × List Column)) → o ≡ Some vs → us ≡ vs) → query_refusal (there.columns_found found) q ≡ None
    → option_map (λ (ts : List (ℕ × List Column)). bound_query ts q) o ≡ Some b → (b ≡ bound_query us q) × IsBoundedQuery b
bound_by found q b us None all same accepted is = cc
bound_by found q b us (Some vs) all same accepted is =
    let this : bound_query vs q ≡ b = same_Some (bound_query vs q) b is in (
      sym this ∙ ap (λ (l : List (ℕ × List Column)). bound_query l q) (sym (same vs refl)),
      subst (λ (c : BoundQuery). IsBoundedQuery c) this (bounded_over found vs q all accepted),
    )

-- why the query is refused over what was found
refusal_is : (state : State) (q : Query) (found : List (Option (ℕ × List Column))) → found ≡ map (found_of state) q.sources
    → query_refusal (there.columns_found found) q ≡ query_refusal_in state q
refusal_is state q found is =
    ap (λ (f : List (Option (ℕ × List Column))). query_refusal (there.columns_found f) q) is
    ∙ ap (λ (cs : List (Option (List Column))). query_refusal cs q) (columns_are state q.sources)

-- what was bound over it
pub bound_found : (state : State) (q : Query) (b : BoundQuery) (found : List (Option (ℕ × List Column))) → found ≡ map (found_of state) q.sources
    → IsBoundQuery found q b → IsBoundIn state q b × (query_refusal_in state q ≡ None)
bound_found state q b found is bound =
    let same : (vs : List (ℕ × List Column)) → all_there found ≡ Some vs → map pair (source_tables state.database.tables q) ≡ vs =
    λ vs all. tables_are state q.sources vs (ap (λ (f : List (Option (ℕ × List Column))). all_there f) (sym is) ∙ all) in
    let parts = bound_by found q b (map pair (source_tables state.database.tables q)) (all_there found) refl same bound.accepted bound.bound in
    (in_state state q b parts.0 parts.1, sym (refusal_is state q found is) ∙ bound.accepted)
  where
    in_state : (state : State) (q : Query) (b : BoundQuery) → b ≡ bound_in state q → IsBoundedQuery b → IsBoundIn state q b
    in_state state q b tree bounded = record { tree = tree; bounded = bounded }

pub refused_found : (state : State) (q : Query) (r : Result BoundQuery BindFault) (found : List (Option (ℕ × List Column))) → found ≡ map (found_of state) q.sources
    → IfErr r (RefusesBy (query_refusal (there.columns_found found) q)) → IfErr r (RefusesBy (query_refusal_in state q))
refused_found state q r found is told = subst (λ (why : Option Refusal). IfErr r (RefusesBy why)) (refusal_is state q found is) told
