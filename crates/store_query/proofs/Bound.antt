-- The FROM items of a bound query.
use Rattle.std.proofs.Common.{◌≡◌, ℕ, suc, ◌+◌, Bool, true, false, cond, List, [], ◌∷◌, length, map, Option, Some, None, refl, sym, ap, ap₂, ◌∙◌, arith, subst}
use Rattle.std.specs.Prelude.{find, bytes_eq, IsSomeAnd}
use Rattle.std.specs.List.{All, enumerate_from, flat_map, slice_get}
use Rattle.std.specs.Option.{option_map_or}
use Rattle.std.proofs.lemmas.List.Concat.{flat_map-cons}
use Rattle.std.proofs.lemmas.List.Elements.{All-append, All-cons, All-head, All-nil, All-tail}
use Rattle.col_value.specs.declared.column.Column.{Column}
use Rattle.col_value.specs.declared.value.Value.{Value}
use Rattle.sql_tree.specs.declared.query.At.{At}
use Rattle.sql_tree.specs.declared.query.Query.{Query}
use Rattle.sql_tree.specs.declared.query.Source.{Source}
use Rattle.sql_bound.specs.declared.query.FromItem.{FromItem}
use Rattle.sql_bound.specs.declared.query.BoundQuery.{BoundQuery}
use Rattle.sql_binding.specs.Queries.{bound_sources, columns_of, over_groups, over_rows}
use Rattle.sql_binding.specs.Sight.{sight}
use Rattle.sql_binding.specs.Uses.{is_grouped}
use Rattle.db_model.specs.Database.{Table}
use Rattle.db_model.specs.State.{own_changes, State}
use Rattle.db_model.specs.Views.{bound_in, bound_over, inputs, rows_read, source_tables, table_found}
use Rattle.store_query.specs.Reading.{item_rows, rows_of, source_rows, AreOver}

-- a table stands at its place
abbrev StandsAt : List Table → ℕ × Table → Type 0
StandsAt tables e = slice_get tables e.0 ≡ Some e.1

abbrev named : List ℕ → ℕ × Table → Bool
named name e = bytes_eq e.1.name name

found_from : (name : List ℕ) (i : ℕ) (ts : List Table) (e : ℕ × Table) → find (named name) (enumerate_from i ts) ≡ Some e → (k : ℕ) × (e.0 ≡ i + k) × (slice_get ts k ≡ Some e.1)
found_from name i [] e is = absurd (cc)
found_from name i (t ∷ ts) e is = by (bytes_eq t.name name) (found_from name (i + 1) ts e) is
  where
    by : (b : Bool) → (find (named name) (enumerate_from (i + 1) ts) ≡ Some e → (k : ℕ) × (e.0 ≡ (i + 1) + k) × (slice_get ts k ≡ Some e.1))
        → cond b (Some (i, t)) (find (named name) (enumerate_from (i + 1) ts)) ≡ Some e → (k : ℕ) × (e.0 ≡ i + k) × (slice_get (t ∷ ts) k ≡ Some e.1)
    by true more at =
        let same : (i, t) ≡ e = cc in
        (0, ap (λ (x : ℕ × Table). x.0) (sym same) ∙ omega arith, ap (λ (x : ℕ × Table). Some x.1) same)
    by false more at = let (k, place, there) = more at in (suc k, omega (arith, place), there)

found_stands : (name : List ℕ) (tables : List Table) (o : Option (ℕ × Table)) → table_found name tables ≡ o → All (StandsAt tables) (option_map_or (λ e. e ∷ []) o [])
found_stands name tables None is = All-nil (StandsAt tables)
found_stands name tables (Some e) is =
    let (k, place, there) = found_from name 0 tables e is in
    let same : k ≡ e.0 = omega (arith, place) in
    All-cons (StandsAt tables) e [] (ap (slice_get tables) (sym same) ∙ there) (All-nil (StandsAt tables))

abbrev tables_of : List Table → Source → List (ℕ × Table)
tables_of tables s = option_map_or (λ e. e ∷ []) (table_found s.table tables) []

each_stands : (tables : List Table) (sources : List Source) → All (StandsAt tables) (flat_map (tables_of tables) sources)
each_stands tables [] = All-nil (StandsAt tables)
each_stands tables (s ∷ sources) =
    subst (All (StandsAt tables)) (sym (flat_map-cons (tables_of tables) s sources))
    (All-append (StandsAt tables) (tables_of tables s) (flat_map (tables_of tables) sources) (found_stands s.table tables (table_found s.table tables) refl) (each_stands tables sources))

abbrev columns_at : ℕ × Table → ℕ × List Column
columns_at e = (e.0, e.1.columns)

items_over : (tables : List Table) (first : ℕ) (found : List (ℕ × Table)) → All (StandsAt tables) found → AreOver first tables (bound_sources first (map columns_at found))
items_over tables first [] all = tt
items_over tables first (e ∷ found) all = (
  refl,
  subst (λ (o : Option Table). IsSomeAnd o (λ t. length e.1.columns ≡ length t.columns)) (sym (All-head (StandsAt tables) e found all)) refl,
  items_over tables (first + length e.1.columns) found (All-tail (StandsAt tables) e found all),
)

read_same : (at : At) (state : State) (t : Table) → rows_of at state.database (own_changes state) t ≡ rows_read at state t
read_same At.View state t = refl
read_same At.Latest state t = refl
read_same (At.Epoch n) state t = refl

items_rows : (at : At) (state : State) (first : ℕ) (found : List (ℕ × Table)) → All (StandsAt state.database.tables) found
    → map (item_rows at state.database (own_changes state)) (bound_sources first (map columns_at found)) ≡ map (λ e. rows_read at state e.1) found
items_rows at state first [] all = refl
items_rows at state first (e ∷ found) all =
    ap₂ (λ (rows : List (List Value)) (more : List (List (List Value))). rows ∷ more)
    (ap (λ (o : Option Table). option_map_or (rows_of at state.database (own_changes state)) o []) (All-head (StandsAt state.database.tables) e found all) ∙ read_same at state e.1)
    (items_rows at state (first + length e.1.columns) found (All-tail (StandsAt state.database.tables) e found all))

chosen_items : (b : Bool) (x y : BoundQuery) (items : List FromItem) → x.sources ≡ items → y.sources ≡ items → (cond b x y).sources ≡ items
chosen_items true x y items one other = one
chosen_items false x y items one other = other

bound_items : (found : List (ℕ × Table)) (q : Query) → (bound_over found q).sources ≡ bound_sources 0 (map columns_at found)
bound_items found q =
    let tables = map columns_at found in
    let seen = sight q.sources (columns_of tables) in
    chosen_items (is_grouped q) (over_groups tables seen q) (over_rows tables seen q) (bound_sources 0 tables) refl refl

pub bound_over_tables : (state : State) (q : Query) → AreOver 0 state.database.tables (bound_in state q).sources
bound_over_tables state q =
    let found = source_tables state.database.tables q in
    subst (AreOver 0 state.database.tables) (sym (bound_items found q)) (items_over state.database.tables 0 found (each_stands state.database.tables q.sources))

pub bound_reads : (at : At) (state : State) (q : Query) → source_rows at state.database (own_changes state) (bound_in state q) ≡ inputs at state q
bound_reads at state q =
    let found = source_tables state.database.tables q in
    ap (map (item_rows at state.database (own_changes state))) (bound_items found q) ∙ items_rows at state 0 found (each_stands state.database.tables q.sources)
