-- The lines of EXPLAIN over the tables of a state.
use Rattle.std.proofs.Common.{◌≡◌, ℕ, suc, ◌+◌, ◌<◌, ◌≤◌, ◌++◌, Bool, true, false, cond, List, [], ◌∷◌, length, map, take, get_or, refl, sym, ap, ap₂, ◌∙◌, arith, subst}
use Rattle.std.specs.Prelude.{Option, Some, None, min, option_map, find, bytes_eq, zip, codes}
use Rattle.std.specs.List.{All, enumerate_from, flat_map, slice_get}
use Rattle.std.specs.Option.{option_map_or}
use Rattle.std.proofs.lemmas.Grind.{flat_map-append}
use Rattle.std.proofs.lemmas.List.{append-nil, append_assoc, get_or_default, take_all, take_more}
use Rattle.std.proofs.lemmas.List.Concat.{flat_map-cons}
use Rattle.std.proofs.lemmas.List.Elements.{All-append, All-cons, All-head, All-nil, All-tail}
use Rattle.std.proofs.lemmas.Option.{slice_get-map}
use Rattle.std.proofs.lemmas.Slice.Zip.{get_or-zip, length-zip}
use Rattle.col_value.specs.declared.column.Column.{Column}
use Rattle.sql_tree.specs.declared.query.Query.{Query}
use Rattle.sql_tree.specs.declared.query.Source.{Source}
use Rattle.sql_bound.specs.declared.query.FromItem.{FromItem}
use Rattle.sql_bound.specs.declared.query.BoundQuery.{BoundQuery}
use Rattle.sql_binding.specs.Queries.{bound_source, bound_sources, columns_of, over_groups, over_rows}
use Rattle.sql_binding.specs.Sight.{item_name, sight}
use Rattle.sql_binding.specs.Uses.{is_grouped}
use Rattle.db_model.specs.Database.{Shape, Table}
use Rattle.db_model.specs.Printing.{explain_text, scan_line}
use Rattle.db_model.specs.State.{State}
use Rattle.db_model.specs.Views.{bound_in, bound_over, source_tables, table_found}
use Rattle.statement_text.specs.Explained.{chosen_name, name_among, scan_over}

-- a table stands at its place
abbrev StandsAt : List Table → ℕ × Table → Type 0
StandsAt tables e = slice_get tables e.0 ≡ Some e.1

abbrev named : List ℕ → ℕ × Table → Bool
named name e = bytes_eq e.1.name name

found_from : (name : List ℕ) (i : ℕ) (ts : List Table) (e : ℕ × Table) → find (named name) (enumerate_from i ts) ≡ Some e → (k : ℕ) × (e.0 ≡ i + k) × (slice_get ts k ≡ Some e.1)
found_from name i [] e is = absurd (cc)
found_from name i (t ∷ ts) e is = by (bytes_eq t.name name) (found_from name (i + 1) ts e) is
  where
    by : (b : Bool) → (find (named name) (enumerate_from (i + 1) ts) ≡ Some e → (k : ℕ) × (e.0 ≡ (i + 1) + k) × (slice_get ts k ≡ Some e.1))
        → cond b (Some (i, t)) (find (named name) (enumerate_from (i + 1) ts)) ≡ Some e → (k : ℕ) × (e.0 ≡ i + k) × (slice_get (t ∷ ts) k ≡ Some e.1)
    by true more at =
        let same : (i, t) ≡ e = cc in
        (0, ap (λ (x : ℕ × Table). x.0) (sym same) ∙ omega arith, ap (λ (x : ℕ × Table). Some x.1) same)
    by false more at = let (k, place, there) = more at in (suc k, omega (arith, place), there)

found_stands : (name : List ℕ) (tables : List Table) (o : Option (ℕ × Table)) → table_found name tables ≡ o → All (StandsAt tables) (option_map_or (λ e. e ∷ []) o [])
found_stands name tables None is = All-nil (StandsAt tables)
found_stands name tables (Some e) is =
    let (k, place, there) = found_from name 0 tables e is in
    let same : k ≡ e.0 = omega (arith, place) in
    All-cons (StandsAt tables) e [] (ap (slice_get tables) (sym same) ∙ there) (All-nil (StandsAt tables))

abbrev tables_of : List Table → Source → List (ℕ × Table)
tables_of tables s = option_map_or (λ e. e ∷ []) (table_found s.table tables) []

each_stands : (tables : List Table) (sources : List Source) → All (StandsAt tables) (flat_map (tables_of tables) sources)
each_stands tables [] = All-nil (StandsAt tables)
each_stands tables (s ∷ sources) =
    subst (All (StandsAt tables)) (sym (flat_map-cons (tables_of tables) s sources))
    (All-append (StandsAt tables) (tables_of tables s) (flat_map (tables_of tables) sources) (found_stands s.table tables (table_found s.table tables) refl) (each_stands tables sources))

abbrev columns_at : ℕ × Table → ℕ × List Column
columns_at e = (e.0, e.1.columns)

-- the bound tree has a FROM item for each table that was found
chosen_items : (b : Bool) (x y : BoundQuery) (items : List FromItem) → x.sources ≡ items → y.sources ≡ items → (cond b x y).sources ≡ items
chosen_items true x y items one other = one
chosen_items false x y items one other = other

bound_items : (found : List (ℕ × Table)) (q : Query) → (bound_over found q).sources ≡ bound_sources 0 (map columns_at found)
bound_items found q =
    let tables = map columns_at found in
    let seen = sight q.sources (columns_of tables) in
    chosen_items (is_grouped q) (over_groups tables seen q) (over_rows tables seen q) (bound_sources 0 tables) refl refl

abbrev shapes : Table → List Shape
shapes t = t.shapes

one_line : (b : BoundQuery) (tables : List Table) (s : Source) (f : FromItem) (e : ℕ × Table) → f.table ≡ e.0 → StandsAt tables e → scan_over b (map shapes tables) (s, f) ≡ scan_line b (s, (f, e))
one_line b tables s f e place there =
    let at : slice_get (map shapes tables) f.table ≡ Some e.1.shapes =
    ap (slice_get (map shapes tables)) place ∙ slice_get-map shapes tables e.0 ∙ ap (option_map shapes) there in
    ap (λ (o : Option (List Shape)). codes "SCAN " ++ (item_name s ++ (codes " " ++ (option_map_or (name_among b f) o [] ++ codes "\n")))) at

lines_from : (b : BoundQuery) (tables : List Table) (ss : List Source) (first : ℕ) (found : List (ℕ × Table)) → All (StandsAt tables) found
    → flat_map (scan_over b (map shapes tables)) (zip ss (bound_sources first (map columns_at found))) ≡ flat_map (scan_line b) (zip ss (zip (bound_sources first (map columns_at found)) found))
lines_from b tables [] first found all = refl
lines_from b tables (s ∷ ss) first [] all = refl
lines_from b tables (s ∷ ss) first (e ∷ found) all =
    ap₂ (λ (line more : List ℕ). line ++ more) (one_line b tables s (bound_source first (columns_at e)) e refl (All-head (StandsAt tables) e found all))
    (lines_from b tables ss (first + length e.1.columns) found (All-tail (StandsAt tables) e found all))

lines_over : (state : State) (q : Query) → flat_map (scan_over (bound_in state q) (map shapes state.database.tables)) (zip q.sources (bound_in state q).sources) ≡ explain_text state q
lines_over state q =
    let found = source_tables state.database.tables q in
    let items : (bound_in state q).sources ≡ bound_sources 0 (map columns_at found) = bound_items found q in
    ap (λ (fs : List FromItem). flat_map (scan_over (bound_in state q) (map shapes state.database.tables)) (zip q.sources fs)) items
    ∙ lines_from (bound_in state q) state.database.tables q.sources 0 found (each_stands state.database.tables q.sources)
    ∙ ap (λ (fs : List FromItem). flat_map (scan_line (bound_in state q)) (zip q.sources (zip fs found))) (sym items)

-- the lines of a bound tree over the projections of all tables are those of EXPLAIN
pub explained : (state : State) (q : Query) (b : BoundQuery) (all : List (List Shape)) (text : List ℕ) → b ≡ bound_in state q → map shapes state.database.tables ≡ all
    → text ≡ flat_map (scan_over b all) (zip q.sources b.sources) → text ≡ explain_text state q
explained state q b all text tree same is =
    is
    ∙ ap (λ (ss : List (List Shape)). flat_map (scan_over b ss) (zip q.sources b.sources)) (sym same)
    ∙ ap (λ (t : BoundQuery). flat_map (scan_over t (map shapes state.database.tables)) (zip q.sources t.sources)) tree
    ∙ lines_over state q

-- ---- one line more

pair_line : {X : Type 0} (f : X → List ℕ) (x : X) → flat_map f (x ∷ []) ≡ f x
pair_line f x = flat_map-cons f x [] ∙ append-nil (f x)

within : {X Y : Type 0} (xs : List X) (ys : List Y) (i : ℕ) → i < length xs → i < length ys → i < length (zip xs ys)
within xs ys i a b = subst (λ (n : ℕ). i < n) (sym (length-zip xs ys)) (both i (length xs) (length ys) a b)
  where
    both : (n k m : ℕ) → n < k → n < m → n < min k m
    both n k m a b = grind (arith)

pub scan_more : {X Y : Type 0} (f : X × Y → List ℕ) (xs : List X) (ys : List Y) (i : ℕ) (x : X) (y : Y) → i < length xs → i < length ys → x ≡ get_or xs i x → y ≡ get_or ys i y
    → flat_map f (take (i + 1) (zip xs ys)) ≡ flat_map f (take i (zip xs ys)) ++ f (x, y)
scan_more {X} {Y} f xs ys i x y a b one two =
    ap (flat_map f) (take_more (zip xs ys) i (x, y) (within xs ys i a b))
    ∙ flat_map-append f (take i (zip xs ys)) (get_or (zip xs ys) i (x, y) ∷ [])
    ∙ ap (λ (line : List ℕ). flat_map f (take i (zip xs ys)) ++ line) (pair_line f (get_or (zip xs ys) i (x, y)) ∙ ap f (get_or-zip xs ys i (x, y) a b ∙ ap₂ (λ (s : X) (t : Y). (s, t)) (sym one) (sym two)))

abbrev pub blank : FromItem
blank = record { table = 0; first = 0; columns = 0 }

pub one_more : (q : BoundQuery) (all : List (List Shape)) (xs : List Source) (ys : List FromItem) (i : ℕ) (x : Source) (d : FromItem) (base was out named chosen : List ℕ) → was ≡ base ++ flat_map (scan_over q all) (take i (zip xs ys))
    → out ≡ was ++ (codes "SCAN " ++ (named ++ (codes " " ++ (chosen ++ codes "\n")))) → named ≡ item_name x → chosen ≡ chosen_name q all (get_or ys i d) → i < length xs → i < length ys → x ≡ get_or xs i x
    → out ≡ base ++ flat_map (scan_over q all) (take (i + 1) (zip xs ys))
one_more q all xs ys i x d base was out named chosen before is named_is chosen_is a b at =
    let y = get_or ys i d in
    is
    ∙ ap₂ (λ (n c : List ℕ). was ++ (codes "SCAN " ++ (n ++ (codes " " ++ (c ++ codes "\n"))))) named_is chosen_is
    ∙ ap (λ (t : List ℕ). t ++ scan_over q all (x, y)) before
    ∙ append_assoc base (flat_map (scan_over q all) (take i (zip xs ys))) (scan_over q all (x, y))
    ∙ ap (λ (t : List ℕ). base ++ t) (sym (scan_more (scan_over q all) xs ys i x y a b at (get_or_default ys i d y b)))

pub scans_all : {X Y : Type 0} (f : X × Y → List ℕ) (xs : List X) (ys : List Y) (i : ℕ) → min (length xs) (length ys) ≤ i → flat_map f (take i (zip xs ys)) ≡ flat_map f (zip xs ys)
scans_all f xs ys i le = ap (flat_map f) (take_all i (zip xs ys) (subst (λ (n : ℕ). n ≤ i) (sym (length-zip xs ys)) le))
