-- A projection has the columns that a query uses where it has those of each expression.
use Rattle.std.proofs.Common.{◌≡◌, ℕ, ◌+◌, ◌-◌, ◌++◌, Bool, true, false, cond, List, [], ◌∷◌, map, filter, Option, Some, None, refl, sym, ap, ap₂, ◌∙◌, arith, subst}
use Rattle.std.specs.Prelude.{nat_le, nat_lt, ◌==◌, ◌&&◌, ◌||◌}
use Rattle.std.specs.Option.{option_map_or}
use Rattle.std.specs.List.{list_all, list_any, flat_map}
use Rattle.std.proofs.lemmas.Bool.Decides.{nat_tests}
use Rattle.std.proofs.lemmas.List.{map-append}
use Rattle.std.proofs.lemmas.List.Concat.{flat_map-cons}
use Rattle.std.proofs.lemmas.List.Elements.{filter-append}
use Rattle.std.proofs.lemmas.List.Folds.{list_all-append}
use Rattle.col_value.specs.declared.kinds.Encoding.{Encoding}
use Rattle.catalog_types.specs.declared.catalogue.ProjColumn.{ProjColumn}
use Rattle.catalog_types.specs.declared.catalogue.Projection.{Projection}
use Rattle.sql_bound.specs.declared.expr.Expr.{Expr}
use Rattle.sql_bound.specs.declared.expr.BoundTerm.{BoundTerm}
use Rattle.sql_bound.specs.declared.expr.Expr.TheViews.{roll-Expr, roll-BoundTerm}
use Rattle.sql_bound.specs.declared.expr.Expr.TheOpen.{Expr-F, BoundTerm-F}
use Rattle.sql_bound.specs.declared.expr.Expr.TheFolds.{map-Expr, map-BoundTerm, fold-BoundTerm, fold-roll-Expr, fold-roll-BoundTerm, ind-Expr}
use Rattle.sql_bound.specs.declared.query.Aggregate.{Aggregate}
use Rattle.sql_bound.specs.declared.query.FromItem.{FromItem}
use Rattle.sql_bound.specs.declared.query.BoundQuery.{BoundQuery}
use Rattle.sql_bound.specs.declared.query.BoundWindow.{BoundWindow}
use Rattle.db_model.specs.Database.{has_columns}
use Rattle.db_model.specs.Choice.{within_item}
use Rattle.sql_bound.specs.Used.{columns_step, columns_term, columns_of, columns_of_window, used_columns}
use Rattle.folder_model.specs.Projections.{shape_of}
use Rattle.plan_choice.specs.Covering.{covers_column, covers_step, covers_term, covers, covers_part, covers_aggregate, covers_window, covers_query}

-- of some columns of all FROM items, those of this one are columns of the projection
abbrev covered : FromItem → List ProjColumn → List ℕ → Bool
covered f columns xs = list_all (λ i. list_any (λ k. k.ordinal == i) columns) (within_item f xs)

abbrev is_within : FromItem → ℕ → Bool
is_within f i = nat_le f.first i && nat_lt i (f.first + f.columns)

pub within_append : (f : FromItem) (xs ys : List ℕ) → within_item f (xs ++ ys) ≡ within_item f xs ++ within_item f ys
within_append f xs ys =
    ap (map (λ (c : ℕ). c - f.first)) (filter-append (λ c. nat_le f.first c && nat_lt c (f.first + f.columns)) xs ys)
    ∙ map-append (λ (c : ℕ). c - f.first) (filter (λ c. nat_le f.first c && nat_lt c (f.first + f.columns)) xs) (filter (λ c. nat_le f.first c && nat_lt c (f.first + f.columns)) ys)

covered_append : (f : FromItem) (columns : List ProjColumn) (xs ys : List ℕ) → covered f columns (xs ++ ys) ≡ (covered f columns xs && covered f columns ys)
covered_append f columns xs ys =
    ap (list_all (λ i. list_any (λ k. k.ordinal == i) columns)) (within_append f xs ys)
    ∙ list_all-append (λ i. list_any (λ k. k.ordinal == i) columns) (within_item f xs) (within_item f ys)

covered_one : (f : FromItem) (columns : List ProjColumn) (i : ℕ) → covers_column f columns i ≡ covered f columns (i ∷ [])
covered_one f columns i = by (nat_lt i f.first) (nat_le f.columns (i - f.first)) refl refl
  where
    has : Bool
    has = list_any (λ k. k.ordinal == i - f.first) columns

    right : (b : Bool) → (b && true) ≡ b
    right true = refl
    right false = refl

    listed : Bool → Bool
    listed b = list_all (λ j. list_any (λ k. k.ordinal == j) columns) (map (λ (c : ℕ). c - f.first) (cond b (i ∷ []) []))

    by : (a b : Bool) → nat_lt i f.first ≡ a → nat_le f.columns (i - f.first) ≡ b → (a || (b || has)) ≡ listed (is_within f i)
    by true b before behind =
        let out : is_within f i ≡ false = grind (arith, nat_tests) in sym (ap listed out)
    by false true before behind =
        let out : is_within f i ≡ false = grind (arith, nat_tests) in sym (ap listed out)
    by false false before behind =
        let inside : is_within f i ≡ true = grind (arith, nat_tests) in sym (ap listed inside ∙ right has)

covered_flat : (f : FromItem) (columns : List ProjColumn) (xss : List (List ℕ)) → covered f columns (flat_map (λ u. u) xss) ≡ list_all (λ b. b) (map (covered f columns) xss)
covered_flat f columns [] = refl
covered_flat f columns (xs ∷ xss) =
    ap (covered f columns) (flat_map-cons (λ (u : List ℕ). u) xs xss) ∙ covered_append f columns xs (flat_map (λ u. u) xss)
    ∙ ap (λ (b : Bool). covered f columns xs && b) (covered_flat f columns xss)

-- ---- expressions

abbrev IsCovered : FromItem → List ProjColumn → Expr → Type 0
IsCovered f columns e = covers f columns e ≡ covered f columns (columns_of e)

abbrev columns_of_part : BoundTerm → List ℕ
columns_of_part = fold-BoundTerm (List ℕ) (List ℕ) columns_step columns_term

abbrev IsCoveredTerm : FromItem → List ProjColumn → BoundTerm → Type 0
IsCoveredTerm f columns t = covers_part f columns t ≡ covered f columns (columns_of_part t)

same_each : {X : Type 0} (f : FromItem) (columns : List ProjColumn) (m : X → Bool) (b : X → List ℕ) (ys : List ((x : X) × (m x ≡ covered f columns (b x))))
    → map m (map (λ y. y.0) ys) ≡ map (covered f columns) (map b (map (λ y. y.0) ys))
same_each f columns m b [] = refl
same_each f columns m b (y ∷ ys) = ap₂ ◌∷◌ y.1 (same_each f columns m b ys)

all_covered : {X : Type 0} (f : FromItem) (columns : List ProjColumn) (m : X → Bool) (b : X → List ℕ) (ys : List ((x : X) × (m x ≡ covered f columns (b x))))
    → list_all (λ b. b) (map m (map (λ y. y.0) ys)) ≡ covered f columns (flat_map (λ u. u) (map b (map (λ y. y.0) ys)))
all_covered f columns m b ys = ap (list_all (λ b. b)) (same_each f columns m b ys) ∙ sym (covered_flat f columns (map b (map (λ y. y.0) ys)))

level : (f : FromItem) (columns : List ProjColumn) → (y : Expr-F ((e : Expr) × IsCovered f columns e) ((t : BoundTerm) × IsCoveredTerm f columns t))
    → covers_step f columns (map-Expr _ _ _ _ (covers f columns) (covers_part f columns) (map-Expr _ _ _ _ (λ e. e.0) (λ t. t.0) y))
    ≡ covered f columns (columns_step (map-Expr _ _ _ _ columns_of columns_of_part (map-Expr _ _ _ _ (λ e. e.0) (λ t. t.0) y)))
level f columns (Expr-F.Lit w) = refl
level f columns (Expr-F.Col i) = covered_one f columns i
level f columns (Expr-F.Key i) = refl
level f columns (Expr-F.Agg i) = refl
level f columns (Expr-F.Neg a) = a.1
level f columns (Expr-F.Sum ts) = all_covered f columns (covers_part f columns) columns_of_part ts
level f columns (Expr-F.Product es) = all_covered f columns (covers f columns) columns_of es
level f columns (Expr-F.Compare a c b) = ap₂ (λ (x y : Bool). x && y) a.1 b.1 ∙ sym (covered_append f columns (columns_of a.0) (columns_of b.0))
level f columns (Expr-F.IsNull a) = a.1
level f columns (Expr-F.Not a) = a.1
level f columns (Expr-F.And es) = all_covered f columns (covers f columns) columns_of es
level f columns (Expr-F.Or es) = all_covered f columns (covers f columns) columns_of es

rolled : (f : FromItem) (columns : List ProjColumn) → (x : Expr-F Expr BoundTerm) (y : Expr-F ((e : Expr) × IsCovered f columns e) ((t : BoundTerm) × IsCoveredTerm f columns t))
    → map-Expr _ _ _ _ (λ e. e.0) (λ t. t.0) y ≡ x → IsCovered f columns (roll-Expr x)
rolled f columns x y is =
    let m = fold-roll-Expr Bool Bool (covers_step f columns) covers_term x in
    let b = fold-roll-Expr (List ℕ) (List ℕ) columns_step columns_term x in
    let l = subst
    (λ (z : Expr-F Expr BoundTerm).
    covers_step f columns (map-Expr _ _ _ _ (covers f columns) (covers_part f columns) z)
    ≡ covered f columns (columns_step (map-Expr _ _ _ _ columns_of columns_of_part z))) is (level f columns y) in
    m ∙ l ∙ sym (ap (covered f columns) b)

rolled_term : (f : FromItem) (columns : List ProjColumn) → (x : BoundTerm-F Expr BoundTerm) (y : BoundTerm-F ((e : Expr) × IsCovered f columns e) ((t : BoundTerm) × IsCoveredTerm f columns t))
    → map-BoundTerm _ _ _ _ (λ e. e.0) (λ t. t.0) y ≡ x → IsCoveredTerm f columns (roll-BoundTerm x)
rolled_term f columns x y is =
    let m = fold-roll-BoundTerm Bool Bool (covers_step f columns) covers_term x in
    let b = fold-roll-BoundTerm (List ℕ) (List ℕ) columns_step columns_term x in
    let l = subst (λ (z : BoundTerm-F Expr BoundTerm). covers f columns z.part ≡ covered f columns (columns_of z.part)) is y.part.1 in
    m ∙ l ∙ sym (ap (covered f columns) b)

covers_is : (f : FromItem) (columns : List ProjColumn) (e : Expr) → IsCovered f columns e
covers_is f columns = ind-Expr (IsCovered f columns) (IsCoveredTerm f columns) (rolled f columns) (rolled_term f columns)

-- ---- queries

exprs_are : (f : FromItem) (columns : List ProjColumn) (es : List Expr) → list_all (λ b. b) (map (covers f columns) es) ≡ covered f columns (flat_map columns_of es)
exprs_are f columns [] = refl
exprs_are f columns (e ∷ es) =
    ap₂ (λ (x y : Bool). x && y) (covers_is f columns e) (exprs_are f columns es) ∙ sym (covered_append f columns (columns_of e) (flat_map columns_of es))
    ∙ ap (covered f columns) (sym (flat_map-cons columns_of e es))

keys_are : (f : FromItem) (columns : List ProjColumn) (keys : List ℕ) → list_all (covers_column f columns) keys ≡ covered f columns keys
keys_are f columns [] = refl
keys_are f columns (k ∷ keys) = ap₂ (λ (x y : Bool). x && y) (covered_one f columns k) (keys_are f columns keys) ∙ sym (covered_append f columns (k ∷ []) keys)

abbrev aggregate_columns : Aggregate → List ℕ
aggregate_columns a = option_map_or columns_of a.arg []

aggregate_is : (f : FromItem) (columns : List ProjColumn) (o : Option Expr) → option_map_or (covers f columns) o true ≡ covered f columns (option_map_or columns_of o [])
aggregate_is f columns None = refl
aggregate_is f columns (Some e) = covers_is f columns e

aggregates_are : (f : FromItem) (columns : List ProjColumn) (aggs : List Aggregate) → list_all (covers_aggregate f columns) aggs ≡ covered f columns (flat_map aggregate_columns aggs)
aggregates_are f columns [] = refl
aggregates_are f columns (a ∷ aggs) =
    ap₂ (λ (x y : Bool). x && y) (aggregate_is f columns a.arg) (aggregates_are f columns aggs) ∙ sym (covered_append f columns (aggregate_columns a) (flat_map aggregate_columns aggs))
    ∙ ap (covered f columns) (sym (flat_map-cons aggregate_columns a aggs))

order_are : (f : FromItem) (columns : List ProjColumn) (keys : List (ℕ × Bool)) → list_all (λ k. covers_column f columns k.0) keys ≡ covered f columns (map (λ k. k.0) keys)
order_are f columns [] = refl
order_are f columns (k ∷ keys) = ap₂ (λ (x y : Bool). x && y) (covered_one f columns k.0) (order_are f columns keys) ∙ sym (covered_append f columns (k.0 ∷ []) (map (λ (j : ℕ × Bool). j.0) keys))

windows_are : (f : FromItem) (columns : List ProjColumn) (windows : List BoundWindow) → list_all (covers_window f columns) windows ≡ covered f columns (flat_map columns_of_window windows)
windows_are f columns [] = refl
windows_are f columns (w ∷ windows) =
    ap₂ (λ (x y : Bool). x && y)
    (ap₂ (λ (x y : Bool). x && y) (keys_are f columns w.partition) (order_are f columns w.order) ∙ sym (covered_append f columns w.partition (map (λ (k : ℕ × Bool). k.0) w.order)))
    (windows_are f columns windows)
    ∙ sym (covered_append f columns (columns_of_window w) (flat_map columns_of_window windows))
    ∙ ap (covered f columns) (sym (flat_map-cons columns_of_window w windows))

items_are : (f : FromItem) (columns : List ProjColumn) (grouped : Bool) (es : List Expr)
    → (grouped || list_all (λ b. b) (map (covers f columns) es)) ≡ covered f columns (cond grouped [] (flat_map columns_of es))
items_are f columns true es = refl
items_are f columns false es = exprs_are f columns es

query_covered : (f : FromItem) (columns : List ProjColumn) (q : BoundQuery) → covers_query f columns q ≡ covered f columns (used_columns q)
query_covered f columns q =
    let items = cond q.grouped [] (flat_map columns_of q.items) in
    let windows = flat_map columns_of_window q.windows in
    let aggs = flat_map aggregate_columns q.aggs in
    let keep = flat_map columns_of q.keep in
    ap₂ (λ (x y : Bool). x && y) (exprs_are f columns q.keep)
    (ap₂ (λ (x y : Bool). x && y) (keys_are f columns q.keys)
    (ap₂ (λ (x y : Bool). x && y) (aggregates_are f columns q.aggs)
    (ap₂ (λ (x y : Bool). x && y) (windows_are f columns q.windows) (items_are f columns q.grouped q.items) ∙ sym (covered_append f columns windows items))
    ∙ sym (covered_append f columns aggs (windows ++ items)))
    ∙ sym (covered_append f columns q.keys (aggs ++ (windows ++ items))))
    ∙ sym (covered_append f columns keep (q.keys ++ (aggs ++ (windows ++ items))))

-- ---- the columns of a shape

abbrev shape_column : ProjColumn → ℕ × Encoding
shape_column c = (c.ordinal, c.encoding)

any_same : (i : ℕ) (columns : List ProjColumn) → list_any (λ k. k.ordinal == i) columns ≡ list_any (λ (c : ℕ × Encoding). c.0 == i) (map shape_column columns)
any_same i [] = refl
any_same i (k ∷ columns) = ap (λ (b : Bool). (k.ordinal == i) || b) (any_same i columns)

all_same : (columns : List ProjColumn) (xs : List ℕ) → list_all (λ i. list_any (λ k. k.ordinal == i) columns) xs ≡ list_all (λ i. list_any (λ (c : ℕ × Encoding). c.0 == i) (map shape_column columns)) xs
all_same columns [] = refl
all_same columns (i ∷ xs) = ap₂ (λ (x y : Bool). x && y) (any_same i columns) (all_same columns xs)

-- a projection has the columns that the query uses
pub query_has : (f : FromItem) (q : BoundQuery) (p : Projection) → covers_query f p.columns q ≡ has_columns (shape_of p) (within_item f (used_columns q))
query_has f q p = query_covered f p.columns q ∙ all_same p.columns (within_item f (used_columns q))
