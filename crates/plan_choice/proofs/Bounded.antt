-- A query bounds a column where a member of its condition does.
use Rattle.std.proofs.Common.{◌≡◌, ℕ, ◌+◌, ◌-◌, ◌++◌, Bool, true, false, cond, List, [], ◌∷◌, map, Option, Some, None, refl, sym, ap, ap₂, ◌∙◌, arith}
use Rattle.std.specs.Prelude.{nat_le, nat_lt, ◌==◌, ◌&&◌, ◌||◌}
use Rattle.std.specs.Option.{option_map_or}
use Rattle.std.specs.List.{list_any, flat_map}
use Rattle.std.proofs.lemmas.Bool.Decides.{nat_tests}
use Rattle.std.proofs.lemmas.List.Concat.{flat_map-cons}
use Rattle.std.proofs.lemmas.List.Folds.{list_any-append}
use Rattle.col_value.specs.declared.wide.Wide.{Wide}
use Rattle.sql_bound.specs.declared.expr.Expr.{Expr}
use Rattle.sql_bound.specs.declared.expr.BoundTerm.{BoundTerm}
use Rattle.sql_bound.specs.declared.expr.Expr.TheViews.{out-Expr}
use Rattle.sql_bound.specs.declared.expr.Expr.TheOpen.{Expr-F}
use Rattle.sql_bound.specs.declared.expr.Expr.TheFolds.{map-Expr, fold-BoundTerm, fold_out-Expr}
use Rattle.sql_bound.specs.declared.query.FromItem.{FromItem}
use Rattle.sql_bound.specs.declared.query.BoundQuery.{BoundQuery}
use Rattle.catalog_types.specs.declared.catalogue.Projection.{Projection}
use Rattle.db_model.specs.Choice.{Side, is_bounding, bound_by, literal_side, side_step, side_term, side_of, bounded_columns, within_item, first_sorted, is_sorted_by_one}
use Rattle.folder_model.specs.Projections.{shape_of}
use Rattle.plan_choice.specs.Bounding.{is_at, bounds_at, bounds_in, bounds_column}
use Rattle.plan_choice.specs.Choosing.{is_sorted_well}
use Rattle.plan_choice.proofs.Covered.{within_append}

-- of some columns of all FROM items, this one is the item's column of a place
abbrev any_in : FromItem → ℕ → List ℕ → Bool
any_in f c xs = list_any (λ b. b == c) (within_item f xs)

any_append : (f : FromItem) (c : ℕ) (xs ys : List ℕ) → any_in f c (xs ++ ys) ≡ (any_in f c xs || any_in f c ys)
any_append f c xs ys = ap (list_any (λ b. b == c)) (within_append f xs ys) ∙ list_any-append (λ b. b == c) (within_item f xs) (within_item f ys)

any_one : (f : FromItem) (c i : ℕ) → any_in f c (i ∷ []) ≡ (nat_le f.first i && (nat_lt (i - f.first) f.columns && (i - f.first == c)))
any_one f c i = by (nat_le f.first i) (nat_lt (i - f.first) f.columns) refl refl
  where
    right : (b : Bool) → (b || false) ≡ b
    right true = refl
    right false = refl

    listed : Bool → Bool
    listed b = list_any (λ k. k == c) (map (λ (k : ℕ). k - f.first) (cond b (i ∷ []) []))

    by : (a b : Bool) → nat_le f.first i ≡ a → nat_lt (i - f.first) f.columns ≡ b → listed (nat_le f.first i && nat_lt i (f.first + f.columns)) ≡ (a && (b && (i - f.first == c)))
    by false b before behind =
        let out : (nat_le f.first i && nat_lt i (f.first + f.columns)) ≡ false = grind (arith, nat_tests) in ap listed out
    by true false before behind =
        let out : (nat_le f.first i && nat_lt i (f.first + f.columns)) ≡ false = grind (arith, nat_tests) in ap listed out
    by true true before behind =
        let inside : (nat_le f.first i && nat_lt i (f.first + f.columns)) ≡ true = grind (arith, nat_tests) in ap listed inside ∙ right (i - f.first == c)

any_bound : (f : FromItem) (c : ℕ) (a b : Side) → any_in f c (bound_by a b) ≡ (b.constant && is_at f c a.alone)
any_bound f c a b = by b.constant a.alone
  where
    by : (k : Bool) (o : Option ℕ) → any_in f c (cond k (option_map_or (λ i. i ∷ []) o []) []) ≡ (k && is_at f c o)
    by false o = refl
    by true None = refl
    by true (Some i) = any_one f c i

abbrev side_of_part : BoundTerm → Side
side_of_part = fold-BoundTerm Side Side side_step side_term

member_in : (f : FromItem) (c : ℕ) (x : Expr-F Expr BoundTerm) → bounds_in f c x ≡ any_in f c (side_step (map-Expr _ _ _ _ side_of side_of_part x)).bounds
member_in f c (Expr-F.Lit w) = literal w
  where
    literal : (v : Wide) → false ≡ any_in f c (literal_side v).bounds
    literal Wide.Null = refl
    literal (Wide.Bool b) = refl
    literal (Wide.Int n) = refl
    literal (Wide.Date d) = refl
    literal (Wide.Text t) = refl
member_in f c (Expr-F.Col i) = refl
member_in f c (Expr-F.Key i) = refl
member_in f c (Expr-F.Agg i) = refl
member_in f c (Expr-F.Neg a) = refl
member_in f c (Expr-F.Sum ts) = refl
member_in f c (Expr-F.Product es) = refl
member_in f c (Expr-F.Compare a how b) = by (is_bounding how)
  where
    x : Side
    x = side_of a

    y : Side
    y = side_of b

    by : (k : Bool) → (k && bounds_at f c x y) ≡ any_in f c (cond k (bound_by x y ++ bound_by y x) [])
    by false = refl
    by true = sym (any_append f c (bound_by x y) (bound_by y x) ∙ ap₂ (λ (p q : Bool). p || q) (any_bound f c x y) (any_bound f c y x))
member_in f c (Expr-F.IsNull a) = refl
member_in f c (Expr-F.Not a) = refl
member_in f c (Expr-F.And es) = refl
member_in f c (Expr-F.Or es) = refl

member_bounds : (f : FromItem) (c : ℕ) (e : Expr) → bounds_column f c e ≡ any_in f c (side_of e).bounds
member_bounds f c e = member_in f c (out-Expr e) ∙ ap (λ (s : Side). any_in f c s.bounds) (sym (fold_out-Expr Side Side side_step side_term e))

members_bound : (f : FromItem) (c : ℕ) (es : List Expr) → list_any (bounds_column f c) es ≡ any_in f c (flat_map (λ e. (side_of e).bounds) es)
members_bound f c [] = refl
members_bound f c (e ∷ es) =
    ap₂ (λ (p q : Bool). p || q) (member_bounds f c e) (members_bound f c es) ∙ sym (any_append f c (side_of e).bounds (flat_map (λ x. (side_of x).bounds) es))
    ∙ ap (any_in f c) (sym (flat_map-cons (λ (x : Expr). (side_of x).bounds) e es))

-- a projection is sorted first by a column that the query bounds
pub sorted_well : (q : BoundQuery) (f : FromItem) (p : Projection) → is_sorted_well q f p ≡ is_sorted_by_one (within_item f (bounded_columns q)) (shape_of p)
sorted_well q f p = by (first_sorted (shape_of p))
  where
    by : (o : Option ℕ) → option_map_or (λ c. list_any (bounds_column f c) q.keep) o false ≡ option_map_or (λ c. list_any (λ b. b == c) (within_item f (bounded_columns q))) o false
    by None = refl
    by (Some c) = members_bound f c q.keep
