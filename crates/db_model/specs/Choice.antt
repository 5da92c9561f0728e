-- Which projection a query reads for a FROM item.
use Rattle.std.specs.Prelude.{ℕ, ◌-◌, ◌+◌, ◌==◌, ◌&&◌, ◌++◌, not, nat_le, nat_lt, if◌then◌else◌, Bool, true, false, List, [], ◌∷◌, length, map, filter, find, Option, Some, None, option_and_then}
use Rattle.std.specs.List.{list_all, list_any, flat_map, slice_get}
use Rattle.std.specs.Option.{option_map_or}
use Rattle.std.specs.Ordering.{is_lt, nat_cmp, on, then_cmp}
use Rattle.std.specs.Cmp.Lexicographic.{slice_cmp}
use Rattle.col_value.specs.declared.wide.Wide.{Wide}
use Rattle.col_value.specs.declared.wide.Wide.TheVariants as wide
use Rattle.sql_tree.specs.declared.tree.Cmp.{Cmp}
use Rattle.sql_bound.specs.declared.expr.Expr.{Expr}
use Rattle.sql_bound.specs.declared.expr.Expr.TheOpen.{Expr-F, BoundTerm-F}
use Rattle.sql_bound.specs.declared.expr.Expr.TheFolds.{fold-Expr}
use Rattle.sql_bound.specs.declared.query.FromItem.{FromItem}
use Rattle.sql_bound.specs.declared.query.BoundQuery.{BoundQuery}
use Rattle.sql_bound.specs.Used.{used_columns}
use Rattle.db_model.specs.Database.{Shape, has_columns}

-- of columns of all FROM items those of one, by their places in its table
abbrev pub within_item : FromItem → List ℕ → List ℕ
within_item f columns = map (λ c. c - f.first) (filter (λ c. nat_le f.first c && nat_lt c (f.first + f.columns)) columns)

-- What an expression is to the choice: a text, a date, a truth value, a number, or a minus and a number is a constant; a column stands alone;
-- and a comparison of the two bounds the column.
pub record Side : Type 0 where
  pub number : Bool
  pub constant : Bool
  pub alone : Option ℕ
  pub bounds : List ℕ

abbrev pub constant_side : Bool → Bool → Side
constant_side number constant = record { number = number; constant = constant; alone = None; bounds = [] }

abbrev pub other_side : Side
other_side = constant_side false false

abbrev pub literal_side : Wide → Side
literal_side wide.Null = other_side
literal_side (wide.Bool b) = constant_side false true
literal_side (wide.Int n) = constant_side true true
literal_side (wide.Date d) = constant_side false true
literal_side (wide.Text t) = constant_side false true

-- all comparisons but `<>` bound
abbrev pub is_bounding : Cmp → Bool
is_bounding Cmp.Eq = true
is_bounding Cmp.Ne = false
is_bounding Cmp.Lt = true
is_bounding Cmp.Le = true
is_bounding Cmp.Gt = true
is_bounding Cmp.Ge = true

abbrev pub bound_by : Side → Side → List ℕ
bound_by a b = if b.constant then option_map_or (λ c. c ∷ []) a.alone [] else []

abbrev pub compared_side : Bool → Side → Side → Side
compared_side bounding a b = record { number = false; constant = false; alone = None; bounds = if bounding then bound_by a b ++ bound_by b a else [] }

abbrev pub side_step : Expr-F Side Side → Side
side_step (Expr-F.Lit w) = literal_side w
side_step (Expr-F.Col i) = record { number = false; constant = false; alone = Some i; bounds = [] }
side_step (Expr-F.Key i) = other_side
side_step (Expr-F.Agg i) = other_side
side_step (Expr-F.Neg a) = constant_side false a.number
side_step (Expr-F.Sum parts) = other_side
side_step (Expr-F.Product parts) = other_side
side_step (Expr-F.Compare a c b) = compared_side (is_bounding c) a b
side_step (Expr-F.IsNull a) = other_side
side_step (Expr-F.Not a) = other_side
side_step (Expr-F.And parts) = other_side
side_step (Expr-F.Or parts) = other_side

abbrev pub side_term : BoundTerm-F Side Side → Side
side_term t = t.part

abbrev pub side_of : Expr → Side
side_of = fold-Expr Side Side side_step side_term

-- the columns that have a constant bound: a member of the condition compares them with a constant, on either side
abbrev pub bounded_columns : BoundQuery → List ℕ
bounded_columns q = flat_map (λ e. (side_of e).bounds) q.keep

-- the column by which a projection is sorted first
abbrev pub first_sorted : Shape → Option ℕ
first_sorted s = option_and_then (λ i. option_and_then (λ c. Some c.0) (slice_get s.columns i)) (slice_get s.sort 0)

abbrev pub is_sorted_by_one : List ℕ → Shape → Bool
is_sorted_by_one bounded s = option_map_or (λ c. list_any (λ b. b == c) bounded) (first_sorted s) false

-- fewer columns first, and of equally many the least name
abbrev pub is_narrower : Shape → Shape → Bool
is_narrower s other = is_lt (then_cmp (on (λ x. length x.columns) nat_cmp) (on (λ x. x.name) (slice_cmp nat_cmp)) s other)

abbrev pub narrowest : List Shape → Option Shape
narrowest shapes = find (λ s. list_all (λ other. not (is_narrower other s)) shapes) shapes

abbrev pub or_all : List Shape → List Shape → List Shape
or_all [] all = all
or_all (s ∷ some) all = s ∷ some

-- The choice among projections of a table: of those that are up to date and have the used columns, first those that are sorted first
-- by a column with a constant bound; among these, or among all where there is none, the narrowest.
abbrev pub chosen : List ℕ → List ℕ → List Shape → Option Shape
chosen used bounded shapes = narrowest (or_all (filter (is_sorted_by_one bounded) (filter (λ s. s.fresh && has_columns s used) shapes)) (filter (λ s. s.fresh && has_columns s used) shapes))

-- the projection that a query reads for a FROM item
abbrev pub chosen_for : BoundQuery → FromItem → List Shape → Option Shape
chosen_for q f shapes = chosen (within_item f (used_columns q)) (within_item f (bounded_columns q)) shapes
