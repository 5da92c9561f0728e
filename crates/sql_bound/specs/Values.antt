-- What an expression is worth: three-valued, and exact in whole numbers.
use Rattle.std.specs.Prelude.{ℕ, ℤ, pos, neg_ℤ, ◌+ℤ◌, ◌*ℤ◌, ◌==◌, ◌&&◌, not, if◌then◌else◌, Bool, true, false, List, [], map, fold, Option, Some, None, option_map}
use Rattle.std.specs.List.{slice_index_or}
use Rattle.std.specs.Ordering.{is_eq, is_lt, is_le, is_gt, is_ge}
use Rattle.std.specs.declared.cmp.Ordering.{Ordering}
use Rattle.col_value.specs.declared.value.Value.{Value}
use Rattle.col_value.specs.declared.value.Value.TheVariants as value
use Rattle.col_value.specs.declared.wide.Wide.{Wide}
use Rattle.col_value.specs.declared.wide.Wide.TheVariants as wide
use Rattle.col_value.specs.Order.{widened, wide_kind, wide_cmp}
use Rattle.sql_tree.specs.declared.tree.Cmp.{Cmp}
use Rattle.sql_bound.specs.declared.expr.Expr.{Expr}
use Rattle.sql_bound.specs.declared.expr.Expr.TheOpen.{Expr-F, BoundTerm-F}
use Rattle.sql_bound.specs.declared.expr.Expr.TheFolds.{fold-Expr}

-- What an expression may look at: a row of the columns of all FROM items, or the GROUP BY columns and the aggregates of a group.
pub record Scope : Type 0 where
  pub row : List Value
  pub keys : List Value
  pub aggs : List Wide

-- one row, and no group
abbrev pub of_row : List Value → Scope
of_row row = record { row = row; keys = []; aggs = [] }

-- the number and the truth value of what is of that kind
abbrev pub number_in : Wide → Option ℤ
number_in wide.Null = None
number_in (wide.Bool b) = None
number_in (wide.Int n) = Some n
number_in (wide.Date d) = None
number_in (wide.Text t) = None

abbrev pub truth_in : Wide → Option Bool
truth_in wide.Null = None
truth_in (wide.Bool b) = Some b
truth_in (wide.Int n) = None
truth_in (wide.Date d) = None
truth_in (wide.Text t) = None

-- a number, NULL where there is none
abbrev pub number : Option ℤ → Wide
number None = wide.Null
number (Some n) = wide.Int n

-- a truth value; what is unknown is NULL
abbrev pub truth : Option Bool → Wide
truth None = wide.Null
truth (Some b) = wide.Bool b

-- of two numbers; NULL where one of them is none
abbrev pub of_both : (ℤ → ℤ → ℤ) → Option ℤ → Option ℤ → Option ℤ
of_both f None b = None
of_both f (Some a) None = None
of_both f (Some a) (Some b) = Some (f a b)

-- a number with its sign turned
abbrev pub negated : Wide → Wide
negated w = number (option_map neg_ℤ (number_in w))

-- the sum and the product of all
abbrev pub sum_of : List Wide → Wide
sum_of ws = number (fold (of_both ◌+ℤ◌) (Some (pos 0)) (map number_in ws))

abbrev pub product_of : List Wide → Wide
product_of ws = number (fold (of_both ◌*ℤ◌) (Some (pos 1)) (map number_in ws))

-- whether a comparison holds of two values that stand so
abbrev pub holds : Cmp → Ordering → Bool
holds Cmp.Eq o = is_eq o
holds Cmp.Ne o = not (is_eq o)
holds Cmp.Lt o = is_lt o
holds Cmp.Le o = is_le o
holds Cmp.Gt o = is_gt o
holds Cmp.Ge o = is_ge o

-- two values of one kind, neither of them NULL
abbrev pub are_kin : Wide → Wide → Bool
are_kin a b = (wide_kind a == wide_kind b) && not (wide_kind a == 0)

-- a comparison with NULL is unknown
abbrev pub compared : Cmp → Wide → Wide → Wide
compared c a b = if are_kin a b then wide.Bool (holds c (wide_cmp a b)) else wide.Null

abbrev pub is_null : Wide → Bool
is_null w = wide_kind w == 0

-- AND of two: false where one is false, else unknown where one is unknown
abbrev pub both_hold : Option Bool → Option Bool → Option Bool
both_hold (Some false) b = Some false
both_hold (Some true) b = b
both_hold None None = None
both_hold None (Some false) = Some false
both_hold None (Some true) = None

-- OR of two: true where one is true, else unknown where one is unknown
abbrev pub one_holds : Option Bool → Option Bool → Option Bool
one_holds (Some true) b = Some true
one_holds (Some false) b = b
one_holds None None = None
one_holds None (Some true) = Some true
one_holds None (Some false) = None

abbrev pub all_of : List Wide → Wide
all_of ws = truth (fold both_hold (Some true) (map truth_in ws))

abbrev pub some_of : List Wide → Wide
some_of ws = truth (fold one_holds (Some false) (map truth_in ws))

-- NOT keeps what is unknown
abbrev pub denied : Wide → Wide
denied w = truth (option_map not (truth_in w))

-- one level of an expression, over the values of its parts
abbrev pub value_step : Scope → Expr-F Wide Wide → Wide
value_step s (Expr-F.Lit w) = w
value_step s (Expr-F.Col i) = widened (slice_index_or s.row i value.Null)
value_step s (Expr-F.Key i) = widened (slice_index_or s.keys i value.Null)
value_step s (Expr-F.Agg i) = slice_index_or s.aggs i wide.Null
value_step s (Expr-F.Neg a) = negated a
value_step s (Expr-F.Sum ws) = sum_of ws
value_step s (Expr-F.Product ws) = product_of ws
value_step s (Expr-F.Compare a c b) = compared c a b
value_step s (Expr-F.IsNull a) = wide.Bool (is_null a)
value_step s (Expr-F.Not a) = denied a
value_step s (Expr-F.And ws) = all_of ws
value_step s (Expr-F.Or ws) = some_of ws

-- a part of a sum: its value, turned where a minus stands before it
abbrev pub term_step : BoundTerm-F Wide Wide → Wide
term_step t = if t.minus then negated t.part else t.part

-- the value of an expression
abbrev pub value_of : Scope → Expr → Wide
value_of s = fold-Expr Wide Wide (value_step s) term_step

abbrev pub is_true : Wide → Bool
is_true wide.Null = false
is_true (wide.Bool b) = b
is_true (wide.Int n) = false
is_true (wide.Date d) = false
is_true (wide.Text t) = false
