-- Which expressions are typed, and of which kind they are.
use Rattle.std.specs.Prelude.{ℕ, ◌&&◌, if◌then◌else◌, Bool, true, false, List, map, Option, Some, None, is_some, option_and_then}
use Rattle.std.specs.List.{list_all, slice_get}
use Rattle.col_value.specs.declared.wide.Wide.{Wide}
use Rattle.col_value.specs.declared.wide.Wide.TheVariants as wide
use Rattle.col_value.specs.declared.kinds.ColType.{ColType}
use Rattle.sql_tree.specs.declared.tree.AggKind.{AggKind}
use Rattle.sql_bound.specs.declared.expr.Kind.{Kind}
use Rattle.sql_bound.specs.declared.expr.Expr.{Expr}
use Rattle.sql_bound.specs.declared.expr.Expr.TheOpen.{Expr-F, BoundTerm-F}
use Rattle.sql_bound.specs.declared.expr.Expr.TheFolds.{fold-Expr}
use Rattle.sql_bound.specs.declared.query.Aggregate.{Aggregate}

-- the kinds of the columns of all FROM items, of the GROUP BY columns and of the aggregates
pub record Kinds : Type 0 where
  pub columns : List Kind
  pub keys : List Kind
  pub aggs : List Kind

-- the kind of a column's values
abbrev pub kind_of_column : ColType → Kind
kind_of_column ColType.Integer = Kind.Number
kind_of_column (ColType.Varchar n) = Kind.Text
kind_of_column ColType.Boolean = Kind.Truth
kind_of_column ColType.Date = Kind.Date

abbrev pub kind_of_value : Wide → Kind
kind_of_value wide.Null = Kind.Null
kind_of_value (wide.Bool b) = Kind.Truth
kind_of_value (wide.Int n) = Kind.Number
kind_of_value (wide.Date d) = Kind.Date
kind_of_value (wide.Text t) = Kind.Text

-- a kind fits in the place of another; NULL fits every kind
abbrev pub serves : Kind → Kind → Bool
serves Kind.Null want = true
serves Kind.Truth Kind.Null = true
serves Kind.Truth Kind.Truth = true
serves Kind.Truth Kind.Number = false
serves Kind.Truth Kind.Date = false
serves Kind.Truth Kind.Text = false
serves Kind.Number Kind.Null = true
serves Kind.Number Kind.Truth = false
serves Kind.Number Kind.Number = true
serves Kind.Number Kind.Date = false
serves Kind.Number Kind.Text = false
serves Kind.Date Kind.Null = true
serves Kind.Date Kind.Truth = false
serves Kind.Date Kind.Number = false
serves Kind.Date Kind.Date = true
serves Kind.Date Kind.Text = false
serves Kind.Text Kind.Null = true
serves Kind.Text Kind.Truth = false
serves Kind.Text Kind.Number = false
serves Kind.Text Kind.Date = false
serves Kind.Text Kind.Text = true

-- typed, and of a kind that fits there
abbrev pub is_of : Kind → Option Kind → Bool
is_of want None = false
is_of want (Some k) = serves k want

-- this kind where the parts are right, else none
abbrev pub kind_where : Bool → Kind → Option Kind
kind_where right k = if right then Some k else None

-- two typed sides of one kind
abbrev pub are_comparable : Option Kind → Option Kind → Bool
are_comparable None b = false
are_comparable (Some a) None = false
are_comparable (Some a) (Some b) = serves a b

abbrev pub kind_step : Kinds → Expr-F (Option Kind) (Option Kind) → Option Kind
kind_step s (Expr-F.Lit w) = Some (kind_of_value w)
kind_step s (Expr-F.Col i) = slice_get s.columns i
kind_step s (Expr-F.Key i) = slice_get s.keys i
kind_step s (Expr-F.Agg i) = slice_get s.aggs i
kind_step s (Expr-F.Neg a) = kind_where (is_of Kind.Number a) Kind.Number
kind_step s (Expr-F.Sum parts) = kind_where (list_all (is_of Kind.Number) parts) Kind.Number
kind_step s (Expr-F.Product parts) = kind_where (list_all (is_of Kind.Number) parts) Kind.Number
kind_step s (Expr-F.Compare a c b) = kind_where (are_comparable a b) Kind.Truth
kind_step s (Expr-F.IsNull a) = kind_where (is_some a) Kind.Truth
kind_step s (Expr-F.Not a) = kind_where (is_of Kind.Truth a) Kind.Truth
kind_step s (Expr-F.And parts) = kind_where (list_all (is_of Kind.Truth) parts) Kind.Truth
kind_step s (Expr-F.Or parts) = kind_where (list_all (is_of Kind.Truth) parts) Kind.Truth

abbrev pub term_kind : BoundTerm-F (Option Kind) (Option Kind) → Option Kind
term_kind t = t.part

-- The kind of an expression; none where it isn't typed, or names a place that isn't there. Arithmetic takes numbers, AND, OR and
-- NOT take truth values, and a comparison two of one kind.
abbrev pub kind_of : Kinds → Expr → Option Kind
kind_of s = fold-Expr (Option Kind) (Option Kind) (kind_step s) term_kind

-- what stands behind WHERE, ON and HAVING is typed, and a truth value
abbrev pub is_condition : Kinds → Expr → Bool
is_condition s e = is_of Kind.Truth (kind_of s e)

-- the kind of an aggregate with an argument of this kind
abbrev pub kind_over : AggKind → Option Kind → Option Kind
kind_over AggKind.CountAll k = Some Kind.Number
kind_over AggKind.Count k = kind_where (is_some k) Kind.Number
kind_over AggKind.Sum k = kind_where (is_of Kind.Number k) Kind.Number
kind_over AggKind.Min k = k
kind_over AggKind.Max k = k

-- the kind of an aggregate over rows with columns of these kinds
abbrev pub kind_of_aggregate : Kinds → Aggregate → Option Kind
kind_of_aggregate s a = kind_over a.kind (option_and_then (kind_of s) a.arg)
