-- Which bounds comparisons of a column with a constant set.
use Rattle.std.specs.Prelude.{◌≡◌, ℕ, ℤ, pos, negsuc, neg_ℤ, int_le, ◌+ℤ◌, ◌-ℤ◌, ◌+◌, ◌-◌, ◌^◌, ◌<◌, ◌==◌, ◌&&◌, if◌then◌else◌, true, false, Contains, List, Option, Some, None}
use Rattle.std.specs.Ordering.{int_eq}
use Rattle.col_value.specs.declared.value.Value.{Value}
use Rattle.col_value.specs.declared.value.Value.TheVariants as value
use Rattle.col_value.specs.declared.wide.Wide.{Wide}
use Rattle.col_value.specs.declared.wide.Wide.TheVariants as wide
use Rattle.sql_tree.specs.declared.tree.Cmp.{Cmp}
use Rattle.sql_bound.specs.declared.expr.Expr.{Expr}
use Rattle.sql_bound.specs.declared.expr.Expr.TheViews.{out-Expr}
use Rattle.sql_bound.specs.declared.expr.Expr.TheOpen.{Expr-F}
use Rattle.sql_bound.specs.declared.expr.BoundTerm.{BoundTerm}
use Rattle.row_bounds.specs.declared.bound.Bound.{Bound}

-- the column that an expression is
abbrev pub column_in : Expr-F Expr BoundTerm → Option ℕ
column_in (Expr-F.Col c) = Some c
column_in e = None

-- a number of 64 bits
abbrev pub short_number : ℤ → Option Value
short_number n = if int_le (negsuc (2 ^ 63 - 1)) n && int_le n (pos (2 ^ 63 - 1)) then Some (value.Int n) else None

-- the value that a literal is; NULL, to which nothing compares, is none
abbrev pub literal_value : Wide → Option Value
literal_value wide.Null = None
literal_value (wide.Bool b) = Some (value.Bool b)
literal_value (wide.Int n) = short_number n
literal_value (wide.Date d) = Some (value.Date d)
literal_value (wide.Text t) = Some (value.Text t)

abbrev pub minus_literal : Wide → Option Value
minus_literal wide.Null = None
minus_literal (wide.Bool b) = None
minus_literal (wide.Int n) = short_number (neg_ℤ n)
minus_literal (wide.Date d) = None
minus_literal (wide.Text t) = None

abbrev pub minus_value : Expr-F Expr BoundTerm → Option Value
minus_value (Expr-F.Lit w) = minus_literal w
minus_value e = None

-- the constant that an expression is: a literal, or a minus and a number
abbrev pub constant_in : Expr-F Expr BoundTerm → Option Value
constant_in (Expr-F.Lit w) = literal_value w
constant_in (Expr-F.Neg a) = minus_value (out-Expr a)
constant_in e = None

-- The greatest value that is less than another one of its kind, and the least that is greater: of numbers, days and truth values. A text has no
-- such, and stands for itself; so does a value at the end of its kind.
abbrev pub before : Value → Value
before value.Null = value.Null
before (value.Bool b) = value.Bool false
before (value.Int n) = if int_eq n (negsuc (2 ^ 63 - 1)) then value.Int n else value.Int (n -ℤ pos 1)
before (value.Date d) = value.Date (d - 1)
before (value.Text t) = value.Text t

abbrev pub behind : Value → Value
behind value.Null = value.Null
behind (value.Bool b) = value.Bool true
behind (value.Int n) = if int_eq n (pos (2 ^ 63 - 1)) then value.Int n else value.Int (n +ℤ pos 1)
behind (value.Date d) = value.Date (if d == 2 ^ 32 - 1 then d else d + 1)
behind (value.Text t) = value.Text t

abbrev pub between : ℕ → Option Value → Option Value → Bound
between column least greatest = record { column = column; least = least; greatest = greatest }

-- the bound of a column that stands so to a value
abbrev pub bound_at : ℕ → Cmp → Value → Option Bound
bound_at column Cmp.Eq v = Some (between column (Some v) (Some v))
bound_at column Cmp.Ne v = None
bound_at column Cmp.Lt v = Some (between column None (Some (before v)))
bound_at column Cmp.Le v = Some (between column None (Some v))
bound_at column Cmp.Gt v = Some (between column (Some (behind v)) None)
bound_at column Cmp.Ge v = Some (between column (Some v) None)

abbrev pub bound_to : ℕ → Cmp → Option Value → Option Bound
bound_to column c None = None
bound_to column c (Some v) = bound_at column c v

-- the comparison that says the same with its sides exchanged
abbrev pub turned : Cmp → Cmp
turned Cmp.Eq = Cmp.Eq
turned Cmp.Ne = Cmp.Ne
turned Cmp.Lt = Cmp.Gt
turned Cmp.Le = Cmp.Ge
turned Cmp.Gt = Cmp.Lt
turned Cmp.Ge = Cmp.Le

-- what a comparison of two sides sets, of each of which it is told which column and which constant it is
abbrev pub sides_bound : Cmp → Option ℕ → Option Value → Option ℕ → Option Value → Option Bound
sides_bound c (Some column) v other w = bound_to column c w
sides_bound c None v (Some column) w = bound_to column (turned c) v
sides_bound c None v None w = None

abbrev pub compared_bound : Cmp → Expr-F Expr BoundTerm → Expr-F Expr BoundTerm → Option Bound
compared_bound c a b = sides_bound c (column_in a) (constant_in a) (column_in b) (constant_in b)

abbrev pub set_in : Expr-F Expr BoundTerm → Option Bound
set_in (Expr-F.Compare a c b) = compared_bound c (out-Expr a) (out-Expr b)
set_in e = None

-- the bound that a condition sets which compares a column with a constant
abbrev pub set_bound : Expr → Option Bound
set_bound e = set_in (out-Expr e)

-- a bound whose column is counted from a place on, as it is counted from the first column
abbrev pub unmoved : ℕ → Bound → Bound
unmoved first b = between (first + b.column) b.least b.greatest

-- one of some conditions sets the bound to one of so many columns from a place on; its column is counted from there
abbrev pub IsSet : List Expr → ℕ → ℕ → Bound → Type 0
IsSet keep first columns b = (b.column < columns) × ((e : Expr) × Contains keep e × (set_bound e ≡ Some (unmoved first b)))
