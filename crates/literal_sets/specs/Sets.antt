-- The literals with which a condition compares a column.
use Rattle.std.specs.Prelude.{◌≡◌, ℕ, Bool, List}
use Rattle.std.specs.List.{list_any}
use Rattle.col_value.specs.Order.{projected}
use Rattle.col_value.specs.declared.value.Value.{Value}
use Rattle.row_keys.specs.Keys.{is_same_key}
use Rattle.sql_bound.specs.declared.expr.Expr.{Expr}
use Rattle.sql_bound.specs.Values.{is_true, of_row, value_of}

-- the column, and the literals as keys of it
pub record Literals : Type 0 where
  pub columns : List ℕ
  pub keys : List (List Value)

-- a row has one of them
abbrev pub has_one : Literals → List Value → Bool
has_one s row = list_any (λ key. is_same_key key (projected row s.columns)) s.keys

-- the condition is true on exactly the rows that have one of them
abbrev pub IsSetOf : Expr → Literals → Type 0
IsSetOf e s = (row : List Value) → is_true (value_of (of_row row) e) ≡ has_one s row
