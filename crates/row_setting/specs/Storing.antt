-- Values that a column can hold.
use Rattle.std.specs.Prelude.{ℕ, List}
use Rattle.std.specs.List.{All}
use Rattle.col_value.specs.declared.value.Value.{Value}
use Rattle.col_value.specs.Order.{IsValue}
use Rattle.sql_bound.specs.declared.expr.Expr.{Expr}
use Rattle.sql_bound.specs.Values.{of_row, value_of}
use Rattle.sql_binding.specs.Inserts.{narrowed}

-- what columns are set to in this row are values of a table
abbrev pub AreStorable : List (ℕ × Expr) → List Value → Type 0
AreStorable sets row = All (λ s. IsValue (narrowed (value_of (of_row row) s.1))) sets
