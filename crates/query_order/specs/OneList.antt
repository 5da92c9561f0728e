-- One printed list for all orders of the same rows.
use Rattle.std.specs.Prelude.{◌≡◌, ℕ, Bool, List, Option}
use Rattle.std.specs.List.Sorted.{IsPermutation}
use Rattle.col_value.specs.declared.wide.Wide.{Wide}
use Rattle.sql_bound.specs.Printed.{IsPrinted}

-- printed lists of the same rows, in whatever orders these come, are the same list
abbrev pub HasOnePrintedList : List (ℕ × Bool) → Option ℕ → Type 0
HasOnePrintedList order limit = (rows other a b : List (List Wide)) → IsPermutation rows other → IsPrinted order limit rows a → IsPrinted order limit other b → a ≡ b
