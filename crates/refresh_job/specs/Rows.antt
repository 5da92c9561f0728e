-- The rows of a source's memory that a refresh writes.
use Rattle.std.specs.Prelude.{ℕ, List, map}
use Rattle.col_value.specs.declared.row.Stamped.{Stamped}
use Rattle.row_history.specs.History.{on_columns, retained}

-- the rows that are retained from a mark on, with the columns of the new projection
abbrev pub wanted : ℕ → List ℕ → List Stamped → List Stamped
wanted mark via rows = map (on_columns via) (retained mark rows)
