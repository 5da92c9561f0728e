-- What is judged of a row.
use Rattle.std.specs.Prelude.{ℕ, List, [], ◌∷◌, Option, Some, None}
use Rattle.col_value.specs.declared.row.Asked.{Asked}
use Rattle.col_value.specs.declared.row.Stamped.{Stamped}
use Rattle.row_history.specs.History.{stamped}

-- a row with the delete epoch that is judged, where it is judged at all
abbrev pub rows_with : Asked → Option (Option ℕ) → List Stamped
rows_with a None = []
rows_with a (Some del) = stamped del a ∷ []
