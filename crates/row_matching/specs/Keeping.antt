-- The retained history of a table, made of what a projection stores that has all its columns.
use Rattle.std.specs.Prelude.{ℕ, ◌≡◌, ◌++◌, List, Option, map}
use Rattle.std.specs.List.{All}
use Rattle.col_value.specs.declared.row.Stamped.{Stamped}
use Rattle.col_value.specs.Order.{IsRow}
use Rattle.row_history.specs.History.{retained}
use Rattle.query_cover.specs.Seen.{placed}

-- a stored row with the columns of the table
abbrev pub with_places : List (Option ℕ) → Stamped → Stamped
with_places places s = record s { row = placed places s.row }

-- those of some rows that are retained from a mark on
abbrev pub history : ℕ → List (Option ℕ) → List Stamped → List Stamped
history mark places rows = map (with_places places) (retained mark rows)

-- where these are rows of a table, they join what was kept
abbrev pub KeepsAll : List Stamped → List Stamped → List Stamped → Type 0
KeepsAll more old new = All (λ s. IsRow s.row) more → new ≡ old ++ more
