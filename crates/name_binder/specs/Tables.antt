-- The tables of the FROM items, as they were found.
use Rattle.std.specs.Prelude.{ℕ, List, [], ◌∷◌, map, Option, Some, None, option_map}
use Rattle.col_value.specs.declared.column.Column.{Column}

-- the columns of each that was found
abbrev pub columns_found : List (Option (ℕ × List Column)) → List (Option (List Column))
columns_found found = map (λ f. option_map (λ t. t.1) f) found

-- those that were found
abbrev pub tables_found : List (Option (ℕ × List Column)) → List (ℕ × List Column)
tables_found [] = []
tables_found (None ∷ rest) = tables_found rest
tables_found (Some t ∷ rest) = t ∷ tables_found rest
