-- Rows at their places.
use Rattle.std.specs.Prelude.{ℕ, List, [], map, get_or}
use Rattle.col_value.specs.declared.row.Asked.{Asked}
use Rattle.container_draft.specs.Draft.{Drafted}

-- no row
abbrev pub no_row : Asked
no_row = record { row = []; ins = 0 }

abbrev pub asked_at : List Asked → ℕ → Asked
asked_at rows i = get_or rows i no_row

-- the rows at some places, in the order of the places
abbrev pub all_at : List Asked → List ℕ → List Asked
all_at rows places = map (asked_at rows) places

-- a container that is written, as it is seen
abbrev pub seen : List Asked → List ℕ → ℕ → ℕ → Drafted
seen rows places base done = record { base = base; places = places; rows = all_at rows places; done = done }
