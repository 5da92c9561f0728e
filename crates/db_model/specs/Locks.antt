-- Who holds a table. A session that has changes on a table holds it in mode I or, where it is exclusive, in mode X.
use Rattle.std.specs.Prelude.{ℕ, ◌==◌, ◌&&◌, ◌||◌, not, Bool, false, List, find, Option, option_map, is_some, bytes_eq}
use Rattle.std.specs.List.{enumerate_from}
use Rattle.std.specs.Option.{option_map_or}
use Rattle.db_model.specs.State.{State, Changes}

-- what a session has changed in a table, if it holds it
abbrev pub changes_on : List ℕ → List Changes → Option Changes
changes_on name changes = find (λ c. bytes_eq c.table name) changes

-- Mode X excludes I and X, and I excludes X: who holds the table excludes one who wants it where one of the two modes is X.
abbrev pub excludes : List ℕ → Bool → List Changes → Bool
excludes name want changes = option_map_or (λ c. c.exclusive || want) (changes_on name changes) false

-- the least other session whose mode on a table excludes the one that is wanted
abbrev pub conflict : State → List ℕ → Bool → Option ℕ
conflict state name want =
    option_map (λ e. e.0) (find (λ e. not (e.0 == state.current) && excludes name want e.1) (enumerate_from 1 state.sessions))

-- the least session that holds a table in some mode, the current one among them
abbrev pub holder : State → List ℕ → Option ℕ
holder state name = option_map (λ e. e.0) (find (λ e. is_some (changes_on name e.1)) (enumerate_from 1 state.sessions))
