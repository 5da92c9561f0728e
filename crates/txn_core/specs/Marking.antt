-- What DELETE, UPDATE and COMMIT make of a session's changes, and who holds a table.
use Rattle.std.specs.Prelude.{ℕ, ◌==◌, ◌&&◌, ◌++◌, not, if◌then◌else◌, Bool, true, List, [], ◌∷◌, find, Option, option_map, is_some, bytes_eq}
use Rattle.std.specs.List.{enumerate_from}
use Rattle.col_value.specs.declared.value.Value.{Value}
use Rattle.col_value.specs.declared.row.Asked.{Asked}
use Rattle.db_model.specs.State.{Changes}
use Rattle.db_model.specs.Locks.{changes_on, excludes}

-- these are the pending rows, these deletes join the others, and the table is held in mode X
abbrev pub marked : List (List Value) → List Asked → Changes → Changes
marked rows deletes c = record c { exclusive = true; rows = rows; deletes = c.deletes ++ deletes }

-- no rows are pending
abbrev pub emptied : Changes → Changes
emptied c = record c { rows = [] }

-- no rows are pending in the table of a name
abbrev pub without_rows : List ℕ → List Changes → List Changes
without_rows name [] = []
without_rows name (c ∷ changes) = if bytes_eq c.table name then emptied c ∷ changes else c ∷ without_rows name changes

-- the least other session whose mode on a table excludes the one that is wanted
abbrev pub excluder : List (List Changes) → ℕ → List ℕ → Bool → Option ℕ
excluder sessions current name want = option_map (λ e. e.0) (find (λ e. not (e.0 == current) && excludes name want e.1) (enumerate_from 1 sessions))

-- the least session that holds a table in some mode
abbrev pub holder : List (List Changes) → List ℕ → Option ℕ
holder sessions name = option_map (λ e. e.0) (find (λ e. is_some (changes_on name e.1)) (enumerate_from 1 sessions))
