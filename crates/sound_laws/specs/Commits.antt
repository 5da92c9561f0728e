-- What a commit does to one table.
use Rattle.std.specs.Prelude.{ℕ, ◌++◌, List, map}
use Rattle.row_history.specs.History.{inserted_at, mark_all}
use Rattle.db_model.specs.Database.{Table}
use Rattle.db_model.specs.State.{Changes, pending_rows, pending_deletes}

-- a table after a session's changes in it were committed at an epoch
abbrev pub commit_table : ℕ → List Changes → Table → Table
commit_table epoch changes u = record u { rows = mark_all epoch (pending_deletes u.name changes) u.rows ++ map (inserted_at epoch) (pending_rows u.name changes) }
