-- What events make of the sessions alone.
use Rattle.std.specs.Prelude.{ℕ, ◌-◌, ◌++◌, List, [], map, take, drop, slice_set}
use Rattle.std.specs.List.{slice_index_or}
use Rattle.col_value.specs.declared.value.Value.{Value}
use Rattle.col_value.specs.declared.row.Asked.{Asked}
use Rattle.db_model.specs.Events.{change_of}
use Rattle.db_model.specs.State.{Changes, State, own_changes, with_changes, with_rows}
use Rattle.txn_core.specs.Marking.{marked}
use Rattle.store_core.specs.Running.{Running}

-- the current session's changes
abbrev pub own_of : Running → List Changes
own_of r = slice_index_or r.sessions (r.current - 1) []

-- these are the current session's changes
abbrev pub with_own : List Changes → Running → Running
with_own changes r = record r { sessions = slice_set r.sessions (r.current - 1) changes }

-- rows join the current session's pending rows of a table
abbrev pub with_pending : List ℕ → List (List Value) → Running → Running
with_pending name rows r = with_own (with_rows name rows (own_of r)) r

-- these are the current session's pending rows of a table, these deletes join its others, and it holds the table in mode X
abbrev pub with_marked : List ℕ → List (List Value) → List Asked → Running → Running
with_marked name rows deletes r = with_own (change_of name (marked rows deletes) (own_of r)) r

-- the state in which these are the current session's pending rows of a table, these deletes join its others, and it holds the table in mode X
abbrev pub rows_given : List ℕ → List (List Value) → List Asked → State → State
rows_given name rows deletes state = with_changes (change_of name (marked rows deletes) (own_changes state)) state

-- another session is the current one
abbrev pub with_current : ℕ → Running → Running
with_current n r = record r { current = n }

-- the first eight sessions have no changes
abbrev pub eight_dropped : List (List Changes) → List (List Changes)
eight_dropped sessions = map (λ changes. []) (take 8 sessions) ++ drop 8 sessions

-- no session has changes
abbrev pub with_none : Running → Running
with_none r = record r { sessions = eight_dropped r.sessions }
