-- The rows of a table on which a condition is true, as a session sees them.
use Rattle.std.specs.Prelude.{ℕ, List, filter, IsSomeAnd}
use Rattle.std.specs.List.{slice_get}
use Rattle.common_laws.specs.Bags.{SameBag}
use Rattle.col_disk.specs.declared.disk.Disk.{Ghosts}
use Rattle.col_value.specs.declared.row.Asked.{Asked}
use Rattle.col_value.specs.declared.value.Value.{Value}
use Rattle.sql_bound.specs.declared.expr.Expr.{Expr}
use Rattle.sql_bound.specs.Outputs.{is_kept}
use Rattle.db_model.specs.Database.{Database, Table}
use Rattle.db_model.specs.State.{Changes, pending_rows}
use Rattle.db_model.specs.Sound.{IsSoundSession}
use Rattle.db_model.specs.Views.{committed_view}
use Rattle.store_commit.specs.Seen.{Seen, Stands}

-- the committed rows that the session sees on which the condition is true, each with its insert epoch
abbrev pub committed_matches : List Expr → ℕ → List Changes → Table → List Asked
committed_matches keep last changes t = filter (λ a. is_kept keep a.row) (committed_view last changes t)

-- its pending rows on which it is true
abbrev pub pending_matches : List Expr → List Changes → Table → List (List Value)
pending_matches keep changes t = filter (is_kept keep) (pending_rows t.name changes)

-- these are the committed rows that match and the pending ones, in any order
pub record AreMatchesIn (keep : List Expr) (last : ℕ) (changes : List Changes) (t : Table) (committed : List Asked) (pending : List (List Value)) : Type 0 where
  pub committed_are : SameBag committed (committed_matches keep last changes t)
  pub pending_are : SameBag pending (pending_matches keep changes t)

-- of the table at a place
abbrev pub AreMatches : List Expr → Database → List Changes → ℕ → List Asked → List (List Value) → Type 0
AreMatches keep d changes i committed pending = IsSomeAnd (slice_get d.tables i) (λ t. AreMatchesIn keep d.last changes t committed pending)

-- the store stands over the disk for a database, and the session's changes are sound
pub record CanMatch {D : Type 0} (disk : Ghosts D) (s : Seen) (now : D) (changes : List Changes) (d : Database) : Type 0 where
  pub stands : Stands disk s now d
  pub session : IsSoundSession d changes
