-- What a statement text answers.
use Rattle.std.specs.Prelude.{ℕ, ◌≡◌, ◌≤◌, List, Option}
use Rattle.col_disk.specs.declared.disk.Disk.{Ghosts}
use Rattle.sql_tree.specs.declared.refusal.Refusal.{Refusal}
use Rattle.catalog_types.specs.Reached.{least_lge}
use Rattle.vert_cli.specs.State.{State}
use Rattle.vert_cli.specs.Loading.{Files}
use Rattle.vert_cli.specs.Mover.{MoverRuns}
use Rattle.vert_cli.specs.Step.{Step}
use Rattle.vert_cli.specs.Running.{Running, IsState}
use Rattle.vert_cli.specs.Forms.{is_served}

-- A step was made of a state, these bytes are exactly what it prints, and the session is the state that is left.
pub record Executes {D : Type 0} (disk : Ghosts D) (files : Files) (text : List ℕ) (is : Running) (now : D) (state : State) (printed : List ℕ) (refusal : Option Refusal) : Type 0 where
  pub next : State
  pub step : Step is_served state files text printed refusal next
  pub stands : IsState disk is now next

-- Some steps of the mover were made of a state.
pub record Settles {D : Type 0} (disk : Ghosts D) (is : Running) (now : D) (state : State) : Type 0 where
  pub moves : ℕ
  pub next : State
  pub runs : MoverRuns moves state next
  pub stands : IsState disk is now next

-- A step was made, these bytes are exactly what it prints, and steps of the mover were made behind it.
pub record Tells {D : Type 0} (disk : Ghosts D) (files : Files) (text : List ℕ) (is : Running) (now : D) (state : State) (printed : List ℕ) (refusal : Option Refusal) : Type 0 where
  pub mid : State
  pub step : Step is_served state files text printed refusal mid
  pub settles : Settles disk is now mid

-- all that is committed is in the folder
abbrev pub IsAllOnDisk : Running → Type 0
IsAllOnDisk is = is.seen.catalogue.last ≤ least_lge is.seen.catalogue
