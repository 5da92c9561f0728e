-- How a run begins, by what it is asked for, and how it ends over a folder that reopens to a database.
use Rattle.std.specs.Prelude.{ℕ, ◌≡◌, ◌⊎◌, List, Bool, true, Option, Some}
use Rattle.common_laws.specs.Causes.{Rose}
use Rattle.common_laws.specs.Maps.{Contents}
use Rattle.col_disk.specs.Moved.{Leaves}
use Rattle.col_disk.specs.declared.disk.Disk.{Ghosts}
use Rattle.db_model.specs.Database.{Database}
use Rattle.db_model.specs.State.{State, opened_with}
use Rattle.db_model.specs.Run.{Setting}
use Rattle.folder_model.specs.Reopening.{Reopens}
use Rattle.store_step.specs.Opening.{IsStartOf, IsStill}
use Rattle.vert_cli.specs.declared.faults.Status.{Status}
use Rattle.vert_cli.specs.Statuses.{status_of_run, IsEnd, IsUnread}
use Rattle.vert_cli.specs.Asked.{Asked, misused, audit, absent, large, statements}
use Rattle.vert_cli.specs.Audits.{IsAuditStatus}
use Rattle.vert_cli.specs.Runs.{LeavesNow, RanToItsEnd, RanAndStopped, IsOnTheWay}
use Rattle.vert_cli.specs.Shown.{ShowsLastOf}

-- ---- whether it begins

-- no run began: the disk wasn't called, and the sink took nothing
pub record IsIdle {D : Type 0} (old new : D) (before after : Option (List ℕ)) : Type 0 where
  pub disk : new ≡ old
  pub sink : after ≡ before

-- Which status comes, by what is asked for, whatever the folder; and but for an audit and for statements that are there no run begins.
abbrev pub RunBegins : {D : Type 0} → Status → Asked → D → D → Option (List ℕ) → Option (List ℕ) → Type 0
RunBegins status misused old now before after = ((status ≡ Status.Usage) ⊎ (status ≡ Status.Memory)) × IsIdle old now before after
RunBegins status audit old now before after = IsAuditStatus status
RunBegins status absent old now before after = ((status ≡ Status.NoScript) ⊎ IsUnread status) × IsIdle old now before after
RunBegins status large old now before after = ((status ≡ Status.TooLarge) ⊎ IsUnread status) × IsIdle old now before after
RunBegins status (statements setting texts) old now before after = IsEnd status

-- ---- how statements end that are run over a folder

-- The folder reopens to this database. An empty one reopens to no tables.
pub record IsOpenable {D : Type 0} (disk : Ghosts D) (now : D) (d : Database) : Type 0 where
  pub files : Contents
  pub told : disk.holds now ≡ Some files
  pub reopens : Reopens files d

-- The state with which it opens: that database, in which no session has changed anything, with the storage's numbers of its files.
pub record IsStart {D : Type 0} (disk : Ghosts D) (old : D) (d : Database) (start : State) : Type 0 where
  pub files : Contents
  pub told : disk.holds old ≡ Some files
  pub next : ℕ
  pub parts : ℕ
  pub numbers : IsStartOf files next parts
  pub start_is : start ≡ opened_with next parts d

-- No statement was begun: memory was short, the disk failed while the folder was opened, or the script couldn't be read, and then the disk
-- wasn't called. The sink took nothing, and a crash leaves what it would have left before, or the folder's database.
pub record BeganNothing {D : Type 0} (status : Status) (disk : Ghosts D) (d : Database) (old now : D) (before after : Option (List ℕ)) : Type 0 where
  pub why : (status ≡ Status.Memory) ⊎ ((status ≡ Status.DiskFault) ⊎ ((status ≡ Status.ReadFault) × (now ≡ old)))
  pub untaken : after ≡ before
  pub left : LeavesNow disk (IsStill disk old d) now

-- how a run of these texts ends
abbrev pub RunEnds : {D : Type 0} → Status → Ghosts D → Setting → Database → List (List ℕ) → D → D → Option (List ℕ) → Option (List ℕ) → Type 0
RunEnds status disk setting d texts old now before after =
    ((start : State) × IsStart disk old d start × (RanToItsEnd status disk setting start texts now before after ⊎ RanAndStopped status disk setting start texts now before after))
    ⊎ BeganNothing status disk d old now before after

-- Whatever a crash leaves at any moment of it: while the folder opens what it would have left before, or the folder's database.
abbrev pub RunLeaves : {D : Type 0} → Ghosts D → D → Setting → Database → List (List ℕ) → Option (List ℕ) → Option (List ℕ) → Contents → Type 0
RunLeaves disk old setting d texts before after x = IsStill disk old d x ⊎ ((start : State) × IsStart disk old d start × IsOnTheWay setting start texts before after x)

-- A run that was asked to halt without the end, with no steps of the mover, and in which every statement was answered: the folder shows the work of the
-- last text, where that wasn't refused itself.
abbrev pub RunShows : {D : Type 0} → Status → Ghosts D → Setting → Database → List (List ℕ) → D → D → Option (List ℕ) → Option (List ℕ) → Type 0
RunShows status disk setting d texts old now before after =
    setting.halts ≡ true → setting.steps ≡ 0 → (refused : Bool) → status ≡ status_of_run refused → (start : State) × IsStart disk old d start × ShowsLastOf disk setting start texts refused now before after

-- ---- whether every statement is answered

-- how often the sink, the files and the disk had failed
pub record Counts : Type 0 where
  pub sink : ℕ
  pub files : ℕ
  pub disk : ℕ

-- the count of the object rose whose fault the status tells
abbrev pub IsFaulted : Status → Counts → Counts → Type 0
IsFaulted status old new =
    ((status ≡ Status.SinkFault) × Rose old.sink new.sink)
    ⊎ (((status ≡ Status.ReadFault) × Rose old.files new.files) ⊎ ((status ≡ Status.DiskFault) × Rose old.disk new.disk))

-- every statement was answered, or memory was short, or a count of faults rose
abbrev pub IsAnswered : Status → Counts → Counts → Type 0
IsAnswered status old new = ((refused : Bool) × (status ≡ status_of_run refused)) ⊎ ((status ≡ Status.Memory) ⊎ IsFaulted status old new)

-- ---- all of it in one, for what the program is made of

pub record RanAs {D : Type 0} (status : Status) (disk : Ghosts D) (what : Asked) (old now : D) (before after : Option (List ℕ)) : Type 0 where
  pub begins : RunBegins status what old now before after
  pub ends : (setting : Setting) (texts : List (List ℕ)) (d : Database) → what ≡ statements setting texts → IsOpenable disk old d → RunEnds status disk setting d texts old now before after
  pub any_moment : (setting : Setting) (texts : List (List ℕ)) (d : Database) → what ≡ statements setting texts → IsOpenable disk old d → Leaves disk (RunLeaves disk old setting d texts before after) old now
  pub shown : (setting : Setting) (texts : List (List ℕ)) (d : Database) → what ≡ statements setting texts → IsOpenable disk old d → RunShows status disk setting d texts old now before after
