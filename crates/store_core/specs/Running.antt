-- A running store: its tables over a disk, and what its sessions have changed and not committed.
use Rattle.std.specs.Prelude.{ℕ, ◌≡◌, ◌-◌, List, [], Option, Some, None, IfSome}
use Rattle.common_laws.specs.Maps.{Contents}
use Rattle.col_disk.specs.declared.disk.Disk.{Ghosts}
use Rattle.db_model.specs.State.{State, Changes}
use Rattle.db_model.specs.Sound.{IsSound}
use Rattle.alike_laws.specs.Reordered.{AreAlikeSessions}
use Rattle.statement_plan.specs.Bare.{bare_state}
use Rattle.store_commit.specs.Seen.{Seen, Stands}
use Rattle.table_store.specs.Drawing.{FewContainers}
use Rattle.table_jobs.specs.Going.{IsGoing}
use Rattle.table_jobs.specs.declared.work.Work.{Work}

-- The names of the projections that wait for the mover, how many steps are left of its job in flight, and which projection that job
-- refreshes; where it refreshes none, it merges. What is written of the merge or refresh is its work.
pub record Mover : Type 0 where
  pub asked : List (List ℕ)
  pub busy : ℕ
  pub refreshing : Option (List ℕ)
  pub work : Option Work

abbrev pub moving : List (List ℕ) → ℕ → Option (List ℕ) → Option Work → Mover
moving asked busy refreshing work = record { asked = asked; busy = busy; refreshing = refreshing; work = work }

-- nothing is written of its job
abbrev pub mover_of : List (List ℕ) → ℕ → Option (List ℕ) → Mover
mover_of asked busy refreshing = moving asked busy refreshing None

-- the job goes on, but what is written of it is given up
abbrev pub work_dropped : Mover → Mover
work_dropped mover = mover_of mover.asked mover.busy mover.refreshing

-- no projection waits, and no job is in flight
abbrev pub idle_mover : Mover
idle_mover = mover_of [] 0 None

-- this is written of its job
abbrev pub working_on : Option Work → Mover → Mover
working_on work mover = moving mover.asked mover.busy mover.refreshing work

-- one step of its job was made
abbrev pub gone_on : Mover → Mover
gone_on mover = moving mover.asked (mover.busy - 1) mover.refreshing mover.work

-- without its job
abbrev pub job_dropped : Mover → Mover
job_dropped mover = mover_of mover.asked 0 None

pub record Running : Type 0 where
  pub seen : Seen
  pub sessions : List (List Changes)
  pub current : ℕ
  pub mover : Mover

abbrev pub running : Seen → List (List Changes) → ℕ → Mover → Running
running seen sessions current mover = record { seen = seen; sessions = sessions; current = current; mover = mover }

abbrev pub unworked : Running → Running
unworked r = running r.seen r.sessions r.current (work_dropped r.mover)

-- what is written of a merge or refresh is on its way over a disk, if there is any
abbrev pub HasWork : {D : Type 0} → Ghosts D → Option Work → D → Type 0
HasWork disk work now = IfSome work (λ w. (m : Contents) → disk.holds now ≡ Some m → IsGoing m w)

-- A running store over a disk is this state, where what the sessions have changed is known up to the order of rows.
pub record IsState {D : Type 0} (disk : Ghosts D) (r : Running) (now : D) (state : State) : Type 0 where
  pub database : Stands disk r.seen now state.database
  pub sessions : AreAlikeSessions r.sessions state.sessions
  pub current : state.current ≡ r.current
  pub asked : state.asked ≡ r.mover.asked
  pub next : state.next ≡ r.seen.catalogue.next
  pub busy : state.busy ≡ r.mover.busy
  pub parts : FewContainers state.parts r.seen.catalogue
  pub work : HasWork disk r.mover.work now
  pub sound : IsSound state

-- the state without the rows of its tables
abbrev pub frame_of : Running → State
frame_of r = bare_state r.seen.catalogue.tables r.seen.catalogue.last r.seen.catalogue.ahm r.seen.catalogue.next r.sessions r.current
