-- Which file a run names that ends with status 6, and a call of a session, whatever the folder holds.
use Rattle.std.specs.Prelude.{ℕ, ◌≡◌, ◌⊎◌, List, Option, Some}
use Rattle.common_laws.specs.Maps.{Contents}
use Rattle.col_disk.specs.declared.disk.Disk.{Ghosts}
use Rattle.col_disk.specs.declared.disk.StoreFault.TheVariants.{Damaged}
use Rattle.store_step.specs.Named.{NamesHeld, NamesListed}
use Rattle.store_step.specs.Opening.{BlamesOpening, IsLeftAlone, IsOpening}
use Rattle.store_step.specs.Running.{Running}
use Rattle.vert_cli.specs.declared.faults.RunFault.{RunFault}

-- the file keeps the folder from opening; no file was removed, and none that the root lists was written; and the sink took nothing
pub record IsShut {D : Type 0} (disk : Ghosts D) (q : ℕ) (old now : D) (before after : Option (List ℕ)) : Type 0 where
  pub blamed : BlamesOpening (disk.holds old) (Damaged q)
  pub left : IsLeftAlone disk old now
  pub untaken : after ≡ before

-- the folder opened
abbrev pub HasOpened : {D : Type 0} → Ghosts D → D → Type 0
HasOpened disk old = (m : Contents) → disk.holds old ≡ Some m → IsOpening m

-- The folder opened, and the file was met behind that: what the disk holds now opens to a root that lists a projection of which it is a file, and it
-- is bad there.
pub record IsMetLater {D : Type 0} (disk : Ghosts D) (q : ℕ) (old now : D) : Type 0 where
  pub opened : HasOpened disk old
  pub listed : NamesListed disk q now

abbrev pub NamesFile : {D : Type 0} → Ghosts D → ℕ → D → D → Option (List ℕ) → Option (List ℕ) → Type 0
NamesFile disk q old now before after = IsShut disk q old now before after ⊎ IsMetLater disk q old now

-- over what the disk holds now, a Damaged names a file of one of the session's projections that is bad; no other fault says anything
abbrev pub NamesInRun : {D : Type 0} → Ghosts D → Running → D → RunFault → Type 0
NamesInRun disk is now RunFault.Sink = Unit {0}
NamesInRun disk is now RunFault.Disk = Unit {0}
NamesInRun disk is now (RunFault.Damaged q) = NamesHeld disk is now (Damaged q)
NamesInRun disk is now RunFault.Memory = Unit {0}
NamesInRun disk is now RunFault.Read = Unit {0}
NamesInRun disk is now RunFault.Halted = Unit {0}

-- A fault that names a file may be told as another one; each other fault is told as it is, and the disk isn't called.
abbrev pub IsToldAs : {D : Type 0} → RunFault → RunFault → D → D → Type 0
IsToldAs RunFault.Sink told old new = (told ≡ RunFault.Sink) × (new ≡ old)
IsToldAs RunFault.Disk told old new = (told ≡ RunFault.Disk) × (new ≡ old)
IsToldAs (RunFault.Damaged q) told old new = Unit {0}
IsToldAs RunFault.Memory told old new = (told ≡ RunFault.Memory) × (new ≡ old)
IsToldAs RunFault.Read told old new = (told ≡ RunFault.Read) × (new ≡ old)
IsToldAs RunFault.Halted told old new = (told ≡ RunFault.Halted) × (new ≡ old)
