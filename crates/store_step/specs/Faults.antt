-- The faults of a store, as those of a statement text, and which file one names.
use Rattle.col_disk.specs.declared.disk.Disk.{Ghosts}
use Rattle.col_disk.specs.declared.disk.StoreFault.{StoreFault}
use Rattle.col_disk.specs.declared.disk.StoreFault.TheVariants as store
use Rattle.store_core.specs.Named.{NamesHeld}
use Rattle.store_core.specs.Running.{Running}
use Rattle.store_step.specs.declared.answer.StepFault.{StepFault}
use Rattle.store_step.specs.declared.answer.StepFault.TheVariants as step

abbrev pub of_store : StoreFault → StepFault
of_store store.Disk = step.Disk
of_store (store.Damaged q) = step.Damaged q
of_store store.Memory = step.Memory

-- no file is to blame
abbrev pub IsUnblamed : StepFault → Type 0
IsUnblamed step.Read = Unit {0}
IsUnblamed step.Disk = Unit {0}
IsUnblamed (step.Damaged q) = ⊥
IsUnblamed step.Memory = Unit {0}

-- over what the disk holds now, a Damaged names a file of one of the store's projections that is bad; no other fault says anything
abbrev pub NamesStepped : {D : Type 0} → Ghosts D → Running → D → StepFault → Type 0
NamesStepped disk is now step.Read = Unit {0}
NamesStepped disk is now step.Disk = Unit {0}
NamesStepped disk is now (step.Damaged q) = NamesHeld disk is now (store.Damaged q)
NamesStepped disk is now step.Memory = Unit {0}
