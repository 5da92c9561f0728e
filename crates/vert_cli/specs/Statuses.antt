-- The statuses with which the program ends.
use Rattle.std.specs.Prelude.{ℕ, ◌≡◌, ◌⊎◌, Bool, true, false, Result, Ok, Err}
use Rattle.vert_cli.specs.declared.faults.RunFault.{RunFault}
use Rattle.vert_cli.specs.declared.faults.Status.{Status}

-- the code of each status
abbrev pub code_of : Status → ℕ
code_of Status.Done = 0
code_of Status.Refused = 1
code_of Status.Usage = 2
code_of Status.NoScript = 3
code_of Status.SinkFault = 4
code_of Status.DiskFault = 5
code_of (Status.Damaged name) = 6
code_of Status.Memory = 7
code_of Status.ReadFault = 8
code_of Status.TooLarge = 9
code_of Status.AuditNo = 10

-- the status of a run that came to its end, with some statement refused or none
abbrev pub status_of_run : Bool → Status
status_of_run true = Status.Refused
status_of_run false = Status.Done

-- the status of a run that stopped
abbrev pub status_of : RunFault → Status
status_of RunFault.Sink = Status.SinkFault
status_of RunFault.Disk = Status.DiskFault
status_of (RunFault.Damaged name) = Status.Damaged name
status_of RunFault.Memory = Status.Memory
status_of RunFault.Read = Status.ReadFault
status_of RunFault.Halted = Status.DiskFault

-- the status of a run that began: it came to its end, or it stopped
abbrev pub status_of_end : Result Bool RunFault → Status
status_of_end (Ok refused) = status_of_run refused
status_of_end (Err fault) = status_of fault

-- a run that began, or was to, ends with this status
abbrev pub IsEnd : Status → Type 0
IsEnd status = (ended : Result Bool RunFault) × (status ≡ status_of_end ended)

-- at these statuses no run began
abbrev pub NeverBegins : Status → Type 0
NeverBegins status = (status ≡ Status.Usage) ⊎ ((status ≡ Status.NoScript) ⊎ (status ≡ Status.TooLarge))

-- want of memory, or a file that couldn't be read: these come in the place of any answer that speaks of the script
abbrev pub IsUnread : Status → Type 0
IsUnread status = (status ≡ Status.Memory) ⊎ (status ≡ Status.ReadFault)
