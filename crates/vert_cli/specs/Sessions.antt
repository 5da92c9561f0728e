-- A session as it is seen: its running store, and whether the disk failed at an earlier call.
use Rattle.std.specs.Prelude.{Bool, true, false, Result, Ok, Err}
use Rattle.store_step.specs.Running.{Running}
use Rattle.vert_cli.specs.declared.faults.RunFault.{RunFault}

pub record Sitting : Type 0 where
  pub running : Running
  pub halted : Bool

abbrev pub sitting : Running → Bool → Sitting
sitting running halted = record { running = running; halted = halted }

-- the disk failed
abbrev pub is_of_disk : RunFault → Bool
is_of_disk RunFault.Sink = false
is_of_disk RunFault.Disk = true
is_of_disk (RunFault.Damaged name) = false
is_of_disk RunFault.Memory = false
is_of_disk RunFault.Read = false
is_of_disk RunFault.Halted = false

-- a call that answered so halts its session
abbrev pub halts_by : {T : Type 0} → Result T RunFault → Bool
halts_by (Ok done) = false
halts_by (Err fault) = is_of_disk fault
