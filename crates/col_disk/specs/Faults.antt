-- What a fault of the disk is to the store above.
use Rattle.col_disk.specs.declared.disk.DiskFault.{DiskFault}
use Rattle.col_disk.specs.declared.disk.DiskFault.TheVariants.{Failed, Memory}
use Rattle.col_disk.specs.declared.disk.StoreFault.{StoreFault}
use Rattle.col_disk.specs.declared.disk.StoreFault.TheVariants.{Damaged, Disk as disk_failed, Memory as no_memory}

abbrev pub store_fault : DiskFault → StoreFault
store_fault Failed = disk_failed
store_fault Memory = no_memory

-- no file is to blame
abbrev pub IsUnblamed : StoreFault → Type 0
IsUnblamed disk_failed = Unit {0}
IsUnblamed (Damaged q) = ⊥
IsUnblamed no_memory = Unit {0}
