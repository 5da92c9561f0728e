-- The faults of a store and of a query, as faults of a SELECT.
use Rattle.std.specs.Prelude.{List, Option}
use Rattle.common_laws.specs.Maps.{Contents}
use Rattle.stored_rows.specs.Stored.{Projected}
use Rattle.table_store.specs.Faults.{BlamesStored}
use Rattle.col_disk.specs.declared.disk.StoreFault.{StoreFault}
use Rattle.col_disk.specs.declared.disk.StoreFault.TheVariants as store
use Rattle.query_run.specs.declared.fault.QueryFault.{QueryFault}
use Rattle.query_run.specs.declared.fault.QueryFault.TheVariants as query
use Rattle.store_query.specs.declared.fault.SelectFault.{SelectFault}
use Rattle.store_query.specs.declared.fault.SelectFault.TheVariants as select

abbrev pub of_store : StoreFault → SelectFault
of_store store.Disk = select.Disk
of_store (store.Damaged q) = select.Damaged q
of_store store.Memory = select.Memory

abbrev pub of_query : QueryFault → SelectFault
of_query query.SumOutOfRange = select.SumOutOfRange
of_query query.Memory = select.Memory

-- no file is to blame
abbrev pub IsUnblamed : SelectFault → Type 0
IsUnblamed select.SumOutOfRange = Unit {0}
IsUnblamed select.Disk = Unit {0}
IsUnblamed (select.Damaged q) = ⊥
IsUnblamed select.Memory = Unit {0}

-- a Damaged names a file of a container that holds no rows, of a projection of one of these tables; no other fault says anything
abbrev pub BlamesRead : List (List Projected) → Option Contents → SelectFault → Type 0
BlamesRead pss holds select.SumOutOfRange = Unit {0}
BlamesRead pss holds select.Disk = Unit {0}
BlamesRead pss holds (select.Damaged q) = BlamesStored pss holds (store.Damaged q)
BlamesRead pss holds select.Memory = Unit {0}
