-- Which file is blamed by a fault of a SELECT.
use Rattle.std.proofs.Common.{List}
use Rattle.std.specs.Prelude.{Option}
use Rattle.common_laws.specs.Maps.{Contents}
use Rattle.col_disk.specs.declared.disk.StoreFault.{StoreFault}
use Rattle.col_disk.specs.declared.disk.StoreFault.TheVariants as store
use Rattle.query_run.specs.declared.fault.QueryFault.{QueryFault}
use Rattle.query_run.specs.declared.fault.QueryFault.TheVariants as query
use Rattle.stored_rows.specs.Stored.{Projected}
use Rattle.table_store.specs.Faults.{BlamesStored}
use Rattle.store_query.specs.Faults.{of_query, of_store, BlamesRead}

pub query_blames : (pss : List (List Projected)) (holds : Option Contents) (fault : QueryFault) → BlamesRead pss holds (of_query fault)
query_blames pss holds query.SumOutOfRange = tt
query_blames pss holds query.Memory = tt

pub read_blames : (pss : List (List Projected)) (holds : Option Contents) (fault : StoreFault) → BlamesStored pss holds fault → BlamesRead pss holds (of_store fault)
read_blames pss holds store.Disk blames = tt
read_blames pss holds (store.Damaged q) blames = blames
read_blames pss holds store.Memory blames = tt
