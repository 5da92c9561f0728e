use Rattle.std.proofs.Common.{◌≡◌, List, map, subst}
use Rattle.std.specs.Prelude.{Some, IfErr}
use Rattle.std.specs.List.{All}
use Rattle.common_laws.specs.Maps.{Contents}
use Rattle.proj_store.specs.Loaded.{Loaded}
use Rattle.col_disk.specs.Faults.{IsUnblamed}
use Rattle.table_store.specs.Faults.{BlamesStored, IsReadable}
use Rattle.table_store.specs.Held.{projections_of}
use Rattle.table_store.proofs.committing.prepare_all.Goals as goal

pub returns-clause-unblamed : goal.returns-clause-unblamed
returns-clause-unblamed g c =
    subst (λ (ts : List (List Loaded)). IfErr c.prepare_tables.result (λ fault. (m : Contents) → g.D.Disk.holds c.args.disk.now ≡ Some m → All (All (IsReadable m)) (map projections_of ts) → IsUnblamed fault))
    c.as_mut_slice.ensures.value c.prepare_tables.ensures.unblamed

pub returns-clause-blamed : goal.returns-clause-blamed
returns-clause-blamed g c =
    subst (λ (ts : List (List Loaded)). IfErr c.prepare_tables.result (BlamesStored (map projections_of ts) (g.D.Disk.holds c.args.disk.now))) c.as_mut_slice.ensures.value c.prepare_tables.ensures.blamed
