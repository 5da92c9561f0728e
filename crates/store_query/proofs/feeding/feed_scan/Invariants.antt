use Rattle.std.proofs.Common.{◌≡◌, false, List, length}
use Rattle.std.specs.Prelude.{Some}
use Rattle.common_laws.specs.Maps.{Contents}
use Rattle.col_disk.specs.Moved.{Moved, NoName}
use Rattle.col_value.specs.declared.row.Stamped.{Stamped}
use Rattle.stored_rows.specs.Stored.{Stores}
use Rattle.exec_scan.specs.Scanning.{IsAtHand, IsScanOf, start, steps_left}
use Rattle.query_run.specs.Runs.{IsRunOf}
use Rattle.wanted_rows.specs.Wanted.{need_in}
use Rattle.store_query.proofs.Fed.{Streamed}
use Rattle.store_query.proofs.Counted.{SpentUpto}
use Rattle.store_query.proofs.Gathered.{Asks}
use Rattle.store_query.proofs.feeding.feed_scan.Given as goal

abbrev pub invariant-loop-batch : goal.invariant-loop-batch
invariant-loop-batch g l = record {
  streamed : (m : Contents) → g.D.Disk.holds l.fn.disk ≡ Some m → (rows : List Stamped) → Stores m l.store.stored rows
      → Streamed l.query m l.store.stored l.epoch l.fn.places.items l.fn.bounds.items l.scan rows (need_in l.fn.wants) (need_in l.wants) l.fn.run l.run;
  scan_of : IsScanOf l.store.stored.entry l.scan;
  at_hand : IsAtHand (g.D.Disk.holds l.disk) l.store.stored l.scan;
  asks : Asks l.epoch l.fn.places.items l.fn.bounds.items l.scan;
  run : IsRunOf l.query l.run;
  counted : (m : Contents) → g.D.Disk.holds l.fn.disk ≡ Some m → SpentUpto m l.store.stored l.fn.places.items (start l.epoch l.fn.places.items l.fn.bounds.items false) l.fn.steps l.scan l.steps;
  kept : g.D.Disk.holds l.disk ≡ g.D.Disk.holds l.fn.disk;
  moved : Moved g.D.Disk NoName NoName l.fn.disk l.disk;
}

abbrev pub decreases-loop-batch : goal.decreases-loop-batch
decreases-loop-batch g l = steps_left l.store.stored.entry (length l.store.stored.unsaved) l.scan
