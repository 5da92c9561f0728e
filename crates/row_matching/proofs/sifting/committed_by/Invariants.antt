use Rattle.std.proofs.Common.{◌≡◌, true, List, length}
use Rattle.std.specs.Prelude.{Some}
use Rattle.std.specs.List.{All}
use Rattle.common_laws.specs.Maps.{Contents}
use Rattle.col_disk.specs.Moved.{Moved, NoName}
use Rattle.col_value.specs.Order.{IsRow}
use Rattle.col_value.specs.declared.row.Stamped.{Stamped}
use Rattle.stored_rows.specs.Stored.{Stores}
use Rattle.wanted_rows.specs.Wanted.{need_in}
use Rattle.exec_scan.specs.Scanning.{IsAtHand, IsScanOf, steps_left}
use Rattle.row_matching.proofs.Others.{Bounded, Wanted, Sought}
use Rattle.row_matching.proofs.sifting.committed_by.Given as goal

abbrev pub invariant-loop-batch : goal.invariant-loop-batch
invariant-loop-batch g l = record {
  sought : (m : Contents) → g.D.Disk.holds l.fn.disk ≡ Some m → (rows : List Stamped) → Stores m l.store.stored rows → Sought m l.store.stored l.keeps l.epoch l.fn.places.items (Wanted l.gone) l.scan rows (need_in l.wants) l.out.items;
  bounded : Bounded l.keeps l.scan.bounds;
  scan_of : IsScanOf l.store.stored.entry l.scan;
  at_hand : IsAtHand (g.D.Disk.holds l.disk) l.store.stored l.scan;
  epoch_is : l.scan.epoch ≡ l.epoch;
  places_are : l.scan.places ≡ l.fn.places.items;
  stamps_are : l.scan.stamps ≡ true;
  valid : All (λ a. IsRow a.row) l.out.items;
  kept : g.D.Disk.holds l.disk ≡ g.D.Disk.holds l.fn.disk;
  moved : Moved g.D.Disk NoName NoName l.fn.disk l.disk;
}

abbrev pub decreases-loop-batch : goal.decreases-loop-batch
decreases-loop-batch g l = steps_left l.store.stored.entry (length l.store.stored.unsaved) l.scan
