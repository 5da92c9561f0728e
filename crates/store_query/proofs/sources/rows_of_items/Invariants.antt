use Rattle.std.proofs.Common.{◌≡◌, take}
use Rattle.std.specs.Prelude.{Some}
use Rattle.std.specs.List.{All, AllZip}
use Rattle.common_laws.specs.Maps.{Contents}
use Rattle.col_disk.specs.Moved.{Moved, NoName}
use Rattle.col_value.specs.Order.{IsRow}
use Rattle.db_model.specs.Database.{Database}
use Rattle.store_query.specs.Counting.{ReadsEach}
use Rattle.store_query.specs.Reading.{IsRead, Suffice}
use Rattle.store_query.proofs.sources.rows_of_items.Given as goal

abbrev pub invariant-loop-item : goal.invariant-loop-item
invariant-loop-item g l = record {
  suffice : (m : Contents) → g.D.Disk.holds l.fn.disk ≡ Some m → (d : Database) → IsRead m l.tables l.changes l.fn.at d → AllZip (Suffice l.fn.at l.changes l.query d) (take l.item-index l.items) l.out.items;
  valid : All (All IsRow) l.out.items;
  counted : (m : Contents) → g.D.Disk.holds l.fn.disk ≡ Some m → ReadsEach m l.tables l.query (take l.item-index l.items) l.fn.steps l.steps;
  kept : g.D.Disk.holds l.disk ≡ g.D.Disk.holds l.fn.disk;
  moved : Moved g.D.Disk NoName NoName l.fn.disk l.disk;
}
