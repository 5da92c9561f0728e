use Rattle.std.proofs.Common.{◌≡◌, take, map}
use Rattle.std.specs.Prelude.{Some}
use Rattle.common_laws.specs.Maps.{Contents}
use Rattle.col_disk.specs.Moved.{Moved, NoName}
use Rattle.ros_container.specs.Encodings.{written_of}
use Rattle.proj_store.specs.Loaded.{beside_of}
use Rattle.proj_store.specs.Reading.{ReadsEach}
use Rattle.proj_store.proofs.saved.saved_rows.Given as goal

abbrev pub invariant-loop-i : goal.invariant-loop-i
invariant-loop-i g l = record {
  found : (m : Contents) → g.D.Disk.holds l.fn.disk ≡ Some m → ReadsEach m (written_of l.entry) (take l.i l.containers) (take l.i (map beside_of l.kept)) l.out.items;
  kept : g.D.Disk.holds l.disk ≡ g.D.Disk.holds l.fn.disk;
  moved : Moved g.D.Disk NoName NoName l.fn.disk l.disk;
}
