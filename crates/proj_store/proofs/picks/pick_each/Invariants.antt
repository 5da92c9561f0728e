use Rattle.std.proofs.Common.{◌≡◌, take, map}
use Rattle.std.specs.Prelude.{Some}
use Rattle.std.specs.List.{AllZip}
use Rattle.common_laws.specs.Maps.{Contents}
use Rattle.col_disk.specs.Moved.{Moved, NoName}
use Rattle.ros_container.specs.Encodings.{written_of}
use Rattle.wanted_rows.specs.Wanted.{need_in}
use Rattle.proj_store.specs.Loaded.{beside_of}
use Rattle.proj_store.specs.Marking.{PicksEach, ArePlaces}
use Rattle.proj_store.proofs.picks.pick_each.Given as goal

abbrev pub invariant-loop-i : goal.invariant-loop-i
invariant-loop-i g l = record {
  found : (m : Contents) → g.D.Disk.holds l.fn.disk ≡ Some m
      → PicksEach m (written_of l.entry) (take l.i l.containers) (take l.i (map beside_of l.kept)) l.each.items (need_in l.fn.wants) (need_in l.wants);
  inside : AllZip ArePlaces (take l.i l.containers) l.each.items;
  kept : g.D.Disk.holds l.disk ≡ g.D.Disk.holds l.fn.disk;
  moved : Moved g.D.Disk NoName NoName l.fn.disk l.disk;
}
