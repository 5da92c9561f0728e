use Rattle.std.proofs.Common.{◌≡◌, take, map}
use Rattle.std.specs.Prelude.{Some}
use Rattle.std.specs.List.{AllZip}
use Rattle.common_laws.specs.Maps.{Contents}
use Rattle.col_disk.specs.Moved.{Looks}
use Rattle.stored_rows.specs.Stored.{IsUnmarked}
use Rattle.proj_store.specs.Loaded.{beside_of}
use Rattle.proj_store.specs.Sound.{MarksItsRows}
use Rattle.proj_store.proofs.loading.load_each.Given as goal

abbrev pub invariant-loop-container : goal.invariant-loop-container
invariant-loop-container g l = record {
  found : (m : Contents) → g.D.Disk.holds l.fn.disk ≡ Some m → AllZip (IsUnmarked m) (take l.container-index l.containers) (map beside_of l.kept.items);
  inside : AllZip MarksItsRows (take l.container-index l.containers) (map beside_of l.kept.items);
  looks : Looks g.D.Disk l.fn.disk l.disk;
}
