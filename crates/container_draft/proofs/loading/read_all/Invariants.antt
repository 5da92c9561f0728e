use Rattle.std.proofs.Common.{◌≡◌, length}
use Rattle.std.specs.Prelude.{Some}
use Rattle.std.specs.List.{All}
use Rattle.common_laws.specs.Maps.{Contents}
use Rattle.col_disk.specs.Moved.{Moved, NoName}
use Rattle.ros_container.specs.Encodings.{written_of}
use Rattle.container_draft.specs.Lanes.{HasEach}
use Rattle.container_draft.proofs.loading.read_all.Given as goal

abbrev pub invariant-loop-i : goal.invariant-loop-i
invariant-loop-i g l = record {
  found : (m : Contents) → g.D.Disk.holds l.fn.disk ≡ Some m → HasEach m (written_of l.shape) l.entry l.via l.out.items;
  many : length l.out.items ≡ l.i;
  long : All (λ vs. length vs ≡ l.entry.rows) l.out.items;
  kept : g.D.Disk.holds l.disk ≡ g.D.Disk.holds l.fn.disk;
  moved : Moved g.D.Disk NoName NoName l.fn.disk l.disk;
}
