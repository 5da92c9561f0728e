use Rattle.std.proofs.Common.{◌≡◌, take}
use Rattle.std.specs.Prelude.{Ok}
use Rattle.std.specs.List.{flat_map}
use Rattle.col_disk.specs.Moved.{Moved, NoName}
use Rattle.audit_files.specs.Walks.{container_files, Judges}
use Rattle.audit_files.proofs.judging.judge_containers.Given as goal

abbrev pub invariant-loop-container : goal.invariant-loop-container
invariant-loop-container g l = record {
  judged : Judges (g.D.Disk.holds l.fn.disk) (flat_map (container_files l.shape) (take l.container-index l.containers)) (Ok tt);
  kept : g.D.Disk.holds l.disk ≡ g.D.Disk.holds l.fn.disk;
  moved : Moved g.D.Disk NoName NoName l.fn.disk l.disk;
}
