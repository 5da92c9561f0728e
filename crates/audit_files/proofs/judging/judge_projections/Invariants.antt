use Rattle.std.proofs.Common.{◌≡◌, take}
use Rattle.std.specs.Prelude.{Ok}
use Rattle.std.specs.List.{flat_map}
use Rattle.col_disk.specs.Moved.{Moved, NoName}
use Rattle.audit_files.specs.Walks.{projection_files, Judges}
use Rattle.audit_files.proofs.judging.judge_projections.Given as goal

abbrev pub invariant-loop-shape : goal.invariant-loop-shape
invariant-loop-shape g l = record {
  judged : Judges (g.D.Disk.holds l.fn.disk) (flat_map projection_files (take l.shape-index l.shapes)) (Ok tt);
  kept : g.D.Disk.holds l.disk ≡ g.D.Disk.holds l.fn.disk;
  moved : Moved g.D.Disk NoName NoName l.fn.disk l.disk;
}
