use Rattle.std.proofs.Common.{◌≡◌, drop}
use Rattle.std.specs.List.{flat_map}
use Rattle.col_disk.specs.Moved.{Moved, NoName}
use Rattle.audit_model.specs.Listed.{places_in}
use Rattle.audit_rows.specs.Found.{Ahead}
use Rattle.audit_rows.proofs.Places.{only}
use Rattle.audit_rows.proofs.judging.judge_projection.Given as goal

abbrev pub invariant-loop-container : goal.invariant-loop-container
invariant-loop-container g l = record {
  ahead : Ahead (g.D.Disk.holds l.fn.disk) l.epoch l.mark (flat_map (only l.table l.shape) (drop l.container-index l.containers)) (places_in l.table l.shape);
  kept : g.D.Disk.holds l.disk ≡ g.D.Disk.holds l.fn.disk;
  moved : Moved g.D.Disk NoName NoName l.fn.disk l.disk;
}
