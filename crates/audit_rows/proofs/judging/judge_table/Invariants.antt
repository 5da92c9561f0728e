use Rattle.std.proofs.Common.{◌≡◌, drop}
use Rattle.std.specs.List.{flat_map}
use Rattle.col_disk.specs.Moved.{Moved, NoName}
use Rattle.audit_model.specs.Listed.{places_in, places_of}
use Rattle.audit_rows.specs.Found.{Ahead}
use Rattle.audit_rows.proofs.judging.judge_table.Given as goal

abbrev pub invariant-loop-shape : goal.invariant-loop-shape
invariant-loop-shape g l = record {
  ahead : Ahead (g.D.Disk.holds l.fn.disk) l.epoch l.mark (flat_map (places_in l.table) (drop l.shape-index l.shapes)) (places_of l.table);
  kept : g.D.Disk.holds l.disk ≡ g.D.Disk.holds l.fn.disk;
  moved : Moved g.D.Disk NoName NoName l.fn.disk l.disk;
}
