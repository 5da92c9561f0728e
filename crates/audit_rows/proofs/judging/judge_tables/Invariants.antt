use Rattle.std.proofs.Common.{◌≡◌, drop}
use Rattle.std.specs.List.{flat_map}
use Rattle.col_disk.specs.Moved.{Moved, NoName}
use Rattle.audit_model.specs.Listed.{places_of}
use Rattle.audit_rows.specs.Found.{Ahead}
use Rattle.audit_rows.proofs.judging.judge_tables.Given as goal

abbrev pub invariant-loop-table : goal.invariant-loop-table
invariant-loop-table g l = record {
  ahead : Ahead (g.D.Disk.holds l.fn.disk) l.epoch l.mark (flat_map places_of (drop l.table-index l.tables)) (flat_map places_of l.tables);
  kept : g.D.Disk.holds l.disk ≡ g.D.Disk.holds l.fn.disk;
  moved : Moved g.D.Disk NoName NoName l.fn.disk l.disk;
}
