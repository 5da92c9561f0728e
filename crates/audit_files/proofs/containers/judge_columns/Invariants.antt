use Rattle.std.proofs.Common.{◌≡◌, take}
use Rattle.std.specs.Prelude.{Ok}
use Rattle.std.specs.List.{flat_map, range_with_len}
use Rattle.col_disk.specs.Moved.{Moved, NoName}
use Rattle.audit_files.specs.Walks.{column_files, Judges}
use Rattle.audit_files.proofs.containers.judge_columns.Given as goal

abbrev pub invariant-loop-i : goal.invariant-loop-i
invariant-loop-i g l = record {
  judged : Judges (g.D.Disk.holds l.fn.disk) (flat_map (column_files l.shape l.entry) (take l.i (range_with_len 0 l.entry.stored))) (Ok tt);
  kept : g.D.Disk.holds l.disk ≡ g.D.Disk.holds l.fn.disk;
  moved : Moved g.D.Disk NoName NoName l.fn.disk l.disk;
}
