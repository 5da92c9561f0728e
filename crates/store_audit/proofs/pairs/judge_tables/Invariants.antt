use Rattle.std.proofs.Common.{◌≡◌, drop}
use Rattle.std.specs.List.{flat_map}
use Rattle.col_disk.specs.Moved.{Moved, NoName}
use Rattle.store_audit.specs.Passes.{super_pairs}
use Rattle.store_audit.proofs.Firsts.{FoundAhead}
use Rattle.store_audit.proofs.pairs.judge_tables.Given as goal

abbrev pub invariant-loop-table : goal.invariant-loop-table
invariant-loop-table g l = record {
  ahead : FoundAhead (g.D.Disk.holds l.fn.disk) l.bounds.epoch l.bounds.mark (flat_map super_pairs (drop l.table-index l.tables)) (flat_map super_pairs l.tables);
  kept : g.D.Disk.holds l.disk ≡ g.D.Disk.holds l.fn.disk;
  moved : Moved g.D.Disk NoName NoName l.fn.disk l.disk;
}
