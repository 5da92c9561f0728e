use Rattle.std.proofs.Common.{◌≡◌}
use Rattle.col_disk.specs.Moved.{Moved, NoName}
use Rattle.audit_files.specs.Columns.{MayStand}
use Rattle.audit_files.proofs.Blocks.{SuchSoFar}
use Rattle.audit_files.proofs.columns.judge_body.Given as goal

abbrev pub invariant-loop-k : goal.invariant-loop-k
invariant-loop-k g l = record {
  so_far : SuchSoFar (MayStand l.entry l.column) l.encoding l.body l.at l.k (g.D.Disk.holds l.fn.disk);
  kept : g.D.Disk.holds l.disk ≡ g.D.Disk.holds l.fn.disk;
  moved : Moved g.D.Disk NoName NoName l.fn.disk l.disk;
}
