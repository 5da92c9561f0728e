use Rattle.std.proofs.Common.{◌≡◌}
use Rattle.col_disk.specs.Moved.{Moved, NoName}
use Rattle.col_file.proofs.ByBlocks.{SoFar}
use Rattle.container_draft.proofs.loading.read_blocks.Given as goal

abbrev pub invariant-loop-k : goal.invariant-loop-k
invariant-loop-k g l = record {
  so_far : SoFar l.encoding l.body l.at l.k (g.D.Disk.holds l.fn.disk) l.column;
  kept : g.D.Disk.holds l.disk ≡ g.D.Disk.holds l.fn.disk;
  moved : Moved g.D.Disk NoName NoName l.fn.disk l.disk;
}
