use Rattle.std.proofs.Common.{◌≡◌}
use Rattle.col_disk.specs.Moved.{Moved, NoName}
use Rattle.catalog_root.specs.Listed.{IsSwept}
use Rattle.catalog_root.proofs.Sweeps.{GoneBefore}
use Rattle.catalog_root.proofs.cleaning.sweep.Given as goal

abbrev pub invariant-loop-name : goal.invariant-loop-name
invariant-loop-name g l = record {
  gone : GoneBefore (IsSwept l.version l.numbers) l.names l.name-index (g.D.Disk.holds l.disk);
  moved : Moved g.D.Disk NoName (IsSwept l.version l.numbers) l.fn.disk l.disk;
  unfailed : g.D.Disk.faults l.disk ≡ g.D.Disk.faults l.fn.disk;
}
