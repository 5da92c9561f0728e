use Rattle.std.proofs.Common.{◌≡◌}
use Rattle.col_disk.specs.Moved.{Moved, NoName}
use Rattle.catalog_root.specs.Listed.{IsSwept}
use Rattle.catalog_root.proofs.cleaning.sweep_numbers.Given as goal

abbrev pub invariant-loop-number : goal.invariant-loop-number
invariant-loop-number g l = record {
  moved : Moved g.D.Disk NoName (IsSwept l.version l.numbers) l.fn.disk l.disk;
  unfailed : g.D.Disk.faults l.disk ≡ g.D.Disk.faults l.fn.disk;
}
