use Rattle.std.proofs.Common.{◌≡◌, ◌≤◌, length}
use Rattle.std.specs.Prelude.{Some}
use Rattle.common_laws.specs.Maps.{Contents}
use Rattle.col_disk.specs.Moved.{Looks}
use Rattle.catalog_root.proofs.Searches.{NoGateFrom}
use Rattle.catalog_root.proofs.gates.greatest_gate.Given as goal

abbrev pub invariant-loop-left : goal.invariant-loop-left
invariant-loop-left g l = record {
  searched : (m : Contents) → g.D.Disk.holds l.fn.disk ≡ Some m → NoGateFrom m l.names l.left;
  keeps : Looks g.D.Disk l.fn.disk l.disk;
  within : l.left ≤ length l.names;
}

abbrev pub decreases-loop-left : goal.decreases-loop-left
decreases-loop-left g l = l.left
