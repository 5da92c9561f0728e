use Rattle.std.proofs.Common.{◌≡◌, ◌≤◌, ◌-◌}
use Rattle.col_disk.specs.Moved.{Moved, NoName}
use Rattle.catch_files.proofs.Pieces.{SameUpTo}
use Rattle.catch_files.proofs.bytes.have_same_bytes.Given as goal

abbrev pub invariant-loop-done : goal.invariant-loop-done
invariant-loop-done g l = record {
  within : l.done ≤ l.len;
  same : SameUpTo (g.A.Disk.holds l.fn.at) (g.B.Disk.holds l.fn.from) l.name l.len l.done;
  behind_kept : g.A.Disk.holds l.at ≡ g.A.Disk.holds l.fn.at;
  behind_moved : Moved g.A.Disk NoName NoName l.fn.at l.at;
  ahead_kept : g.B.Disk.holds l.from ≡ g.B.Disk.holds l.fn.from;
  ahead_moved : Moved g.B.Disk NoName NoName l.fn.from l.from;
}

abbrev pub decreases-loop-done : goal.decreases-loop-done
decreases-loop-done g l = l.len - l.done
