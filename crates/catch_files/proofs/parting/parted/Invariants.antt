use Rattle.std.proofs.Common.{◌≡◌, take}
use Rattle.col_disk.specs.Moved.{Moved, NoName}
use Rattle.catch_files.proofs.Splits.{IsSplit}
use Rattle.catch_files.proofs.parting.parted.Given as goal

abbrev pub invariant-loop-container : goal.invariant-loop-container
invariant-loop-container g l = record {
  split : IsSplit (g.A.Disk.holds l.fn.at) (g.B.Disk.holds l.fn.from) (take l.container-index l.behind) l.ahead l.rest l.out.behind.items l.out.ahead.items;
  behind_kept : g.A.Disk.holds l.at ≡ g.A.Disk.holds l.fn.at;
  behind_moved : Moved g.A.Disk NoName NoName l.fn.at l.at;
  ahead_kept : g.B.Disk.holds l.from ≡ g.B.Disk.holds l.fn.from;
  ahead_moved : Moved g.B.Disk NoName NoName l.fn.from l.from;
}
