use Rattle.std.proofs.Common.{◌≡◌, ℕ, ◌<◌, ◌+◌, ◌*◌}
use Rattle.col_disk.specs.Moved.{Moved, NoName}
use Rattle.catch_files.specs.Parting.{OnBoth, SameFile}
use Rattle.catch_files.proofs.files.have_same_columns.Given as goal

abbrev pub invariant-loop-j : goal.invariant-loop-j
invariant-loop-j g l = record {
  same : OnBoth (g.A.Disk.holds l.fn.at) (g.B.Disk.holds l.fn.from) (λ m n. (i : ℕ) → i < l.j → SameFile (4 * (l.container.base + i)) m n);
  behind_kept : g.A.Disk.holds l.at ≡ g.A.Disk.holds l.fn.at;
  behind_moved : Moved g.A.Disk NoName NoName l.fn.at l.at;
  ahead_kept : g.B.Disk.holds l.from ≡ g.B.Disk.holds l.fn.from;
  ahead_moved : Moved g.B.Disk NoName NoName l.fn.from l.from;
}
