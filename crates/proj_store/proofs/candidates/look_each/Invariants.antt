use Rattle.std.proofs.Common.{◌≡◌, ◌<◌, ℕ, false, length, get_or}
use Rattle.std.specs.Prelude.{None, IsSome}
use Rattle.col_disk.specs.Moved.{Moved, NoName}
use Rattle.ros_container.specs.Encodings.{written_of}
use Rattle.wanted_rows.specs.Wanted.{need_in}
use Rattle.proj_store.specs.Blocks.{HasIndexes}
use Rattle.proj_store.specs.Candidates.{AreRead, Narrows}
use Rattle.proj_store.proofs.candidates.look_each.Given as goal

abbrev pub invariant-loop-i : goal.invariant-loop-i
invariant-loop-i g l = record {
  long : length l.alive ≡ length l.fn.alive;
  many : length l.columns ≡ length l.fn.columns;
  narrows : HasIndexes (written_of l.entry) l.container (g.D.Disk.holds l.fn.disk) l.indexes → Narrows (g.D.Disk.holds l.fn.disk) (written_of l.entry) l.container l.k (need_in l.wants) l.fn.alive l.alive;
  read :
      HasIndexes (written_of l.entry) l.container (g.D.Disk.holds l.fn.disk) l.indexes → AreRead (g.D.Disk.holds l.fn.disk) (written_of l.entry) l.container l.k l.fn.columns → AreRead (g.D.Disk.holds l.fn.disk) (written_of l.entry) l.container l.k l.columns;
  there : l.singles ≡ false → (j : ℕ) → j < l.i → IsSome (get_or l.columns j None);
  kept : g.D.Disk.holds l.disk ≡ g.D.Disk.holds l.fn.disk;
  moved : Moved g.D.Disk NoName NoName l.fn.disk l.disk;
}
