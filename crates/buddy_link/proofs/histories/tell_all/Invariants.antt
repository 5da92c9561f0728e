use Rattle.std.proofs.Common.{◌≡◌, ◌≤◌, length}
use Rattle.col_disk.specs.Moved.{Moved, NoName}
use Rattle.db_model.specs.State.{State}
use Rattle.store_core.specs.Running.{IsState}
use Rattle.buddy_link.specs.Linking.{mark_between}
use Rattle.buddy_link.proofs.Compared.{AreToldTo}
use Rattle.buddy_link.proofs.histories.tell_all.Given as goal

abbrev pub invariant-loop-place : goal.invariant-loop-place
invariant-loop-place g l = record {
  count : l.place ≡ length l.out.items;
  within : l.place ≤ length l.pair.ahead.now.seen.catalogue.tables;
  told : (a b : State) → IsState g.A.Disk l.pair.behind.now l.fn.at a → IsState g.B.Disk l.pair.ahead.now l.fn.from b → a.database.last ≡ l.pair.epoch → mark_between l.pair.behind.now l.pair.ahead.now ≤ l.pair.epoch → AreToldTo (mark_between l.pair.behind.now l.pair.ahead.now) l.pair.epoch l.out.items a.database b.database;
  behind_kept : g.A.Disk.holds l.at ≡ g.A.Disk.holds l.fn.at;
  behind_moved : Moved g.A.Disk NoName NoName l.fn.at l.at;
  ahead_kept : g.B.Disk.holds l.from ≡ g.B.Disk.holds l.fn.from;
  ahead_moved : Moved g.B.Disk NoName NoName l.fn.from l.from;
}
