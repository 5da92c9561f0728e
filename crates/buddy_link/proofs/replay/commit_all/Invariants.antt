use Rattle.std.proofs.Common.{ℕ, ◌≤◌}
use Rattle.db_model.specs.Database.{Database}
use Rattle.db_model.specs.State.{State}
use Rattle.store_core.specs.Running.{IsState}
use Rattle.catch_laws.specs.Replay.{IsAt}
use Rattle.catch_model.specs.Refused.{is_gap, NoEpoch}
use Rattle.buddy_link.specs.Replaying.{Comes, Setting}
use Rattle.buddy_link.proofs.Coming.{replayed_ok}
use Rattle.buddy_link.proofs.replay.commit_all.Given as goal

abbrev pub invariant-loop-closed : goal.invariant-loop-closed
invariant-loop-closed g l = record {
  from : l.after ≤ l.closed;
  upto : l.after ≤ l.last → l.closed ≤ l.last;
  comes : (mark : ℕ) (start b : Database) (s : State) → l.after ≤ l.last → Setting mark l.after start b l.tables → NoEpoch (is_gap b) l.after l.last → IsAt mark start b l.after s → IsState g.A.Disk l.fn.behind l.fn.at s
      → Comes g.A.Disk mark start b l.after l.closed l.behind l.fn.at l.at replayed_ok;
  count : g.A.Disk.faults l.fn.at ≤ g.A.Disk.faults l.at;
}
