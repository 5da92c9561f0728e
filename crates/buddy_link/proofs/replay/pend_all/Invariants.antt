use Rattle.std.proofs.Common.{◌≡◌, [], take}
use Rattle.store_core.specs.Sessions.{with_own}
use Rattle.buddy_link.specs.Replaying.{all_pended}
use Rattle.buddy_link.proofs.replay.pend_all.Given as goal

abbrev pub invariant-loop-table : goal.invariant-loop-table
invariant-loop-table l = record {
  pends : l.behind ≡ all_pended l.epoch (take l.table-index l.tables) l.fn.behind;
  dropped : with_own [] l.behind ≡ with_own [] l.fn.behind;
}
