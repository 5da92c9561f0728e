use Rattle.std.proofs.Common.{◌≡◌, ◌≤◌, ◌-◌}
use Rattle.store_core.proofs.Dropping.{dropped_to}
use Rattle.store_core.proofs.store.moving.drop_eight.Given as goal

abbrev pub invariant-loop-session : goal.invariant-loop-session
invariant-loop-session l = record {
  first : 1 ≤ l.session;
  last : l.session ≤ 9;
  dropped : l.txns ≡ dropped_to (l.session - 1) l.fn.txns;
}
