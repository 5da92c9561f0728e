use Rattle.std.proofs.Common.{◌≡◌, take}
use Rattle.txn_core.proofs.session.copied.Given as goal

abbrev pub invariant-loop-change : goal.invariant-loop-change
invariant-loop-change l = l.out.items ≡ take l.change-index l.changes
