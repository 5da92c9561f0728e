use Rattle.std.proofs.Common.{◌≡◌, take}
use Rattle.txn_core.proofs.changes.copied_deletes.Given as goal

abbrev pub invariant-loop-asked : goal.invariant-loop-asked
invariant-loop-asked l = l.out.items ≡ take l.asked-index l.deletes
