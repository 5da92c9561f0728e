use Rattle.std.proofs.Common.{◌≡◌, [], replicate}
use Rattle.txn_core.proofs.txns.Txns.new.Given as goal

abbrev pub invariant-loop : goal.invariant-loop
invariant-loop l = l.sessions.items ≡ replicate l.counter []
