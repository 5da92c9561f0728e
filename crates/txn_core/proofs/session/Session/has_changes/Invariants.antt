use Rattle.std.proofs.Common.{◌≡◌, drop}
use Rattle.db_model.specs.State.{has_changes}
use Rattle.txn_core.proofs.session.Session.has_changes.Given as goal

abbrev pub invariant-loop-changes : goal.invariant-loop-changes
invariant-loop-changes l = has_changes (drop l.changes-index l.self) ≡ has_changes l.self
