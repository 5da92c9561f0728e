use Rattle.std.proofs.Common.{◌≡◌, drop}
use Rattle.db_model.specs.State.{pending_rows}
use Rattle.statement_plan.proofs.frame.waiting.Given as goal

abbrev pub invariant-loop-changes : goal.invariant-loop-changes
invariant-loop-changes l = pending_rows l.name (drop l.changes-index l.session) ≡ pending_rows l.name l.session
