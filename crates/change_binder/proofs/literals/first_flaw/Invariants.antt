use Rattle.std.proofs.Common.{◌≡◌, drop}
use Rattle.change_binder.specs.Flaws.{has_flaw}
use Rattle.sql_binding.specs.Inserts.{pairs, first_such}
use Rattle.change_binder.proofs.literals.first_flaw.Given as goal

abbrev pub invariant-loop-row : goal.invariant-loop-row
invariant-loop-row l = first_such (has_flaw l.flaw) (pairs l.columns (drop l.row-index l.rows)) ≡ first_such (has_flaw l.flaw) (pairs l.columns l.rows)
