use Rattle.std.proofs.Common.{◌≡◌, drop}
use Rattle.db_model.specs.Refusals.{all_pairs}
use Rattle.sql_binding.specs.Inserts.{first_such}
use Rattle.row_setting.specs.Flaws.{has_flaw}
use Rattle.row_setting.proofs.Flawed.{pairs_from}
use Rattle.row_setting.proofs.flaws.first_flaw.Given as goal

abbrev pub invariant-loop-i : goal.invariant-loop-i
invariant-loop-i l = first_such (has_flaw l.flaw) (pairs_from l.sets l.rows l.i (drop l.i l.columns)) ≡ first_such (has_flaw l.flaw) (all_pairs l.sets l.rows l.columns)
