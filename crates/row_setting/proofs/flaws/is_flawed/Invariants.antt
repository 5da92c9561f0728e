use Rattle.std.proofs.Common.{◌≡◌, drop}
use Rattle.std.specs.List.{list_any}
use Rattle.db_model.specs.Refusals.{set_pairs}
use Rattle.row_setting.specs.Flaws.{has_flaw}
use Rattle.row_setting.proofs.flaws.is_flawed.Given as goal

abbrev pub invariant-loop-set : goal.invariant-loop-set
invariant-loop-set l = list_any (has_flaw l.flaw) (set_pairs (drop l.set-index l.sets) l.rows (l.place, l.column)) ≡ list_any (has_flaw l.flaw) (set_pairs l.sets l.rows (l.place, l.column))
