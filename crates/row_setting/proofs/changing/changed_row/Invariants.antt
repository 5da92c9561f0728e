use Rattle.std.proofs.Common.{◌≡◌, drop}
use Rattle.db_model.specs.Events.{set_row, set_values}
use Rattle.row_setting.proofs.changing.changed_row.Given as goal

abbrev pub invariant-loop-set : goal.invariant-loop-set
invariant-loop-set l = set_values (drop l.set-index l.sets) l.row l.out.items ≡ set_row l.sets l.row
