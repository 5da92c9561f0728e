use Rattle.std.proofs.Common.{◌≡◌, map, take}
use Rattle.db_model.specs.Events.{set_row}
use Rattle.row_setting.proofs.changing.changed_rows.Given as goal

abbrev pub invariant-loop-row : goal.invariant-loop-row
invariant-loop-row l = l.out.items ≡ map (set_row l.sets) (take l.row-index l.rows)
