use Rattle.std.proofs.Common.{sym, subst, List, arith}
use Rattle.col_value.specs.declared.value.Value.{Value}
use Rattle.row_setting.specs.Storing.{AreStorable}
use Rattle.row_setting.proofs.changing.changed_rows.Goals as goal

pub changed_row-requires-clause-storable : goal.changed_row-requires-clause-storable
changed_row-requires-clause-storable c =
    subst (λ (row : List Value). AreStorable c.args.sets.now row) (sym c.row-item.is) (c.requires.storable c.loop-row.row-index c.row-item.result (omega arith))
