use Rattle.audit_rows.proofs.BlockRows.{row_more}
use Rattle.audit_rows.proofs.collecting.row_at.Goals as goal

pub loop-column-preserved : goal.loop-column-preserved
loop-column-preserved c =
    row_more c.args.columns.now c.args.i c.loop-column.column-index c.column-item.result c.loop-column.row.items c.push.new.self.items c.in_ok-value_at.field-0 c.in_ok-push.ensures.items c.loop-column.invariant
    c.loop-column-test.true c.column-item.is c.in_ok-value_at.ensures
