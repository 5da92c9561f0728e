use Rattle.audit_rows.proofs.Finding.{range_more}
use Rattle.audit_rows.proofs.judging.all_columns.Goals as goal

pub loop-column-preserved : goal.loop-column-preserved
loop-column-preserved c = range_more c.loop-column.column c.loop-column.columns.items c.push.new.self.items c.in_ok-push.ensures.items c.loop-column.invariant
