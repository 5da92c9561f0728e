use Rattle.std.proofs.Common.{◌∙◌}
use Rattle.proj_store.proofs.Candidacy.{row_more}
use Rattle.proj_store.proofs.rows.row_at.Goals as goal

pub loop-column-preserved : goal.loop-column-preserved
loop-column-preserved c =
    c.in_ok-push.ensures.items
    ∙ row_more c.args.columns.now c.args.i c.loop-column.column-index c.column-item.result c.loop-column.row.items c.in_ok-copy_at.field-0 c.loop-column.invariant c.loop-column-test.true c.column-item.is c.in_ok-copy_at.ensures
