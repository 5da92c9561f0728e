use Rattle.audit_rows.proofs.RowsFit.{good_some, good_none}
use Rattle.audit_rows.proofs.fitting.is_good.Goals as goal

pub returns-in-Some : goal.returns-in-Some
returns-in-Some c =
    good_some c.args.epoch c.args.mark c.args.table.now c.args.shape.now c.args.columns.now c.args.i c.args.ins c.args.del c.in-Some.del c.judged_delete.result c.is_sound.result c.in-Some.is
    (c.judged_delete.ensures c.args.columns.now c.args.i) c.is_sound.ensures

pub returns-in-None : goal.returns-in-None
returns-in-None c =
    good_none c.args.epoch c.args.mark c.args.table.now c.args.shape.now c.args.columns.now c.args.i c.args.ins c.args.del c.judged_delete.result c.in-None.is (c.judged_delete.ensures c.args.columns.now c.args.i)
