use Rattle.audit_rows.proofs.Places.{all_good, first_bad, not_damaged, verdict_is}
use Rattle.audit_rows.proofs.judging.judge_container.Goals as goal

pub returns-in-Ok-None-clause-judged : goal.returns-in-Ok-None-clause-judged
returns-in-Ok-None-clause-judged g c =
    all_good (g.D.Disk.holds c.args.disk.now) c.args.epoch c.args.mark c.args.table.now c.args.shape.now c.args.container.now c.requires.readable.of_columns.most c.in-Ok-None.field-0 c.in-Ok-None.field-0-is c.in-Ok-None.ensures.found

pub returns-in-Ok-clause-judged : goal.returns-in-Ok-clause-judged
returns-in-Ok-clause-judged g c =
    verdict_is (g.D.Disk.holds c.args.disk.now) c.args.epoch c.args.mark c.args.table.now c.args.shape.now c.args.container.now c.in-Ok-Some.pos c.in-Ok.verdict c.in-Ok.ensures
    (first_bad (g.D.Disk.holds c.args.disk.now) c.args.epoch c.args.mark c.args.table.now c.args.shape.now c.args.container.now c.in-Ok-Some.pos c.requires.readable.of_columns.most c.in-Ok-Some.field-0 c.in-Ok-Some.field-0-is c.in-Ok-Some.ensures.found)

pub returns-in-Err-Damaged-clause-judged : goal.returns-in-Err-Damaged-clause-judged
returns-in-Err-Damaged-clause-judged g c =
    not_damaged (g.D.Disk.holds c.args.disk.now) c.args.epoch c.args.mark c.args.table.now c.args.shape.now c.args.container.now c.in-Err-Damaged.name c.requires.readable.of_columns.most c.in-Err-Damaged.field-0 c.in-Err-Damaged.field-0-is c.in-Err-Damaged.ensures.blamed
