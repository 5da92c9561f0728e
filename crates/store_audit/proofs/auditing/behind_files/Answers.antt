use Rattle.std.proofs.Common.{subst}
use Rattle.audit_model.specs.Judging.{JudgesRows}
use Rattle.col_disk.proofs.Moving.{moved_join}
use Rattle.store_audit.proofs.Behind.{rows_behind}
use Rattle.store_audit.proofs.Firsts.{weaker_ok}
use Rattle.store_audit.proofs.auditing.behind_files.Goals as goal

pub returns-in-Ok-None-clause-judged : goal.returns-in-Ok-None-clause-judged
returns-in-Ok-None-clause-judged g c =
    let catalogue = c.args.catalogue.now in
    let holds = g.D.Disk.holds c.args.disk.now in
    let passed = subst (JudgesRows holds catalogue) c.in-Ok-None.field-0-is c.in-Ok-None.ensures.judged in
    weaker_ok _ _ c.behind_rows.result (λ verdict judged. rows_behind holds (g.D.Disk.holds c.judge_rows.new.disk) catalogue verdict c.judge_rows.ensures.kept passed judged) c.behind_rows.ensures.judged

pub returns-in-Ok-None-clause-moved : goal.returns-in-Ok-None-clause-moved
returns-in-Ok-None-clause-moved g c = moved_join g.D.Disk c.judge_rows.ensures.moved c.behind_rows.ensures.moved
