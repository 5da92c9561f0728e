use Rattle.std.proofs.Common.{refl, subst}
use Rattle.audit_model.specs.Judging.{JudgesPairs}
use Rattle.store_audit.proofs.Behind.{yes_behind}
use Rattle.store_audit.proofs.auditing.behind_rows.Goals as goal

pub returns-in-Ok-None-clause-judged : goal.returns-in-Ok-None-clause-judged
returns-in-Ok-None-clause-judged g c =
    let catalogue = c.args.catalogue.now in
    let holds = g.D.Disk.holds c.args.disk.now in
    yes_behind holds catalogue c.least_lge.result catalogue.ahm c.least_lge.ensures refl (subst (JudgesPairs holds catalogue) c.in-Ok-None.field-0-is c.in-Ok-None.ensures.judged)
