use Rattle.std.proofs.Common.{subst}
use Rattle.audit_model.specs.Judging.{JudgesFiles}
use Rattle.col_disk.proofs.Moving.{moved_join}
use Rattle.store_audit.proofs.Behind.{files_behind}
use Rattle.store_audit.proofs.Firsts.{weaker_ok}
use Rattle.store_audit.proofs.auditing.judge.Goals as goal

pub returns-in-Ok-None-clause-judged : goal.returns-in-Ok-None-clause-judged
returns-in-Ok-None-clause-judged g c =
    let catalogue = c.args.catalogue.now in
    let holds = g.D.Disk.holds c.args.disk.now in
    let passed = subst (JudgesFiles holds catalogue) c.in-Ok-None.field-0-is c.in-Ok-None.ensures.judged in
    weaker_ok _ _ c.behind_files.result (λ verdict judged. files_behind holds (g.D.Disk.holds c.judge_files.new.disk) catalogue verdict c.judge_files.ensures.kept passed judged) c.behind_files.ensures.judged

pub returns-in-Ok-None-clause-moved : goal.returns-in-Ok-None-clause-moved
returns-in-Ok-None-clause-moved g c = moved_join g.D.Disk c.judge_files.ensures.moved c.behind_files.ensures.moved
