use Rattle.store_audit.proofs.Compared.{blamed_never, judged_compared}
use Rattle.store_audit.proofs.comparing.judge_pair.Goals as goal

pub returns-in-Ok-compared-clause-judged : goal.returns-in-Ok-compared-clause-judged
returns-in-Ok-compared-clause-judged g c =
    let rows = c.in-Ok.rows in
    judged_compared c.one_list_of_rows.ensures.held (g.D.Disk.holds c.args.disk.now) c.args.bounds.epoch c.args.bounds.mark c.args.table.now c.args.first.now c.args.second.now rows.0.items rows.1.items c.in-Ok-compared.verdict
    c.in-Ok.ensures.found c.in-Ok-compared.ensures.same c.in-Ok-compared.ensures.differ

pub returns-in-Err-Damaged-clause-judged : goal.returns-in-Err-Damaged-clause-judged
returns-in-Err-Damaged-clause-judged g c =
    let fault = c.in-Err-Damaged in
    λ m told both. absurd (blamed_never fault.field-0 fault.file fault.field-0-is (fault.ensures.unblamed m told both))
