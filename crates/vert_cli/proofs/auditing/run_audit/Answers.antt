use Rattle.std.proofs.Common.{◌∙◌, inr, subst, sym}
use Rattle.vert_cli.specs.declared.faults.Status.{Status}
use Rattle.vert_cli.specs.Audits.{AuditEnds}
use Rattle.vert_cli.proofs.Audited.{judged_of, part_told, told_ends, whole_told}
use Rattle.vert_cli.proofs.auditing.run_audit.Goals as goal

pub returns-in-Ok-write_all-clause-ends : goal.returns-in-Ok-write_all-clause-ends
returns-in-Ok-write_all-clause-ends g c = λ m told.
    let laws = c.yes_is_said_where_a_folder_reopens.ensures in
    let judged = judged_of m c.in-Ok.verdict (c.in-Ok.ensures.judged m told) laws.reopens laws.yes in
    let whole = whole_told m (g.S.Sink.taken c.args.out.now) (g.S.Sink.taken c.write_all.new.out) judged c.as_slice.result.now (c.as_slice.ensures.value ∙ c.in-Ok-verdict_text.ensures) c.in-Ok-write_all.ensures.whole in
    subst (λ (s : Status). AuditEnds s m (g.S.Sink.taken c.args.out.now) (g.S.Sink.taken c.write_all.new.out)) (sym c.status_of_verdict.ensures)
    (told_ends m (g.S.Sink.taken c.args.out.now) (g.S.Sink.taken c.write_all.new.out) c.in-Ok.verdict whole)

pub returns-in-Err-Failed-clause-ends : goal.returns-in-Err-Failed-clause-ends
returns-in-Err-Failed-clause-ends g c = λ m told.
    let laws = c.yes_is_said_where_a_folder_reopens.ensures in
    let judged = judged_of m c.in-Ok.verdict (c.in-Ok.ensures.judged m told) laws.reopens laws.yes in
    part_told m (g.S.Sink.taken c.args.out.now) (g.S.Sink.taken c.write_all.new.out) judged c.as_slice.result.now (c.as_slice.ensures.value ∙ c.in-Ok-verdict_text.ensures) c.in-Err-Failed.ensures.front

pub returns-in-Ok-verdict_text-clause-ends : goal.returns-in-Ok-verdict_text-clause-ends
returns-in-Ok-verdict_text-clause-ends g c = λ m told.
    let laws = c.yes_is_said_where_a_folder_reopens.ensures in
    let judged = judged_of m c.in-Ok.verdict (c.in-Ok.ensures.judged m told) laws.reopens laws.yes in
    inr (part_told m (g.S.Sink.taken c.args.out.now) (g.S.Sink.taken c.write_all.new.out) judged c.as_slice.result.now (c.as_slice.ensures.value ∙ c.in-Ok-verdict_text.ensures) c.in-Err-Memory-write_all.ensures.front)
