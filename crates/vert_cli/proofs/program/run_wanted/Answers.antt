use Rattle.std.proofs.Common.{◌≡◌, ap, inl, sym, subst}
use Rattle.std.specs.Prelude.{Option, Some}
use Rattle.run_words.specs.Told.{run_told, told}
use Rattle.run_words.specs.Words.{Wanted, runs, audits}
use Rattle.vert_cli.specs.Audits.{AuditKeeps, AuditOf}
use Rattle.vert_cli.proofs.Audited.{audit_unread, not_unbegun}
use Rattle.vert_cli.proofs.Naming.{audit_unnamed}
use Rattle.vert_cli.proofs.Serving.{asked_audit, asked_runs}
use Rattle.vert_cli.proofs.program.run_wanted.Goals as goal

pub returns-in-Run-clause-ran : goal.returns-in-Run-clause-ran
returns-in-Run-clause-ran g c = λ what asks.
    let is : ◌≡◌ {A = Option Wanted} (Some (told c.args.wanted)) (Some (runs (run_told c.in-Run.asked))) = ap (λ (w : Wanted). Some w) (ap told c.in-Run.is) in
    c.run_source.ensures.ran what (asked_runs (Some (told c.args.wanted)) (run_told c.in-Run.asked) (g.F.Files.content c.args.files.now) what is asks)

pub returns-in-Run-clause-audit : goal.returns-in-Run-clause-audit
returns-in-Run-clause-audit g c = λ m told_is.
    let is : told c.args.wanted ≡ runs (run_told c.in-Run.asked) = ap told c.in-Run.is in
    subst (λ (w : Wanted). AuditOf (Some w) c.run_source.result m (g.S.Sink.taken c.args.out.now) (g.S.Sink.taken c.run_source.new.out)) (sym is) tt

pub returns-in-Run-clause-audit_keeps : goal.returns-in-Run-clause-audit_keeps
returns-in-Run-clause-audit_keeps g c =
    let is : told c.args.wanted ≡ runs (run_told c.in-Run.asked) = ap told c.in-Run.is in
    subst (λ (w : Wanted). AuditKeeps g.D.Disk (Some w) c.args.disk.now c.run_source.new.disk) (sym is) tt

pub returns-in-Audit-clause-ran : goal.returns-in-Audit-clause-ran
returns-in-Audit-clause-ran g c = λ what asks.
    let is : ◌≡◌ {A = Option Wanted} (Some (told c.args.wanted)) (Some audits) = ap (λ (w : Wanted). Some w) (ap told c.in-Audit.is) in
    asked_audit g.D.Disk (Some (told c.args.wanted)) (g.F.Files.content c.args.files.now) what c.args.disk.now c.run_audit.new.disk (g.S.Sink.taken c.args.out.now) (g.S.Sink.taken c.run_audit.new.out) c.run_audit.result is c.run_audit.ensures.begins asks

pub returns-in-Audit-clause-audit : goal.returns-in-Audit-clause-audit
returns-in-Audit-clause-audit g c = λ m told_is.
    let is : told c.args.wanted ≡ audits = ap told c.in-Audit.is in
    subst (λ (w : Wanted). AuditOf (Some w) c.run_audit.result m (g.S.Sink.taken c.args.out.now) (g.S.Sink.taken c.run_audit.new.out)) (sym is) (c.run_audit.ensures.ends m told_is)

pub returns-in-Audit-clause-audit_keeps : goal.returns-in-Audit-clause-audit_keeps
returns-in-Audit-clause-audit_keeps g c =
    let is : told c.args.wanted ≡ audits = ap told c.in-Audit.is in
    subst (λ (w : Wanted). AuditKeeps g.D.Disk (Some w) c.args.disk.now c.run_audit.new.disk) (sym is) c.run_audit.ensures.unwritten

pub returns-in-Audit-clause-named : goal.returns-in-Audit-clause-named
returns-in-Audit-clause-named g c = λ same. not_unbegun c.run_audit.result c.run_audit.ensures.begins (inl same)

pub returns-in-Audit-clause-idle : goal.returns-in-Audit-clause-idle
returns-in-Audit-clause-idle g c = λ never. absurd (not_unbegun c.run_audit.result c.run_audit.ensures.begins never)

pub returns-in-Audit-clause-read : goal.returns-in-Audit-clause-read
returns-in-Audit-clause-read g c = λ same. absurd (audit_unread c.run_audit.result c.run_audit.ensures.begins same)

pub returns-in-Audit-clause-blamed : goal.returns-in-Audit-clause-blamed
returns-in-Audit-clause-blamed g c = λ q is. absurd (audit_unnamed c.run_audit.result c.run_audit.ensures.begins q is)
