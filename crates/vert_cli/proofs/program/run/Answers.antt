use Rattle.std.proofs.Common.{◌≡◌, ◌∙◌, ap, inl, inr, map, refl, sym, subst}
use Rattle.std.specs.Prelude.{Option, Some, None, option_map, string_bytes}
use Rattle.run_words.specs.Told.{told}
use Rattle.run_words.specs.Words.{Wanted, wanted}
use Rattle.vert_cli.specs.declared.faults.Status.{Status}
use Rattle.vert_cli.specs.Audits.{AuditKeeps, AuditOf}
use Rattle.vert_cli.specs.Asked.{asked, statements}
use Rattle.vert_cli.proofs.Audited.{nothing_audited, nothing_kept, short_audit, short_kept}
use Rattle.vert_cli.proofs.Serving.{answered, asked_nothing, none_asked, short}
use Rattle.vert_cli.proofs.program.run.Goals as goal

pub returns-in-Ok-Some-clause-begins : goal.returns-in-Ok-Some-clause-begins
returns-in-Ok-Some-clause-begins g c = λ what asks.
    let is : ◌≡◌ {A = Option Wanted} (Some (told c.in-Ok-Some.wanted)) (wanted (map string_bytes c.args.words.now)) = ap (option_map told) (sym c.in-Ok-Some.field-0-is) ∙ c.in-Ok-Some.ensures in
    let ran = c.run_wanted.ensures.ran what (subst (λ (w : Option Wanted). asked w (g.F.Files.content c.args.files.now) ≡ Some what) (sym is) asks) in
    ran.begins

pub returns-in-Ok-Some-clause-output : goal.returns-in-Ok-Some-clause-output
returns-in-Ok-Some-clause-output g c = λ setting texts d asks openable.
    let is : ◌≡◌ {A = Option Wanted} (Some (told c.in-Ok-Some.wanted)) (wanted (map string_bytes c.args.words.now)) = ap (option_map told) (sym c.in-Ok-Some.field-0-is) ∙ c.in-Ok-Some.ensures in
    let ran = c.run_wanted.ensures.ran (statements setting texts) (subst (λ (w : Option Wanted). asked w (g.F.Files.content c.args.files.now) ≡ Some (statements setting texts)) (sym is) asks) in
    ran.ends setting texts d refl openable

pub returns-in-Ok-Some-clause-any_moment : goal.returns-in-Ok-Some-clause-any_moment
returns-in-Ok-Some-clause-any_moment g c = λ setting texts d asks openable.
    let is : ◌≡◌ {A = Option Wanted} (Some (told c.in-Ok-Some.wanted)) (wanted (map string_bytes c.args.words.now)) = ap (option_map told) (sym c.in-Ok-Some.field-0-is) ∙ c.in-Ok-Some.ensures in
    let ran = c.run_wanted.ensures.ran (statements setting texts) (subst (λ (w : Option Wanted). asked w (g.F.Files.content c.args.files.now) ≡ Some (statements setting texts)) (sym is) asks) in
    ran.any_moment setting texts d refl openable

pub returns-in-Ok-Some-clause-complete : goal.returns-in-Ok-Some-clause-complete
returns-in-Ok-Some-clause-complete g c = λ setting texts d asks openable.
    let is : ◌≡◌ {A = Option Wanted} (Some (told c.in-Ok-Some.wanted)) (wanted (map string_bytes c.args.words.now)) = ap (option_map told) (sym c.in-Ok-Some.field-0-is) ∙ c.in-Ok-Some.ensures in
    let ran = c.run_wanted.ensures.ran (statements setting texts) (subst (λ (w : Option Wanted). asked w (g.F.Files.content c.args.files.now) ≡ Some (statements setting texts)) (sym is) asks) in
    answered g.D.Disk setting d texts c.args.disk.now c.run_wanted.new.disk (g.S.Sink.taken c.args.out.now) (g.S.Sink.taken c.run_wanted.new.out) _ _ c.run_wanted.result (ran.ends setting texts d refl openable)
    c.run_wanted.ensures.sink c.run_wanted.ensures.read c.run_wanted.ensures.fault

pub returns-in-Ok-Some-clause-audit : goal.returns-in-Ok-Some-clause-audit
returns-in-Ok-Some-clause-audit g c = λ m told_is.
    let is : ◌≡◌ {A = Option Wanted} (Some (told c.in-Ok-Some.wanted)) (wanted (map string_bytes c.args.words.now)) = ap (option_map told) (sym c.in-Ok-Some.field-0-is) ∙ c.in-Ok-Some.ensures in
    subst (λ (w : Option Wanted). AuditOf w c.run_wanted.result m (g.S.Sink.taken c.args.out.now) (g.S.Sink.taken c.run_wanted.new.out)) is (c.run_wanted.ensures.audit m told_is)

pub returns-in-Ok-Some-clause-audit_keeps : goal.returns-in-Ok-Some-clause-audit_keeps
returns-in-Ok-Some-clause-audit_keeps g c =
    let is : ◌≡◌ {A = Option Wanted} (Some (told c.in-Ok-Some.wanted)) (wanted (map string_bytes c.args.words.now)) = ap (option_map told) (sym c.in-Ok-Some.field-0-is) ∙ c.in-Ok-Some.ensures in
    subst (λ (w : Option Wanted). AuditKeeps g.D.Disk w c.args.disk.now c.run_wanted.new.disk) is c.run_wanted.ensures.audit_keeps

pub returns-in-Err-clause-begins : goal.returns-in-Err-clause-begins
returns-in-Err-clause-begins g c = λ what asks.
    let ran = short g.D.Disk what c.args.disk.now (g.S.Sink.taken c.args.out.now) in
    ran.begins

pub returns-in-Err-clause-output : goal.returns-in-Err-clause-output
returns-in-Err-clause-output g c = λ setting texts d asks openable.
    let ran = short g.D.Disk (statements setting texts) c.args.disk.now (g.S.Sink.taken c.args.out.now) in
    ran.ends setting texts d refl openable

pub returns-in-Err-clause-any_moment : goal.returns-in-Err-clause-any_moment
returns-in-Err-clause-any_moment g c = λ setting texts d asks openable.
    let ran = short g.D.Disk (statements setting texts) c.args.disk.now (g.S.Sink.taken c.args.out.now) in
    ran.any_moment setting texts d refl openable

pub returns-in-Err-clause-complete : goal.returns-in-Err-clause-complete
returns-in-Err-clause-complete g c = λ setting texts d asks openable. inr (inl refl)

pub returns-in-Err-clause-audit : goal.returns-in-Err-clause-audit
returns-in-Err-clause-audit g c = λ m told_is. short_audit m (wanted (map string_bytes c.args.words.now)) (g.S.Sink.taken c.args.out.now)

pub returns-in-Err-clause-audit_keeps : goal.returns-in-Err-clause-audit_keeps
returns-in-Err-clause-audit_keeps g c = short_kept g.D.Disk (wanted (map string_bytes c.args.words.now)) c.args.disk.now

pub returns-in-Ok-None-clause-begins : goal.returns-in-Ok-None-clause-begins
returns-in-Ok-None-clause-begins g c = λ what asks.
    let none : ◌≡◌ {A = Option Wanted} None (wanted (map string_bytes c.args.words.now)) = ap (option_map told) (sym c.in-Ok-None.field-0-is) ∙ c.in-Ok-None.ensures in
    let ran = asked_nothing g.D.Disk (wanted (map string_bytes c.args.words.now)) (g.F.Files.content c.args.files.now) what c.args.disk.now (g.S.Sink.taken c.args.out.now) none asks in
    ran.begins

pub returns-in-Ok-None-clause-output : goal.returns-in-Ok-None-clause-output
returns-in-Ok-None-clause-output g c = λ setting texts d asks openable.
    let none : ◌≡◌ {A = Option Wanted} None (wanted (map string_bytes c.args.words.now)) = ap (option_map told) (sym c.in-Ok-None.field-0-is) ∙ c.in-Ok-None.ensures in
    let ran = asked_nothing g.D.Disk (wanted (map string_bytes c.args.words.now)) (g.F.Files.content c.args.files.now) (statements setting texts) c.args.disk.now (g.S.Sink.taken c.args.out.now) none asks in
    ran.ends setting texts d refl openable

pub returns-in-Ok-None-clause-any_moment : goal.returns-in-Ok-None-clause-any_moment
returns-in-Ok-None-clause-any_moment g c = λ setting texts d asks openable.
    let none : ◌≡◌ {A = Option Wanted} None (wanted (map string_bytes c.args.words.now)) = ap (option_map told) (sym c.in-Ok-None.field-0-is) ∙ c.in-Ok-None.ensures in
    let ran = asked_nothing g.D.Disk (wanted (map string_bytes c.args.words.now)) (g.F.Files.content c.args.files.now) (statements setting texts) c.args.disk.now (g.S.Sink.taken c.args.out.now) none asks in
    ran.any_moment setting texts d refl openable

pub returns-in-Ok-None-clause-complete : goal.returns-in-Ok-None-clause-complete
returns-in-Ok-None-clause-complete g c = λ setting texts d asks openable.
    let none : ◌≡◌ {A = Option Wanted} None (wanted (map string_bytes c.args.words.now)) = ap (option_map told) (sym c.in-Ok-None.field-0-is) ∙ c.in-Ok-None.ensures in
    absurd (none_asked (wanted (map string_bytes c.args.words.now)) (g.F.Files.content c.args.files.now) setting texts none asks)

pub returns-in-Ok-None-clause-audit : goal.returns-in-Ok-None-clause-audit
returns-in-Ok-None-clause-audit g c = λ m told_is.
    let none : ◌≡◌ {A = Option Wanted} None (wanted (map string_bytes c.args.words.now)) = ap (option_map told) (sym c.in-Ok-None.field-0-is) ∙ c.in-Ok-None.ensures in
    nothing_audited (wanted (map string_bytes c.args.words.now)) Status.Usage m (g.S.Sink.taken c.args.out.now) none

pub returns-in-Ok-None-clause-audit_keeps : goal.returns-in-Ok-None-clause-audit_keeps
returns-in-Ok-None-clause-audit_keeps g c =
    let none : ◌≡◌ {A = Option Wanted} None (wanted (map string_bytes c.args.words.now)) = ap (option_map told) (sym c.in-Ok-None.field-0-is) ∙ c.in-Ok-None.ensures in
    nothing_kept g.D.Disk (wanted (map string_bytes c.args.words.now)) c.args.disk.now none

pub returns-in-Ok-Some-clause-shown : goal.returns-in-Ok-Some-clause-shown
returns-in-Ok-Some-clause-shown g c = λ setting texts d asks openable.
    let is : ◌≡◌ {A = Option Wanted} (Some (told c.in-Ok-Some.wanted)) (wanted (map string_bytes c.args.words.now)) = ap (option_map told) (sym c.in-Ok-Some.field-0-is) ∙ c.in-Ok-Some.ensures in
    let ran = c.run_wanted.ensures.ran (statements setting texts) (subst (λ (w : Option Wanted). asked w (g.F.Files.content c.args.files.now) ≡ Some (statements setting texts)) (sym is) asks) in
    ran.shown setting texts d refl openable

pub returns-in-Err-clause-shown : goal.returns-in-Err-clause-shown
returns-in-Err-clause-shown g c = λ setting texts d asks openable.
    let ran = short g.D.Disk (statements setting texts) c.args.disk.now (g.S.Sink.taken c.args.out.now) in
    ran.shown setting texts d refl openable

pub returns-in-Ok-None-clause-shown : goal.returns-in-Ok-None-clause-shown
returns-in-Ok-None-clause-shown g c = λ setting texts d asks openable.
    let none : ◌≡◌ {A = Option Wanted} None (wanted (map string_bytes c.args.words.now)) = ap (option_map told) (sym c.in-Ok-None.field-0-is) ∙ c.in-Ok-None.ensures in
    let ran = asked_nothing g.D.Disk (wanted (map string_bytes c.args.words.now)) (g.F.Files.content c.args.files.now) (statements setting texts) c.args.disk.now (g.S.Sink.taken c.args.out.now) none asks in
    ran.shown setting texts d refl openable
