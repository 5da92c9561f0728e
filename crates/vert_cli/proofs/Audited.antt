-- What an audit answers.
use Rattle.std.proofs.Common.{◌≡◌, ℕ, List, inl, inr, refl, subst}
use Rattle.std.specs.Prelude.{Option, Some, None}
use Rattle.common_laws.specs.Maps.{Contents}
use Rattle.common_laws.specs.Told.{Appends, AppendsFront}
use Rattle.col_disk.specs.declared.disk.Disk.{Ghosts}
use Rattle.col_disk.proofs.Moving.{moved_none}
use Rattle.db_model.specs.Database.{Database}
use Rattle.folder_model.specs.Reopening.{Reopens}
use Rattle.audit_model.specs.Verdicts.{IsVerdict, IsYes}
use Rattle.audit_model.specs.declared.verdict.Verdict.{Verdict}
use Rattle.audit_model.specs.declared.verdict.Verdict.TheVariants.{Yes, File, BadRow, Differ}
use Rattle.verdict_text.specs.Lines.{verdict_text}
use Rattle.run_words.specs.Words.{Wanted, runs, audits}
use Rattle.vert_cli.specs.declared.faults.Status.{Status}
use Rattle.vert_cli.specs.Audits.{AuditEnds, AuditKeeps, AuditOf, IsAuditStatus, Judged, TellsFolder, Told, ToldPart, status_of_verdict}
use Rattle.vert_cli.specs.Statuses.{NeverBegins}

-- ---- the verdict and the folder

-- the laws of the verdict over these contents
abbrev pub YesReopens : Contents → Verdict → Type 0
YesReopens m verdict = (last ahm : ℕ) → IsYes last ahm verdict → (d : Database) × Reopens m d × (d.last ≡ last) × (d.ahm ≡ ahm)

abbrev pub ReopensYes : Contents → Verdict → Type 0
ReopensYes m verdict = (d : Database) → Reopens m d → IsYes d.last d.ahm verdict

pub tells_folder : (m : Contents) (verdict : Verdict) → YesReopens m verdict → ReopensYes m verdict → TellsFolder m verdict
tells_folder m (Yes last ahm) found none = found last ahm (refl, refl)
tells_folder m (File name) found none = none
tells_folder m (BadRow table projection base place) found none = none
tells_folder m (Differ table first second first_count second_count row) found none = none

-- the verdict that was found, with the laws of verdicts
abbrev pub judged_of : (m : Contents) (verdict : Verdict) → IsVerdict m verdict → ((n : Contents) (v : Verdict) (last ahm : ℕ) → IsVerdict n v → IsYes last ahm v → (d : Database) × Reopens n d × (d.last ≡ last) × (d.ahm ≡ ahm))
    → ((n : Contents) (v : Verdict) (d : Database) → IsVerdict n v → Reopens n d → IsYes d.last d.ahm v) → Judged m
judged_of m verdict is reopens passes = record { verdict = verdict; is = is; tells = tells_folder m verdict (λ last ahm said. reopens m verdict last ahm is said) (λ d here. passes m verdict d is here) }

pub whole_told : (m : Contents) (before after : Option (List ℕ)) (judged : Judged m) (bytes : List ℕ) → bytes ≡ verdict_text judged.verdict → Appends before after bytes → Told m (status_of_verdict judged.verdict) before after
whole_told m before after judged bytes same taken = record { judged = judged; status_is = refl; taken = subst (λ (b : List ℕ). Appends before after b) same taken }

pub part_told : (m : Contents) (before after : Option (List ℕ)) (judged : Judged m) (bytes : List ℕ) → bytes ≡ verdict_text judged.verdict → AppendsFront before after bytes → ToldPart m before after
part_told m before after judged bytes same taken = record { judged = judged; taken = subst (λ (b : List ℕ). AppendsFront before after b) same taken }

pub told_ends : (m : Contents) (before after : Option (List ℕ)) (verdict : Verdict) → Told m (status_of_verdict verdict) before after → AuditEnds (status_of_verdict verdict) m before after
told_ends m before after (Yes last ahm) told = told
told_ends m before after (File name) told = told
told_ends m before after (BadRow table projection base place) told = told
told_ends m before after (Differ table first second first_count second_count row) told = told

pub verdict_begins : (verdict : Verdict) → IsAuditStatus (status_of_verdict verdict)
verdict_begins (Yes last ahm) = tt
verdict_begins (File name) = tt
verdict_begins (BadRow table projection base place) = tt
verdict_begins (Differ table first second first_count second_count row) = tt

-- ---- the statuses

pub not_unbegun : (status : Status) → IsAuditStatus status → NeverBegins status → ⊥
not_unbegun Status.Done is never = by never
  where
    by : NeverBegins Status.Done → ⊥
    by (inl e) = cc
    by (inr (inl e)) = cc
    by (inr (inr e)) = cc
not_unbegun Status.SinkFault is never = by never
  where
    by : NeverBegins Status.SinkFault → ⊥
    by (inl e) = cc
    by (inr (inl e)) = cc
    by (inr (inr e)) = cc
not_unbegun Status.DiskFault is never = by never
  where
    by : NeverBegins Status.DiskFault → ⊥
    by (inl e) = cc
    by (inr (inl e)) = cc
    by (inr (inr e)) = cc
not_unbegun Status.Memory is never = by never
  where
    by : NeverBegins Status.Memory → ⊥
    by (inl e) = cc
    by (inr (inl e)) = cc
    by (inr (inr e)) = cc
not_unbegun Status.AuditNo is never = by never
  where
    by : NeverBegins Status.AuditNo → ⊥
    by (inl e) = cc
    by (inr (inl e)) = cc
    by (inr (inr e)) = cc
not_unbegun Status.Refused is never = absurd is
not_unbegun Status.Usage is never = absurd is
not_unbegun Status.NoScript is never = absurd is
not_unbegun (Status.Damaged name) is never = absurd is
not_unbegun Status.ReadFault is never = absurd is
not_unbegun Status.TooLarge is never = absurd is

pub audit_unread : (status : Status) → IsAuditStatus status → status ≡ Status.ReadFault → ⊥
audit_unread Status.Done is e = cc
audit_unread Status.SinkFault is e = cc
audit_unread Status.DiskFault is e = cc
audit_unread Status.Memory is e = cc
audit_unread Status.AuditNo is e = cc
audit_unread Status.Refused is e = absurd is
audit_unread Status.Usage is e = absurd is
audit_unread Status.NoScript is e = absurd is
audit_unread (Status.Damaged name) is e = absurd is
audit_unread Status.ReadFault is e = absurd is
audit_unread Status.TooLarge is e = absurd is

-- ---- words that ask for none

pub nothing_audited : (words : Option Wanted) (status : Status) (m : Contents) (told : Option (List ℕ)) → ◌≡◌ {A = Option Wanted} None words → AuditOf words status m told told
nothing_audited words status m told none = subst (λ (ws : Option Wanted). AuditOf ws status m told told) none tt

pub nothing_kept : {D : Type 0} (disk : Ghosts D) (words : Option Wanted) (now : D) → ◌≡◌ {A = Option Wanted} None words → AuditKeeps disk words now now
nothing_kept disk words now none = subst (λ (ws : Option Wanted). AuditKeeps disk ws now now) none tt

-- the words couldn't be read for want of memory
pub short_audit : (m : Contents) (words : Option Wanted) (told : Option (List ℕ)) → AuditOf words Status.Memory m told told
short_audit m None told = tt
short_audit m (Some (runs run)) told = tt
short_audit m (Some audits) told = inl refl

pub short_kept : {D : Type 0} (disk : Ghosts D) (words : Option Wanted) (now : D) → AuditKeeps disk words now now
short_kept disk None now = tt
short_kept disk (Some (runs run)) now = tt
short_kept disk (Some audits) now = record { kept = refl; moved = moved_none disk now }
