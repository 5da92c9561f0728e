-- How an audit ends, over any contents of the disk.
use Rattle.std.specs.Prelude.{ℕ, ◌≡◌, ◌⊎◌, ⊤, List, Option, Some, None}
use Rattle.common_laws.specs.Maps.{Contents}
use Rattle.common_laws.specs.Told.{Appends, AppendsFront}
use Rattle.col_disk.specs.Moved.{Moved, NoName}
use Rattle.col_disk.specs.declared.disk.Disk.{Ghosts}
use Rattle.db_model.specs.Database.{Database}
use Rattle.folder_model.specs.Reopening.{Reopens}
use Rattle.audit_model.specs.Verdicts.{IsVerdict}
use Rattle.audit_model.specs.declared.verdict.Verdict.{Verdict}
use Rattle.audit_model.specs.declared.verdict.Verdict.TheVariants.{Yes, File, BadRow, Differ}
use Rattle.verdict_text.specs.Lines.{verdict_text}
use Rattle.run_words.specs.Words.{Wanted, runs, audits}
use Rattle.vert_cli.specs.declared.faults.Status.{Status}

-- the folder reopens to a database of this last epoch and this mark, or to none
abbrev pub TellsFolder : Contents → Verdict → Type 0
TellsFolder m (Yes last ahm) = (d : Database) × Reopens m d × (d.last ≡ last) × (d.ahm ≡ ahm)
TellsFolder m (File name) = (d : Database) → Reopens m d → ⊥
TellsFolder m (BadRow table projection base place) = (d : Database) → Reopens m d → ⊥
TellsFolder m (Differ table first second first_count second_count row) = (d : Database) → Reopens m d → ⊥

abbrev pub status_of_verdict : Verdict → Status
status_of_verdict (Yes last ahm) = Status.Done
status_of_verdict (File name) = Status.AuditNo
status_of_verdict (BadRow table projection base place) = Status.AuditNo
status_of_verdict (Differ table first second first_count second_count row) = Status.AuditNo

-- the verdict on the folder was found
pub record Judged (m : Contents) : Type 0 where
  pub verdict : Verdict
  pub is : IsVerdict m verdict
  pub tells : TellsFolder m verdict

-- and the sink took exactly its text
pub record Told (m : Contents) (status : Status) (before after : Option (List ℕ)) : Type 0 where
  pub judged : Judged m
  pub status_is : status ≡ status_of_verdict judged.verdict
  pub taken : Appends before after (verdict_text judged.verdict)

-- or a front of it
pub record ToldPart (m : Contents) (before after : Option (List ℕ)) : Type 0 where
  pub judged : Judged m
  pub taken : AppendsFront before after (verdict_text judged.verdict)

-- how an audit ends, by its status
abbrev pub AuditEnds : Status → Contents → Option (List ℕ) → Option (List ℕ) → Type 0
AuditEnds Status.Done m before after = Told m Status.Done before after
AuditEnds Status.Refused m before after = ⊥
AuditEnds Status.Usage m before after = ⊥
AuditEnds Status.NoScript m before after = ⊥
AuditEnds Status.SinkFault m before after = ToldPart m before after
AuditEnds Status.DiskFault m before after = after ≡ before
AuditEnds (Status.Damaged name) m before after = ⊥
AuditEnds Status.Memory m before after = (after ≡ before) ⊎ ToldPart m before after
AuditEnds Status.ReadFault m before after = ⊥
AuditEnds Status.TooLarge m before after = ⊥
AuditEnds Status.AuditNo m before after = Told m Status.AuditNo before after

-- the statuses of an audit, whatever the disk
abbrev pub IsAuditStatus : Status → Type 0
IsAuditStatus Status.Done = Unit {0}
IsAuditStatus Status.Refused = ⊥
IsAuditStatus Status.Usage = ⊥
IsAuditStatus Status.NoScript = ⊥
IsAuditStatus Status.SinkFault = Unit {0}
IsAuditStatus Status.DiskFault = Unit {0}
IsAuditStatus (Status.Damaged name) = ⊥
IsAuditStatus Status.Memory = Unit {0}
IsAuditStatus Status.ReadFault = ⊥
IsAuditStatus Status.TooLarge = ⊥
IsAuditStatus Status.AuditNo = Unit {0}

-- where the words ask for an audit, it ends so
abbrev pub AuditOf : Option Wanted → Status → Contents → Option (List ℕ) → Option (List ℕ) → Type 0
AuditOf None status m before after = ⊤
AuditOf (Some (runs run)) status m before after = ⊤
AuditOf (Some audits) status m before after = AuditEnds status m before after

-- no file was written or removed, and whatever a crash leaves at any moment it would have left before
pub record IsUnwritten {D : Type 0} (disk : Ghosts D) (old now : D) : Type 0 where
  pub kept : disk.holds now ≡ disk.holds old
  pub moved : Moved disk NoName NoName old now

abbrev pub AuditKeeps : {D : Type 0} → Ghosts D → Option Wanted → D → D → Type 0
AuditKeeps disk None old now = ⊤
AuditKeeps disk (Some (runs run)) old now = ⊤
AuditKeeps disk (Some audits) old now = IsUnwritten disk old now
