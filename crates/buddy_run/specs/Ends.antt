-- How a catch-up ends, over folders that reopen.
use Rattle.std.specs.Prelude.{ℕ, ◌≡◌, ◌⊎◌, List, Option, Result, IfOk, IfErr}
use Rattle.common_laws.specs.Maps.{Contents}
use Rattle.common_laws.specs.Told.{Appends, AppendsFront}
use Rattle.col_disk.specs.Moved.{ImageOf}
use Rattle.col_disk.specs.declared.disk.Disk.{Ghosts}
use Rattle.db_model.specs.Database.{Database}
use Rattle.db_model.specs.Epochs.{cut, last_good}
use Rattle.db_model.specs.State.{State, idle_sessions}
use Rattle.folder_model.specs.Reopening.{Reopens}
use Rattle.store_opening.specs.Opening.{IsStill}
use Rattle.catch_model.specs.Caught.{later_mark, IsCaughtUp}
use Rattle.catch_model.specs.Refused.{IsRefused}
use Rattle.catch_model.specs.declared.fault.LinkFault.{LinkFault}
use Rattle.catch_model.specs.declared.fault.LinkFault.TheVariants.{SchemaDiffers, NotBehind, HistoryGone, Differs, Gap, TooMany, NumbersSpent, BehindDisk, AheadDisk, Damaged, Memory}
use Rattle.catch_text.specs.Lines.{caught_text, refusal_text}
use Rattle.buddy_run.specs.declared.linking.Brought.{Brought}
use Rattle.buddy_run.specs.declared.status.LinkStatus.{LinkStatus}

-- the exit status of the program
abbrev pub code_of : LinkStatus → ℕ
code_of LinkStatus.Done = 0
code_of LinkStatus.Refused = 1
code_of LinkStatus.Usage = 2
code_of LinkStatus.SinkFault = 4
code_of LinkStatus.DiskFault = 5
code_of (LinkStatus.Damaged name) = 6
code_of LinkStatus.Memory = 7

-- a folder reopens to a database that has caught up with another
abbrev pub ReopensCaughtUp : Database → Database → Contents → Type 0
ReopensCaughtUp a b x = (d : Database) × IsCaughtUp (later_mark a b) d b × Reopens x (cut b.last d)

-- a folder reopens to what it was, cut at its newest epoch, or to a database that has caught up
abbrev pub ReopensEither : Database → Database → Contents → Type 0
ReopensEither a b x = Reopens x (cut a.last a) ⊎ ReopensCaughtUp a b x

-- a folder was opened: no session has changes, and all data is on disk up to the newest epoch
pub record IsOpened (a : State) : Type 0 where
  pub idle : a.sessions ≡ idle_sessions
  pub good : last_good a.database ≡ a.database.last

-- What a crash leaves of the folder behind at any moment: what it would have left before the opening had synced, or it reopens to what it was, cut at its newest epoch, or
-- to a database that has caught up.
abbrev pub LinkIsOnTheWay : {D : Type 0} → Ghosts D → D → Database → Database → Contents → Type 0
LinkIsOnTheWay disk old a b x = IsStill disk old a x ⊎ ReopensEither a b x

-- What a crash leaves of the folder ahead at any moment: what it would have left before the opening had synced, or it reopens to what it was, or to that cut at its newest
-- epoch.
abbrev pub IsStillOrCut : {D : Type 0} → Ghosts D → D → Database → Contents → Type 0
IsStillOrCut disk old b x = IsStill disk old b x ⊎ Reopens x (cut b.last b)

-- whatever a crash leaves of the folder behind reopens to a database that has caught up
abbrev pub HasCaughtUp : {D : Type 0} → Ghosts D → D → Database → Database → Type 0
HasCaughtUp disk now a b = (x : Contents) → ImageOf disk now x → ReopensCaughtUp a b x

-- whatever a crash leaves of the folder behind reopens to what it was, cut at its newest epoch
abbrev pub HasStayed : {D : Type 0} → Ghosts D → D → Database → Type 0
HasStayed disk now a = (x : Contents) → ImageOf disk now x → Reopens x (cut a.last a)

-- What stands of the folder behind where it is refused: it is as it was. Where the numbers of its files were spent in the moveout of what was
-- committed, whatever a crash leaves of it reopens to what it was, or to a database that has caught up; another fault is no refusal.
abbrev pub StandsRefused : {D : Type 0} → Ghosts D → D → Database → Database → LinkFault → Type 0
StandsRefused disk now a b (SchemaDiffers name) = HasStayed disk now a
StandsRefused disk now a b (NotBehind behind ahead) = HasStayed disk now a
StandsRefused disk now a b (HistoryGone at ahm) = HasStayed disk now a
StandsRefused disk now a b (Differs table row) = HasStayed disk now a
StandsRefused disk now a b (Gap n) = HasStayed disk now a
StandsRefused disk now a b (TooMany n) = HasStayed disk now a
StandsRefused disk now a b NumbersSpent = (x : Contents) → ImageOf disk now x → ReopensEither a b x
StandsRefused disk now a b BehindDisk = Unit {0}
StandsRefused disk now a b AheadDisk = Unit {0}
StandsRefused disk now a b (Damaged name) = Unit {0}
StandsRefused disk now a b Memory = Unit {0}

-- why it is refused: something is in the way, or the numbers of files of the folder behind are spent
abbrev pub IsToldRefusal : Database → Database → LinkFault → Type 0
IsToldRefusal a b fault = IsRefused a b a.last fault ⊎ (fault ≡ NumbersSpent)

-- how it stopped
abbrev pub StopsBy : Database → Database → LinkFault → Type 0
StopsBy a b BehindDisk = Unit {0}
StopsBy a b AheadDisk = Unit {0}
StopsBy a b (Damaged name) = ⊥
StopsBy a b Memory = Unit {0}
StopsBy a b (SchemaDiffers name) = IsToldRefusal a b (SchemaDiffers name)
StopsBy a b (NotBehind behind ahead) = IsToldRefusal a b (NotBehind behind ahead)
StopsBy a b (HistoryGone at ahm) = IsToldRefusal a b (HistoryGone at ahm)
StopsBy a b (Differs table row) = IsToldRefusal a b (Differs table row)
StopsBy a b (Gap n) = IsToldRefusal a b (Gap n)
StopsBy a b (TooMany n) = IsToldRefusal a b (TooMany n)
StopsBy a b NumbersSpent = IsToldRefusal a b NumbersSpent

abbrev pub brought : ℕ → ℕ → ℕ → Brought
brought first second last = record { first = first; second = second; last = last }

-- The folder behind was brought from its newest epoch up to that of the folder ahead, or it was refused, or a disk failed or memory was short.
pub record BringsUp {D : Type 0} (disk : Ghosts D) (now : D) (a b : Database) (result : Result Brought LinkFault) : Type 0 where
  pub done : IfOk result (λ r. (r ≡ brought a.last b.last b.last) × HasCaughtUp disk now a b)
  pub stopped : IfErr result (StopsBy a b)
  pub stands : IfErr result (StandsRefused disk now a b)

-- a sink failed, or memory was short
abbrev pub IsSinkStop : LinkStatus → Type 0
IsSinkStop LinkStatus.Done = ⊥
IsSinkStop LinkStatus.Refused = ⊥
IsSinkStop LinkStatus.Usage = ⊥
IsSinkStop LinkStatus.SinkFault = Unit {0}
IsSinkStop LinkStatus.DiskFault = ⊥
IsSinkStop (LinkStatus.Damaged name) = ⊥
IsSinkStop LinkStatus.Memory = Unit {0}

-- the line that tells how far it came
abbrev pub done_text : Database → Database → List ℕ
done_text a b = caught_text a.last b.last b.last

-- the sink took exactly the line that tells why it is refused
abbrev pub TellsRefusal : Database → Database → LinkFault → Option (List ℕ) → Option (List ℕ) → Type 0
TellsRefusal a b fault before after = IsToldRefusal a b fault × Appends before after (refusal_text fault)

-- or a front of one of these lines
abbrev pub TellsFront : Database → Database → Option (List ℕ) → Option (List ℕ) → Type 0
TellsFront a b before after = AppendsFront before after (done_text a b) ⊎ ((fault : LinkFault) × IsToldRefusal a b fault × AppendsFront before after (refusal_text fault))

-- the sink took a line, or a front of it
abbrev pub IsToldBy : LinkStatus → List ℕ → Option (List ℕ) → Option (List ℕ) → Type 0
IsToldBy LinkStatus.Done text before after = ⊥
IsToldBy LinkStatus.Refused text before after = Appends before after text
IsToldBy LinkStatus.Usage text before after = ⊥
IsToldBy LinkStatus.SinkFault text before after = AppendsFront before after text
IsToldBy LinkStatus.DiskFault text before after = ⊥
IsToldBy (LinkStatus.Damaged name) text before after = ⊥
IsToldBy LinkStatus.Memory text before after = (after ≡ before) ⊎ AppendsFront before after text

-- how a catch-up ends that didn't come to its end
abbrev pub StopEnds : LinkStatus → Database → Database → LinkFault → Option (List ℕ) → Option (List ℕ) → Type 0
StopEnds LinkStatus.Done a b fault before after = ⊥
StopEnds LinkStatus.Refused a b fault before after = TellsRefusal a b fault before after
StopEnds LinkStatus.Usage a b fault before after = ⊥
StopEnds LinkStatus.SinkFault a b fault before after = TellsFront a b before after
StopEnds LinkStatus.DiskFault a b fault before after = after ≡ before
StopEnds (LinkStatus.Damaged name) a b fault before after = ⊥
StopEnds LinkStatus.Memory a b fault before after = (after ≡ before) ⊎ TellsFront a b before after

-- a disk failed
abbrev pub IsDiskFault : LinkFault → Type 0
IsDiskFault fault = (fault ≡ BehindDisk) ⊎ (fault ≡ AheadDisk)

-- How a catch-up of two folders ends, by its status: the folder behind reopened to `a` and the one ahead to `b`.
abbrev pub LinkEnds : LinkStatus → {D : Type 0} → Ghosts D → D → Database → Database → Option (List ℕ) → Option (List ℕ) → Type 0
LinkEnds LinkStatus.Done disk now a b before after = HasCaughtUp disk now a b × Appends before after (done_text a b)
LinkEnds LinkStatus.Refused disk now a b before after = (fault : LinkFault) × TellsRefusal a b fault before after × StandsRefused disk now a b fault
LinkEnds LinkStatus.Usage disk now a b before after = ⊥
LinkEnds LinkStatus.SinkFault disk now a b before after = TellsFront a b before after
LinkEnds LinkStatus.DiskFault disk now a b before after = after ≡ before
LinkEnds (LinkStatus.Damaged name) disk now a b before after = ⊥
LinkEnds LinkStatus.Memory disk now a b before after = (after ≡ before) ⊎ TellsFront a b before after
