-- How a run begins and ends, by what it is asked for.
use Rattle.std.proofs.Common.{ℕ, ◌≡◌, ◌∙◌, ◌≤◌, ◌<◌, inl, inr, Bool, true, false, List, [], ◌∷◌, drop, length, refl, sym, ap, subst}
use Rattle.std.specs.Prelude.{◌⊎◌, if◌then◌else◌, Option, Some, None, IfSome, option_map, Result, Ok, Err}
use Rattle.common_laws.specs.Causes.{Rose}
use Rattle.col_disk.specs.Moved.{Leaves}
use Rattle.col_disk.specs.declared.disk.Disk.{Ghosts}
use Rattle.col_io.specs.Files.{Finds}
use Rattle.col_io.specs.declared.reading.Got.{Got}
use Rattle.col_io.specs.declared.reading.Got.TheVariants.{Absent, Whole, TooLong}
use Rattle.sql_words.specs.Texts.{statement_texts}
use Rattle.db_model.specs.Database.{Database}
use Rattle.db_model.specs.State.{State}
use Rattle.db_model.specs.Loading.{Files}
use Rattle.db_model.specs.Run.{Setting}
use Rattle.run_words.specs.Words.{Source, from_file, generated, ScriptRun, Wanted, runs, audits}
use Rattle.generated_load.specs.Load.{generated_files, generated_script}
use Rattle.vert_cli.specs.declared.faults.RunFault.{RunFault}
use Rattle.vert_cli.specs.declared.faults.Status.{Status}
use Rattle.vert_cli.specs.Statuses.{status_of, status_of_end, status_of_run, NeverBegins}
use Rattle.vert_cli.specs.Runs.{setting_of, StopsInNext}
use Rattle.vert_cli.specs.Asked.{Asked, misused, audit, absent, large, statements, is_within_limits, asked_by, asked_from, asked}
use Rattle.vert_cli.specs.Audits.{IsAuditStatus}
use Rattle.vert_cli.specs.Blamed.{IsToldAs}
use Rattle.vert_cli.specs.Ends.{IsIdle, IsOpenable, RunBegins, RunEnds, RunLeaves, RunShows, Counts, IsAnswered, RanAs}
use Rattle.vert_cli.proofs.Cuts.{leaves_still}
use Rattle.vert_cli.proofs.FewTexts.{generated_within}
use Rattle.vert_cli.proofs.Naming.{told_over}
use Rattle.vert_cli.proofs.Showing.{never_ran}
use Rattle.vert_cli.proofs.Limits.{within_limits, over_bytes, over_many, over_limits, in_limits}

-- ---- the status of a run that began

pub sink_only : (ended : Result Bool RunFault) → status_of_end ended ≡ Status.SinkFault → ended ≡ Err RunFault.Sink
sink_only (Ok true) is = absurd (cc)
sink_only (Ok false) is = absurd (cc)
sink_only (Err RunFault.Sink) is = refl
sink_only (Err RunFault.Disk) is = absurd (cc)
sink_only (Err (RunFault.Damaged q)) is = absurd (cc)
sink_only (Err RunFault.Memory) is = absurd (cc)
sink_only (Err RunFault.Read) is = absurd (cc)
sink_only (Err RunFault.Halted) is = absurd (cc)

pub read_only : (ended : Result Bool RunFault) → status_of_end ended ≡ Status.ReadFault → ended ≡ Err RunFault.Read
read_only (Ok true) is = absurd (cc)
read_only (Ok false) is = absurd (cc)
read_only (Err RunFault.Sink) is = absurd (cc)
read_only (Err RunFault.Disk) is = absurd (cc)
read_only (Err (RunFault.Damaged q)) is = absurd (cc)
read_only (Err RunFault.Memory) is = absurd (cc)
read_only (Err RunFault.Read) is = refl
read_only (Err RunFault.Halted) is = absurd (cc)

pub disk_only : (ended : Result Bool RunFault) → (ended ≡ Err RunFault.Halted → ⊥) → status_of_end ended ≡ Status.DiskFault → ended ≡ Err RunFault.Disk
disk_only (Ok true) going is = absurd (cc)
disk_only (Ok false) going is = absurd (cc)
disk_only (Err RunFault.Sink) going is = absurd (cc)
disk_only (Err RunFault.Disk) going is = refl
disk_only (Err (RunFault.Damaged q)) going is = absurd (cc)
disk_only (Err RunFault.Memory) going is = absurd (cc)
disk_only (Err RunFault.Read) going is = absurd (cc)
disk_only (Err RunFault.Halted) going is = absurd (going refl)

abbrev is_begun : Status → Bool
is_begun Status.Done = true
is_begun Status.Refused = true
is_begun Status.Usage = false
is_begun Status.NoScript = false
is_begun Status.SinkFault = true
is_begun Status.DiskFault = true
is_begun (Status.Damaged q) = true
is_begun Status.Memory = true
is_begun Status.ReadFault = true
is_begun Status.TooLarge = false
is_begun Status.AuditNo = true

end_begun : (ended : Result Bool RunFault) → is_begun (status_of_end ended) ≡ true
end_begun (Ok true) = refl
end_begun (Ok false) = refl
end_begun (Err RunFault.Sink) = refl
end_begun (Err RunFault.Disk) = refl
end_begun (Err (RunFault.Damaged q)) = refl
end_begun (Err RunFault.Memory) = refl
end_begun (Err RunFault.Read) = refl
end_begun (Err RunFault.Halted) = refl

not_begun : (status : Status) → NeverBegins status → is_begun status ≡ false
not_begun status (inl is) = ap is_begun is
not_begun status (inr (inl is)) = ap is_begun is
not_begun status (inr (inr is)) = ap is_begun is

pub true_false : true ≡ false → ⊥
true_false is = absurd (cc)

pub never_begun : (ended : Result Bool RunFault) (status : Status) → status ≡ status_of_end ended → NeverBegins status → ⊥
never_begun ended status is never = true_false (sym (end_begun ended) ∙ sym (ap is_begun is) ∙ not_begun status never)

pub never_misused : (ended : Result Bool RunFault) (status : Status) → status ≡ status_of_end ended → status ≡ Status.Usage → ⊥
never_misused ended status is same = never_begun ended status is (inl same)

-- ---- what is asked for

-- what holds of the statements that are asked for
abbrev OfStatements : (Setting → List (List ℕ) → Type 0) → Asked → Type 0
OfStatements P misused = ⊥
OfStatements P audit = ⊥
OfStatements P absent = ⊥
OfStatements P large = ⊥
OfStatements P (statements setting texts) = P setting texts

of_same : (P : Setting → List (List ℕ) → Type 0) (setting other : Setting) (texts others : List (List ℕ)) → statements setting texts ≡ statements other others → P setting texts → P other others
of_same P setting other texts others is holds = subst (OfStatements P) is holds

pub large_many : (setting : Setting) (script : List ℕ) → 4096 < length (statement_texts script) → asked_by setting (Some script) ≡ large
large_many setting script many = over_limits setting script (over_many script many)

-- ---- a run that doesn't begin

idle : {D : Type 0} (now : D) (told : Option (List ℕ)) → IsIdle now now told told
idle now told = record { disk = refl; sink = refl }

-- where the disk wasn't called, what it leaves is what it would have left
still_leaves : {D : Type 0} (disk : Ghosts D) (setting : Setting) (d : Database) (texts : List (List ℕ)) (now : D) (before after : Option (List ℕ)) → Leaves disk (RunLeaves disk now setting d texts before after) now now
still_leaves disk setting d texts now before after = leaves_still disk now (λ x image. inl (inl image))

-- want of memory comes whatever is asked for
short_begins : {D : Type 0} (what : Asked) (now : D) (told : Option (List ℕ)) → RunBegins Status.Memory what now now told told
short_begins misused now told = (inr refl, idle now told)
short_begins audit now told = tt
short_begins absent now told = (inr (inl refl), idle now told)
short_begins large now told = (inr (inl refl), idle now told)
short_begins (statements setting texts) now told = (Err RunFault.Memory, refl)

pub short : {D : Type 0} (disk : Ghosts D) (what : Asked) (now : D) (told : Option (List ℕ)) → RanAs Status.Memory disk what now now told told
short disk what now told = record {
  begins = short_begins what now told;
  ends = λ setting texts d is openable. inr (record { why = inl refl; untaken = refl; left = λ x image. inl image });
  any_moment = λ setting texts d is openable. still_leaves disk setting d texts now told told;
  shown = λ setting texts d is openable halted none refused done. absurd (never_ran RunFault.Memory refused done);
}

-- so does a file that couldn't be read, where a script is
unread_begins : {D : Type 0} (setting : Setting) (held : Option (List ℕ)) (now : D) (told : Option (List ℕ)) → RunBegins Status.ReadFault (asked_by setting held) now now told told
unread_begins setting None now told = (inr (inr refl), idle now told)
unread_begins setting (Some script) now told = by (is_within_limits script)
  where
    by : (b : Bool) → RunBegins Status.ReadFault (if b then statements setting (statement_texts script) else large) now now told told
    by true = (Err RunFault.Read, refl)
    by false = (inr (inr refl), idle now told)

pub unread : {D : Type 0} (disk : Ghosts D) (setting : Setting) (held : Option (List ℕ)) (now : D) (told : Option (List ℕ)) → RanAs Status.ReadFault disk (asked_by setting held) now now told told
unread disk setting held now told = record {
  begins = unread_begins setting held now told;
  ends = λ other texts d is openable. inr (record { why = inr (inr (refl, refl)); untaken = refl; left = λ x image. inl image });
  any_moment = λ other texts d is openable. still_leaves disk other d texts now told told;
  shown = λ other texts d is openable halted none refused done. absurd (never_ran RunFault.Read refused done);
}

absent_run : {D : Type 0} (disk : Ghosts D) (now : D) (told : Option (List ℕ)) → RanAs Status.NoScript disk absent now now told told
absent_run disk now told = record {
  begins = (inl refl, idle now told);
  ends = λ setting texts d is openable. absurd (cc);
  any_moment = λ setting texts d is openable. still_leaves disk setting d texts now told told;
  shown = λ setting texts d is openable. absurd (cc);
}

pub no_script : {D : Type 0} (disk : Ghosts D) (setting : Setting) (held : Option (List ℕ)) (now : D) (told : Option (List ℕ)) → held ≡ None → RanAs Status.NoScript disk (asked_by setting held) now now told told
no_script disk setting held now told none = subst (λ (h : Option (List ℕ)). RanAs Status.NoScript disk (asked_by setting h) now now told told) (sym none) (absent_run disk now told)

large_run : {D : Type 0} (disk : Ghosts D) (now : D) (told : Option (List ℕ)) → RanAs Status.TooLarge disk large now now told told
large_run disk now told = record {
  begins = (inl refl, idle now told);
  ends = λ setting texts d is openable. absurd (cc);
  any_moment = λ setting texts d is openable. still_leaves disk setting d texts now told told;
  shown = λ setting texts d is openable. absurd (cc);
}

pub too_large : {D : Type 0} (disk : Ghosts D) (what : Asked) (now : D) (told : Option (List ℕ)) → what ≡ large → RanAs Status.TooLarge disk what now now told told
too_large disk what now told is = subst (λ (w : Asked). RanAs Status.TooLarge disk w now now told told) (sym is) (large_run disk now told)

misused_run : {D : Type 0} (disk : Ghosts D) (now : D) (told : Option (List ℕ)) → RanAs Status.Usage disk misused now now told told
misused_run disk now told = record {
  begins = (inl refl, idle now told);
  ends = λ setting texts d is openable. absurd (cc);
  any_moment = λ setting texts d is openable. still_leaves disk setting d texts now told told;
  shown = λ setting texts d is openable. absurd (cc);
}

-- ---- an audit

audit_run : {D : Type 0} (disk : Ghosts D) (old now : D) (before after : Option (List ℕ)) (status : Status) → IsAuditStatus status → RanAs status disk audit old now before after
audit_run disk old now before after status is = record { begins = is; ends = λ setting texts d same openable. absurd (cc); any_moment = λ setting texts d same openable. absurd (cc); shown = λ setting texts d same openable. absurd (cc) }

-- ---- a script that is there

served_run : {D : Type 0} (disk : Ghosts D) (setting : Setting) (texts : List (List ℕ)) (old now : D) (before after : Option (List ℕ)) (ended : Result Bool RunFault)
    → ((d : Database) → IsOpenable disk old d → RunEnds (status_of_end ended) disk setting d texts old now before after)
    → ((d : Database) → IsOpenable disk old d → Leaves disk (RunLeaves disk old setting d texts before after) old now)
    → ((d : Database) → IsOpenable disk old d → RunShows (status_of_end ended) disk setting d texts old now before after)
    → RanAs (status_of_end ended) disk (statements setting texts) old now before after
served_run disk setting texts old now before after ended ends leaves shown = record {
  begins = (ended, refl);
  ends = λ other others d is openable. of_same (λ s ts. RunEnds (status_of_end ended) disk s d ts old now before after) setting other texts others is (ends d openable);
  any_moment = λ other others d is openable. of_same (λ s ts. Leaves disk (RunLeaves disk old s d ts before after) old now) setting other texts others is (leaves d openable);
  shown = λ other others d is openable. of_same (λ s ts. RunShows (status_of_end ended) disk s d ts old now before after) setting other texts others is (shown d openable);
}

pub served : {D : Type 0} (disk : Ghosts D) (setting : Setting) (script : List ℕ) (texts : List (List ℕ)) (old now : D) (before after : Option (List ℕ)) (status : Status) (ended : Result Bool RunFault)
    → length script ≤ 67108864 → length texts ≤ 4096 → status ≡ status_of_end ended → texts ≡ statement_texts script
    → ((d : Database) → IsOpenable disk old d → RunEnds (status_of_end ended) disk setting d texts old now before after)
    → ((d : Database) → IsOpenable disk old d → Leaves disk (RunLeaves disk old setting d texts before after) old now)
    → ((d : Database) → IsOpenable disk old d → RunShows (status_of_end ended) disk setting d texts old now before after)
    → RanAs status disk (asked_by setting (Some script)) old now before after
served disk setting script texts old now before after status ended bytes few is texts_are ends leaves shown =
    let within = within_limits script bytes (subst (λ (ts : List (List ℕ)). length ts ≤ 4096) texts_are few) in
    subst (λ (w : Asked). RanAs status disk w old now before after) (ap (statements setting) texts_are ∙ sym (in_limits setting script within))
    (subst (λ (s : Status). RanAs s disk (statements setting texts) old now before after) (sym is)
    (served_run disk setting texts old now before after ended ends leaves shown))

-- ---- the script is what the files have

told : (P : Files → Type 0) (content : Option Files) (there : Files) → content ≡ Some there → IfSome content P → P there
told P content there is for = subst (λ (c : Option Files). IfSome c P) is for

pub found_got : (content : Option Files) (there : Files) (name : List ℕ) (max : ℕ) (got was : Got) → got ≡ was → content ≡ Some there → IfSome content (λ map. Finds (map name) max got) → Finds (there name) max was
found_got content there name max got was got_is is found = subst (λ (x : Got). Finds (there name) max x) got_is (told (λ map. Finds (map name) max got) content there is found)

pub found_whole : (held : Option (List ℕ)) (max : ℕ) (bytes : _) → Finds held max (Whole bytes) → held ≡ Some bytes.items
found_whole None max bytes found = absurd found
found_whole (Some h) max bytes (same, fits) = ap Some (sym same)

pub found_absent : (held : Option (List ℕ)) (max : ℕ) → Finds held max Absent → held ≡ None
found_absent None max found = refl
found_absent (Some h) max found = absurd found

pub found_large : (setting : Setting) (held : Option (List ℕ)) → Finds held 67108864 TooLong → asked_by setting held ≡ large
found_large setting None found = absurd found
found_large setting (Some script) found = over_limits setting script (over_bytes script found)

pub held_run : {D : Type 0} (disk : Ghosts D) (setting : Setting) (held : Option (List ℕ)) (script : List ℕ) (old now : D) (before after : Option (List ℕ)) (status : Status)
    → held ≡ Some script → RanAs status disk (asked_by setting (Some script)) old now before after → RanAs status disk (asked_by setting held) old now before after
held_run disk setting held script old now before after status is ran = subst (λ (h : Option (List ℕ)). RanAs status disk (asked_by setting h) old now before after) (sym is) ran

-- the generated one is this, and within the limits
pub generated_here : {D : Type 0} (disk : Ghosts D) (setting : Setting) (script : List ℕ) (old now : D) (before after : Option (List ℕ)) (status : Status)
    → script ≡ generated_script → RanAs status disk (asked_by setting (Some script)) old now before after → RanAs status disk (statements setting (statement_texts generated_script)) old now before after
generated_here disk setting script old now before after status is ran =
    subst (λ (w : Asked). RanAs status disk w old now before after) (in_limits setting generated_script generated_within)
    (subst (λ (text : List ℕ). RanAs status disk (asked_by setting (Some text)) old now before after) is ran)

-- ---- the words

some_same : (what other : Asked) → ◌≡◌ {A = Option Asked} (Some what) (Some other) → what ≡ other
some_same what other is = ap (or_else what) is
  where
    or_else : Asked → Option Asked → Asked
    or_else w None = w
    or_else w (Some x) = x

not_told : (what : Asked) → ◌≡◌ {A = Option Asked} None (Some what) → ⊥
not_told what is = absurd (cc)

-- over the files that were told
over_files : {D : Type 0} (disk : Ghosts D) (f : Files → Asked) (content : Option Files) (what : Asked) (old now : D) (before after : Option (List ℕ)) (status : Status)
    → option_map f content ≡ Some what → ((there : Files) → content ≡ Some there → RanAs status disk (f there) old now before after) → RanAs status disk what old now before after
over_files disk f None what old now before after status is ran = absurd (not_told what is)
over_files disk f (Some there) what old now before after status is ran = subst (λ (w : Asked). RanAs status disk w old now before after) (some_same (f there) what is) (ran there refl)

pub file_run : {D : Type 0} (disk : Ghosts D) (source : Source) (name word : List ℕ) (steps : ℕ) (halts : Bool) (content : Option Files) (what : Asked) (old now : D) (before after : Option (List ℕ)) (status : Status)
    → source ≡ from_file name → word ≡ name → ((there : Files) → content ≡ Some there → RanAs status disk (asked_by (setting_of there steps halts) (there word)) old now before after)
    → asked_from source steps halts content ≡ Some what → RanAs status disk what old now before after
file_run disk source name word steps halts content what old now before after status is word_is ran asks =
    over_files disk (λ files. asked_by (setting_of files steps halts) (files name)) content what old now before after status
    (subst (λ (s : Source). asked_from s steps halts content ≡ Some what) is asks)
    (subst (λ (n : List ℕ). (there : Files) → content ≡ Some there → RanAs status disk (asked_by (setting_of there steps halts) (there n)) old now before after) word_is ran)

pub generated_run : {D : Type 0} (disk : Ghosts D) (source : Source) (lines seed : ℕ) (steps : ℕ) (halts : Bool) (content : Option Files) (what : Asked) (old now : D) (before after : Option (List ℕ)) (status : Status)
    → source ≡ generated lines seed → RanAs status disk (statements (setting_of (generated_files lines seed) steps halts) (statement_texts generated_script)) old now before after
    → asked_from source steps halts content ≡ Some what → RanAs status disk what old now before after
generated_run disk source lines seed steps halts content what old now before after status is ran asks =
    subst (λ (w : Asked). RanAs status disk w old now before after)
    (some_same (statements (setting_of (generated_files lines seed) steps halts) (statement_texts generated_script)) what (subst (λ (s : Source). asked_from s steps halts content ≡ Some what) is asks))
    ran

-- words that ask for a script, for an audit, and of no form
pub asked_runs : (words : Option Wanted) (run : ScriptRun) (content : Option Files) (what : Asked) → words ≡ Some (runs run) → asked words content ≡ Some what → asked_from run.source run.steps run.halts content ≡ Some what
unfolding asked
asked_runs words run content what is asks = subst (λ (w : Option Wanted). asked w content ≡ Some what) is asks

pub asked_audit : {D : Type 0} (disk : Ghosts D) (words : Option Wanted) (content : Option Files) (what : Asked) (old now : D) (before after : Option (List ℕ)) (status : Status)
    → words ≡ Some audits → IsAuditStatus status → asked words content ≡ Some what → RanAs status disk what old now before after
unfolding asked
asked_audit disk words content what old now before after status is holds asks =
    subst (λ (w : Asked). RanAs status disk w old now before after) (some_same audit what (subst (λ (w : Option Wanted). asked w content ≡ Some what) is asks)) (audit_run disk old now before after status holds)

pub asked_nothing : {D : Type 0} (disk : Ghosts D) (words : Option Wanted) (content : Option Files) (what : Asked) (now : D) (told : Option (List ℕ))
    → ◌≡◌ {A = Option Wanted} None words → asked words content ≡ Some what → RanAs Status.Usage disk what now now told told
unfolding asked
asked_nothing disk words content what now told none asks =
    subst (λ (w : Asked). RanAs Status.Usage disk w now now told told) (some_same misused what (subst (λ (w : Option Wanted). asked w content ≡ Some what) (sym none) asks)) (misused_run disk now told)

-- and ask for no statements
pub none_asked : (words : Option Wanted) (content : Option Files) (setting : Setting) (texts : List (List ℕ)) → ◌≡◌ {A = Option Wanted} None words → asked words content ≡ Some (statements setting texts) → ⊥
unfolding asked
none_asked words content setting texts none asks =
    differs (some_same misused (statements setting texts) (subst (λ (w : Option Wanted). asked w content ≡ Some (statements setting texts)) (sym none) asks))
  where
    differs : misused ≡ statements setting texts → ⊥
    differs is = absurd (cc)

-- ---- what is answered where no count of faults rose

-- no run stops for a file that is blamed
none_blamed : {D : Type 0} (disk : Ghosts D) (setting : Setting) (mid : State) (rest : List (List ℕ)) (now : D) (before after : Option (List ℕ)) (q : ℕ) → StopsInNext disk setting mid rest now before after (RunFault.Damaged q) → ⊥
none_blamed disk setting mid [] now before after q (halts, none) = none
none_blamed disk setting mid (text ∷ more) now before after q none = none

never_stopped : (refused : Bool) (q : ℕ) → Status.Damaged q ≡ status_of_run refused → ⊥
never_stopped true q is = absurd (cc)
never_stopped false q is = absurd (cc)

stops_unnamed : {D : Type 0} (disk : Ghosts D) (setting : Setting) (mid : State) (rest : List (List ℕ)) (now : D) (before after : Option (List ℕ)) (q : ℕ) (fault : RunFault) → Status.Damaged q ≡ status_of fault
    → StopsInNext disk setting mid rest now before after fault → ⊥
stops_unnamed disk setting mid rest now before after q RunFault.Sink is stops = absurd (cc)
stops_unnamed disk setting mid rest now before after q RunFault.Disk is stops = absurd (cc)
stops_unnamed disk setting mid rest now before after q (RunFault.Damaged n) is stops = none_blamed disk setting mid rest now before after n stops
stops_unnamed disk setting mid rest now before after q RunFault.Memory is stops = absurd (cc)
stops_unnamed disk setting mid rest now before after q RunFault.Read is stops = absurd (cc)
stops_unnamed disk setting mid rest now before after q RunFault.Halted is stops = absurd (cc)

-- no run over a folder that reopens names a file
pub run_unnamed : {D : Type 0} (disk : Ghosts D) (setting : Setting) (d : Database) (texts : List (List ℕ)) (old now : D) (before after : Option (List ℕ)) (q : ℕ) → RunEnds (Status.Damaged q) disk setting d texts old now before after → ⊥
run_unnamed disk setting d texts old now before after q (inl (start, starts, inl ran)) = never_stopped ran.refused q ran.status_is
run_unnamed disk setting d texts old now before after q (inl (start, starts, inr ran)) = stops_unnamed disk setting ran.mid (drop ran.count texts) now ran.between after q ran.fault ran.status_is ran.stops
run_unnamed disk setting d texts old now before after q (inr none) = by none.why
  where
    by : (Status.Damaged q ≡ Status.Memory) ⊎ ((Status.Damaged q ≡ Status.DiskFault) ⊎ ((Status.Damaged q ≡ Status.ReadFault) × (now ≡ old))) → ⊥
    by (inl is) = absurd (cc)
    by (inr (inl is)) = absurd (cc)
    by (inr (inr (is, still))) = absurd (cc)

-- how a run that met a fault ends, with what a crash leaves of it
abbrev pub MetFault : {D : Type 0} → Ghosts D → Setting → Database → List (List ℕ) → D → Option (List ℕ) → Option (List ℕ) → RunFault → D → Type 0
MetFault disk setting d texts old before after fault now = RunEnds (status_of fault) disk setting d texts old now before after × Leaves disk (RunLeaves disk old setting d texts before after) old now

pub fault_told : {D : Type 0} (disk : Ghosts D) (setting : Setting) (d : Database) (texts : List (List ℕ)) (old mid new : D) (before after : Option (List ℕ)) (fault told : RunFault) → IsToldAs fault told mid new
    → RunEnds (status_of fault) disk setting d texts old mid before after → Leaves disk (RunLeaves disk old setting d texts before after) old mid → MetFault disk setting d texts old before after told new
fault_told disk setting d texts old mid new before after fault told is ends leaves =
    told_over (MetFault disk setting d texts old before after) fault told mid new is (λ q met. run_unnamed disk setting d texts old mid before after q met.0) (ends, leaves)

answered_stop : {D : Type 0} (disk : Ghosts D) (setting : Setting) (mid : State) (rest : List (List ℕ)) (now : D) (before after : Option (List ℕ)) (was new : Counts) (status : Status) (fault : RunFault)
    → status ≡ status_of fault → StopsInNext disk setting mid rest now before after fault
    → (status ≡ Status.SinkFault → Rose was.sink new.sink) → (status ≡ Status.ReadFault → Rose was.files new.files) → (status ≡ Status.DiskFault → Rose was.disk new.disk) → IsAnswered status was new
answered_stop disk setting mid rest now before after was new status RunFault.Sink is stops sink read fault = inr (inr (inl (is, sink is)))
answered_stop disk setting mid rest now before after was new status RunFault.Disk is stops sink read fault = inr (inr (inr (inr (is, fault is))))
answered_stop disk setting mid rest now before after was new status (RunFault.Damaged q) is stops sink read fault = absurd (none_blamed disk setting mid rest now before after q stops)
answered_stop disk setting mid rest now before after was new status RunFault.Memory is stops sink read fault = inr (inl is)
answered_stop disk setting mid rest now before after was new status RunFault.Read is stops sink read fault = inr (inr (inr (inl (is, read is))))
answered_stop disk setting mid rest now before after was new status RunFault.Halted is stops sink read fault = inr (inr (inr (inr (is, fault is))))

pub answered : {D : Type 0} (disk : Ghosts D) (setting : Setting) (d : Database) (texts : List (List ℕ)) (old now : D) (before after : Option (List ℕ)) (was new : Counts) (status : Status) → RunEnds status disk setting d texts old now before after
    → (status ≡ Status.SinkFault → Rose was.sink new.sink) → (status ≡ Status.ReadFault → Rose was.files new.files) → (status ≡ Status.DiskFault → Rose was.disk new.disk) → IsAnswered status was new
answered disk setting d texts old now before after was new status (inl (start, starts, inl ran)) sink read fault = inl (ran.refused, ran.status_is)
answered disk setting d texts old now before after was new status (inl (start, starts, inr ran)) sink read fault =
    answered_stop disk setting ran.mid (drop ran.count texts) now ran.between after was new status ran.fault ran.status_is ran.stops sink read fault
answered disk setting d texts old now before after was new status (inr none) sink read fault = by none.why
  where
    by : (status ≡ Status.Memory) ⊎ ((status ≡ Status.DiskFault) ⊎ ((status ≡ Status.ReadFault) × (now ≡ old))) → IsAnswered status was new
    by (inl is) = inr (inl is)
    by (inr (inl is)) = inr (inr (inr (inr (is, fault is))))
    by (inr (inr (is, still))) = inr (inr (inr (inl (is, read is))))
