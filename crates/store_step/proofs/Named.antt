-- Which file a fault names, behind a statement.
use Rattle.std.proofs.Common.{◌≡◌, sym, ◌∙◌, subst}
use Rattle.std.specs.Prelude.{Bool, Result, Ok, Err, IfOk, IfErr, OnErr}
use Rattle.std.proofs.lemmas.Result.{on_err_weaker}
use Rattle.col_disk.specs.Faults.{store_fault}
use Rattle.col_disk.specs.declared.disk.Disk.{Ghosts}
use Rattle.col_disk.specs.declared.disk.DiskFault.{DiskFault}
use Rattle.col_disk.specs.declared.disk.DiskFault.TheVariants as disk_fault
use Rattle.col_disk.specs.declared.disk.StoreFault.{StoreFault}
use Rattle.col_disk.specs.declared.disk.StoreFault.TheVariants as store
use Rattle.sql_tree.specs.declared.refusal.Refusal.{Refusal}
use Rattle.store_core.specs.Named.{NamesHeld, NamesRead}
use Rattle.store_core.specs.Running.{running, Running}
use Rattle.store_core.specs.Seen.{Seen}
use Rattle.store_core.specs.SelectFault.{SelectFault}
use Rattle.store_core.specs.SelectFault.TheVariants as select
use Rattle.store_step.specs.declared.answer.Answer.{Answer}
use Rattle.store_step.specs.declared.answer.StepFault.{StepFault}
use Rattle.store_step.specs.Arms.{moved, of_memory, of_text, stopped_or, told}
use Rattle.store_step.specs.Faults.{NamesStepped}
use Rattle.store_step.specs.Texts.{IsMade, IsMissed, Refused}

-- ---- faults that name no file

short_named : {D E : Type 0} (disk : Ghosts D) (is : Running) (now : D) (done : Result Answer E) → IfErr (of_memory done) (NamesHeld disk is now)
short_named disk is now (Ok a) = tt
short_named disk is now (Err e) = λ m told. tt

pub memory_named : {D E : Type 0} (disk : Ghosts D) (is : Running) (now : D) (done : Result Answer E) (result : Result Answer StoreFault) → result ≡ of_memory done → IfErr result (NamesHeld disk is now)
memory_named disk is now done result same = subst (λ (r : Result Answer StoreFault). IfErr r (NamesHeld disk is now)) (sym same) (short_named disk is now done)

failed_named : {D : Type 0} (disk : Ghosts D) (is : Running) (now : D) (a : Answer) (done : Result (Unit {0}) DiskFault) → IfErr (told store_fault a done) (NamesHeld disk is now)
failed_named disk is now a (Ok u) = tt
failed_named disk is now a (Err disk_fault.Failed) = λ m told. tt
failed_named disk is now a (Err disk_fault.Memory) = λ m told. tt

pub disk_named : {D : Type 0} (disk : Ghosts D) (is : Running) (now : D) (a : Answer) (done : Result (Unit {0}) DiskFault) (result : Result Answer StoreFault) → result ≡ told store_fault a done → IfErr result (NamesHeld disk is now)
disk_named disk is now a done result same = subst (λ (r : Result Answer StoreFault). IfErr r (NamesHeld disk is now)) (sym same) (failed_named disk is now a done)

-- ---- the fault of an event is that of its statement

done_named : {D : Type 0} (disk : Ghosts D) (is : Running) (now : D) (a : Answer) (done : Result (Unit {0}) StoreFault) → IfErr done (NamesHeld disk is now) → IfErr (told (λ fault. fault) a done) (NamesHeld disk is now)
done_named disk is now a (Ok u) named = tt
done_named disk is now a (Err f) named = named

pub store_named : {D : Type 0} (disk : Ghosts D) (is : Running) (now : D) (a : Answer) (done : Result (Unit {0}) StoreFault) (result : Result Answer StoreFault) → result ≡ told (λ fault. fault) a done → IfErr done (NamesHeld disk is now)
    → IfErr result (NamesHeld disk is now)
store_named disk is now a done result same named = subst (λ (r : Result Answer StoreFault). IfErr r (NamesHeld disk is now)) (sym same) (done_named disk is now a done named)

worked_named : {D : Type 0} (disk : Ghosts D) (is : Running) (now : D) (a b : Answer) (done : Result Bool StoreFault) → IfErr done (NamesHeld disk is now) → IfErr (stopped_or a b done) (NamesHeld disk is now)
worked_named disk is now a b (Ok stopped) named = tt
worked_named disk is now a b (Err f) named = named

pub jobs_named : {D : Type 0} (disk : Ghosts D) (is : Running) (now : D) (a b : Answer) (done : Result Bool StoreFault) (result : Result Answer StoreFault) → result ≡ stopped_or a b done → IfErr done (NamesHeld disk is now)
    → IfErr result (NamesHeld disk is now)
jobs_named disk is now a b done result same named = subst (λ (r : Result Answer StoreFault). IfErr r (NamesHeld disk is now)) (sym same) (worked_named disk is now a b done named)

ended_named : {D : Type 0} (disk : Ghosts D) (is : Running) (now : D) (done : Result Bool StoreFault) → IfErr done (NamesHeld disk is now) → IfErr (moved done) (NamesHeld disk is now)
ended_named disk is now (Ok stopped) named = tt
ended_named disk is now (Err f) named = named

pub end_named : {D : Type 0} (disk : Ghosts D) (is : Running) (now : D) (done : Result Bool StoreFault) (result : Result (Unit {0}) StoreFault) → result ≡ moved done → IfErr done (NamesHeld disk is now) → IfErr result (NamesHeld disk is now)
end_named disk is now done result same named = subst (λ (r : Result (Unit {0}) StoreFault). IfErr r (NamesHeld disk is now)) (sym same) (ended_named disk is now done named)

ended_kept : (was is : Running) (done : Result Bool StoreFault) → OnErr done (is.seen ≡ was.seen) → OnErr (moved done) (is.seen ≡ was.seen)
ended_kept was is (Ok stopped) kept = tt
ended_kept was is (Err f) kept = kept

pub end_kept : (was mid is : Running) (done : Result Bool StoreFault) (result : Result (Unit {0}) StoreFault) → result ≡ moved done → mid.seen ≡ was.seen → OnErr done (is.seen ≡ mid.seen) → OnErr result (is.seen ≡ was.seen)
end_kept was mid is done result same dropped kept =
    subst (λ (r : Result (Unit {0}) StoreFault). OnErr r (is.seen ≡ was.seen)) (sym same) (ended_kept was is done (on_err_weaker done (λ stays. stays ∙ dropped) kept))

-- ---- a SELECT

made_named : {D : Type 0} (disk : Ghosts D) (is : Running) (now : D) (Printed : Answer → Type 0) (result : Result Answer StoreFault) → IsMade Printed result → IfErr result (NamesHeld disk is now)
made_named disk is now Printed (Ok a) made = tt
made_named disk is now Printed (Err f) made = subst (λ (e : StoreFault). NamesHeld disk is now e) (sym made) (λ m told. tt)

missed_named : {D : Type 0} (disk : Ghosts D) (is : Running) (now : D) (fault : SelectFault) (result : Result Answer StoreFault) → IsMissed fault result → NamesRead disk is now fault → IfErr result (NamesHeld disk is now)
missed_named disk is now select.SumOutOfRange result missed named = made_named disk is now (Refused Refusal.SumOutOfRange) result missed
missed_named disk is now select.Disk result missed named = subst (λ (r : Result Answer StoreFault). IfErr r (NamesHeld disk is now)) (sym missed) (λ m told. tt)
missed_named disk is now (select.Damaged q) result missed named = subst (λ (r : Result Answer StoreFault). IfErr r (NamesHeld disk is now)) (sym missed) named
missed_named disk is now select.Memory result missed named = subst (λ (r : Result Answer StoreFault). IfErr r (NamesHeld disk is now)) (sym missed) (λ m told. tt)

pub selected_named : {D T : Type 0} (disk : Ghosts D) (is : Running) (now : D) (Printed : T → Answer → Type 0) (rows : Result T SelectFault) (result : Result Answer StoreFault) → IfOk rows (λ v. IsMade (Printed v) result) → IfErr rows (λ f. IsMissed f result)
    → IfErr rows (NamesRead disk is now) → IfErr result (NamesHeld disk is now)
selected_named disk is now Printed (Ok v) result made missed named = made_named disk is now (Printed v) result made
selected_named disk is now Printed (Err f) result made missed named = missed_named disk is now f result missed named

-- ---- and that of its text

told_text : {D : Type 0} (disk : Ghosts D) (is : Running) (now : D) (done : Result Answer StoreFault) → IfErr done (NamesHeld disk is now) → IfErr (of_text done) (NamesStepped disk is now)
told_text disk is now (Ok a) named = tt
told_text disk is now (Err store.Disk) named = tt
told_text disk is now (Err (store.Damaged q)) named = named
told_text disk is now (Err store.Memory) named = tt

pub text_named : {D : Type 0} (disk : Ghosts D) (is : Running) (now : D) (done : Result Answer StoreFault) (result : Result Answer StepFault) → result ≡ of_text done → IfErr done (NamesHeld disk is now) → IfErr result (NamesStepped disk is now)
text_named disk is now done result same named = subst (λ (r : Result Answer StepFault). IfErr r (NamesStepped disk is now)) (sym same) (told_text disk is now done named)

pub memory_text_named : {D E : Type 0} (disk : Ghosts D) (is : Running) (now : D) (done : Result Answer E) (mid : Result Answer StoreFault) (result : Result Answer StepFault) → result ≡ of_text mid → mid ≡ of_memory done → IfErr result (NamesStepped disk is now)
memory_text_named disk is now done mid result same was = text_named disk is now mid result same (memory_named disk is now done mid was)

-- ---- a store whose tables are as before

pub seen_named : {D T : Type 0} (disk : Ghosts D) (was is : Running) (now : D) (done : Result T StoreFault) → OnErr done (is.seen ≡ was.seen) → IfErr done (NamesHeld disk is now) → IfErr done (NamesHeld disk was now)
seen_named disk was is now (Ok x) kept named = tt
seen_named disk was is now (Err fault) kept named = subst (λ (s : Seen). NamesHeld disk (running s was.sessions was.current was.mover) now fault) kept named
