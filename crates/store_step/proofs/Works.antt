-- What the work of MERGEOUT and PURGE_TABLE leaves, up to a statement text.
use Rattle.std.proofs.Common.{◌≡◌, ℕ, Bool, true, false, List, refl, sym, subst}
use Rattle.std.specs.Prelude.{Option, Some, None, Result, Ok, Err, IfOk, IsSomeAnd}
use Rattle.std.specs.List.{slice_get}
use Rattle.col_disk.specs.declared.disk.Disk.{Ghosts}
use Rattle.col_disk.specs.declared.disk.StoreFault.{StoreFault}
use Rattle.name_binder.specs.declared.fault.BindFault.{BindFault}
use Rattle.sql_words.specs.Symbols.{Symbol, symbols_of}
use Rattle.sql_tree.specs.Spells.{Spells}
use Rattle.sql_tree.specs.declared.refusal.Refusal.{Refusal}
use Rattle.sql_tree.specs.declared.statement.Statement.{Statement}
use Rattle.db_model.specs.State.{State}
use Rattle.store_core.specs.Jobs.{ArePurged}
use Rattle.store_core.specs.Running.{IsState, Running}
use Rattle.store_step.specs.declared.answer.Answer.{Answer}
use Rattle.store_step.specs.declared.answer.StepFault.{StepFault}
use Rattle.store_step.specs.Arms.{of_memory, of_text, stopped_or}
use Rattle.store_step.specs.Texts.{IsUnplanned, Refused}
use Rattle.store_step.specs.Works.{IsPurged, WhereDone, Works, WorksOf}

-- a refusal isn't none
refuses_none : {X : Type 0} (o : Option Refusal) (why : Refusal) → o ≡ Some why → o ≡ None → X
refuses_none o why is none = absurd (cc)

-- ---- the jobs of a statement

done_or : {D : Type 0} (disk : Ghosts D) (is : Running) (now : D) (a stopped : Answer) (why : Refusal) (done : Result Bool StoreFault) (Left : Type 0) → Refused why stopped
    → IfOk done (λ b. b ≡ false → (state : State) → IsState disk is now state → Left) → WhereDone disk is now (stopped_or a stopped done) Left
done_or disk is now a stopped why (Ok true) Left refused left = λ none. refuses_none stopped.refusal why refused.refusal none
done_or disk is now a stopped why (Ok false) Left refused left = λ none state here. left refl state here
done_or disk is now a stopped why (Err f) Left refused left = tt

pub jobs_worked : {D : Type 0} (disk : Ghosts D) (is : Running) (now : D) (a stopped : Answer) (why : Refusal) (done : Result Bool StoreFault) (result : Result Answer StoreFault) (Left : Type 0) → result ≡ stopped_or a stopped done → Refused why stopped
    → IfOk done (λ b. b ≡ false → (state : State) → IsState disk is now state → Left) → WhereDone disk is now result Left
jobs_worked disk is now a stopped why done result Left same refused left =
    subst (λ (r : Result Answer StoreFault). WhereDone disk is now r Left) (sym same) (done_or disk is now a stopped why done Left refused left)

left_always : {D : Type 0} (disk : Ghosts D) (is : Running) (now : D) (done : Result Bool StoreFault) (Left : Type 0) → IfOk done (λ b. b ≡ false → Left) → IfOk done (λ b. b ≡ false → (state : State) → IsState disk is now state → Left)
left_always disk is now (Ok b) Left left = λ all state here. left all
left_always disk is now (Err f) Left left = tt

pub all_merged : {D : Type 0} (disk : Ghosts D) (is : Running) (now : D) (a stopped : Answer) (why : Refusal) (done : Result Bool StoreFault) (result : Result Answer StoreFault) (Left : Type 0) → result ≡ stopped_or a stopped done → Refused why stopped
    → IfOk done (λ b. b ≡ false → Left) → WhereDone disk is now result Left
all_merged disk is now a stopped why done result Left same refused left = jobs_worked disk is now a stopped why done result Left same refused (left_always disk is now done Left left)

left_at : {D : Type 0} (disk : Ghosts D) (was is : Running) (now : D) (name : List ℕ) (place : ℕ) (done : Result Bool StoreFault) → IsSomeAnd (slice_get was.seen.catalogue.tables place) (λ t. t.name ≡ name)
    → IfOk done (λ b. b ≡ false → (state : State) (n : List ℕ) → IsState disk was now state → IsSomeAnd (slice_get was.seen.catalogue.tables place) (λ t. t.name ≡ n) → ArePurged place is)
    → IfOk done (λ b. b ≡ false → (state : State) → IsState disk was now state → IsPurged name was is)
left_at disk was is now name place (Ok b) named left = λ all state here. (place, named, left all state name here named)
left_at disk was is now name place (Err f) named left = tt

pub all_purged : {D : Type 0} (disk : Ghosts D) (was is : Running) (now : D) (name : List ℕ) (place : ℕ) (a stopped : Answer) (why : Refusal) (done : Result Bool StoreFault) (result : Result Answer StoreFault) → IsSomeAnd (slice_get was.seen.catalogue.tables place) (λ t. t.name ≡ name)
    → result ≡ stopped_or a stopped done → Refused why stopped
    → IfOk done (λ b. b ≡ false → (state : State) (n : List ℕ) → IsState disk was now state → IsSomeAnd (slice_get was.seen.catalogue.tables place) (λ t. t.name ≡ n) → ArePurged place is)
    → WhereDone disk was now result (IsPurged name was is)
all_purged disk was is now name place a stopped why done result named same refused left = jobs_worked disk was now a stopped why done result (IsPurged name was is) same refused (left_at disk was is now name place done named left)

-- ---- a statement

pub same_works : {D E : Type 0} (disk : Ghosts D) (was is : Running) (now : D) (s t : Statement) (result : Result Answer E) → s ≡ t → WhereDone disk was now result (Works t was is) → WhereDone disk was now result (Works s was is)
same_works disk was is now s t result same works = subst (λ (x : Statement). WhereDone disk was now result (Works x was is)) (sym same) works

done_anyway : {D E : Type 0} (disk : Ghosts D) (is : Running) (now : D) (result : Result Answer E) (Left : Type 0) → Left → WhereDone disk is now result Left
done_anyway disk is now (Ok a) Left left = λ none state here. left
done_anyway disk is now (Err e) Left left = tt

-- it has no such work
pub no_work : {D E : Type 0} (disk : Ghosts D) (was is : Running) (now : D) (s t : Statement) (result : Result Answer E) → s ≡ t → Works t was is → WhereDone disk was now result (Works s was is)
no_work disk was is now s t result same works = same_works disk was is now s t result same (done_anyway disk was now result (Works t was is) works)

-- ---- a refusal

refused_idle : {D E : Type 0} (disk : Ghosts D) (is : Running) (now : D) (r : Result Answer E) (why : Refusal) (Left : Type 0) → IfOk r (Refused why) → WhereDone disk is now r Left
refused_idle disk is now (Ok a) why Left refused = λ none. refuses_none a.refusal why refused.refusal none
refused_idle disk is now (Err e) why Left refused = tt

in_memory_done : {D E : Type 0} (disk : Ghosts D) (is : Running) (now : D) (r : Result Answer E) (Left : Type 0) → WhereDone disk is now r Left → WhereDone disk is now (of_memory r) Left
in_memory_done disk is now (Ok a) Left done = done
in_memory_done disk is now (Err e) Left done = tt

unplanned_done : {D E : Type 0} (disk : Ghosts D) (is : Running) (now : D) (fault : BindFault) (r : Result Answer E) (Left : Type 0) → IsUnplanned fault r → WhereDone disk is now r Left
unplanned_done disk is now (BindFault.Refused why) r Left unplanned = refused_idle disk is now r why Left unplanned
unplanned_done disk is now BindFault.Memory (Ok a) Left unplanned = absurd unplanned
unplanned_done disk is now BindFault.Memory (Err e) Left unplanned = tt

pub unplanned_idle : {D E : Type 0} (disk : Ghosts D) (is : Running) (now : D) (fault : BindFault) (r : Result Answer E) (result : Result Answer StoreFault) (Left : Type 0) → result ≡ of_memory r → IsUnplanned fault r → WhereDone disk is now result Left
unplanned_idle disk is now fault r result Left same unplanned =
    subst (λ (o : Result Answer StoreFault). WhereDone disk is now o Left) (sym same) (in_memory_done disk is now r Left (unplanned_done disk is now fault r Left unplanned))

-- ---- its text

of_text_done : {D : Type 0} (disk : Ghosts D) (is : Running) (now : D) (r : Result Answer StoreFault) (Left : Type 0) → WhereDone disk is now r Left → WhereDone disk is now (of_text r) Left
of_text_done disk is now (Ok a) Left done = done
of_text_done disk is now (Err f) Left done = tt

pub text_done : {D : Type 0} (disk : Ghosts D) (is : Running) (now : D) (r : Result Answer StoreFault) (result : Result Answer StepFault) (Left : Type 0) → result ≡ of_text r → WhereDone disk is now r Left → WhereDone disk is now result Left
text_done disk is now r result Left same done = subst (λ (o : Result Answer StepFault). WhereDone disk is now o Left) (sym same) (of_text_done disk is now r Left done)

pub wrong_idle : {D E : Type 0} (disk : Ghosts D) (is : Running) (now : D) (r : Result Answer E) (mid : Result Answer StoreFault) (result : Result Answer StepFault) (why : Refusal) (Left : Type 0) → result ≡ of_text mid → mid ≡ of_memory r → IfOk r (Refused why)
    → WhereDone disk is now result Left
wrong_idle disk is now r mid result why Left same was refused =
    text_done disk is now mid result Left same (subst (λ (o : Result Answer StoreFault). WhereDone disk is now o Left) (sym was) (in_memory_done disk is now r Left (refused_idle disk is now r why Left refused)))

-- a text says one statement at most
pub text_works : {D E : Type 0} (disk : Ghosts D) (was is : Running) (now : D) (text : List ℕ) (s : Statement) (result : Result Answer E) → ((ts : List Symbol) (s t : Statement) → Spells ts s → Spells ts t → s ≡ t) → Spells (symbols_of text) s
    → WhereDone disk was now result (Works s was is) → WhereDone disk was now result (WorksOf text was is)
text_works disk was is now text s (Ok a) one spelled done = λ none state here t other. subst (λ (x : Statement). Works x was is) (one (symbols_of text) s t spelled other) (done none state here)
text_works disk was is now text s (Err e) one spelled done = tt
