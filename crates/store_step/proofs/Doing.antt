-- The statements that call the disk.
use Rattle.std.proofs.Common.{◌≡◌, ℕ, suc, ◌+◌, inl, inr, List, [], ◌∷◌, Bool, true, false, cond, map, refl, sym, subst, ap₂, arith}
use Rattle.std.specs.Prelude.{Option, Some, None, Result, Ok, Err, IfOk, IfErr, OnOk, IsErrOf, IsSomeAnd, option_map, find, bytes_eq, codes}
use Rattle.std.specs.List.{slice_get, enumerate_from}
use Rattle.std.proofs.lemmas.Slice.Eq.{bytes_eq-Decides}
use Rattle.common_laws.specs.Causes.{HasCause}
use Rattle.col_disk.specs.Moved.{Leaves}
use Rattle.col_disk.specs.declared.disk.Disk.{Ghosts}
use Rattle.col_disk.specs.declared.disk.DiskFault.{DiskFault}
use Rattle.col_disk.specs.declared.disk.DiskFault.TheVariants as disk
use Rattle.col_disk.specs.declared.disk.StoreFault.{StoreFault}
use Rattle.col_disk.specs.declared.disk.StoreFault.TheVariants as store
use Rattle.col_disk.specs.Faults.{store_fault}
use Rattle.col_disk.proofs.Moving.{leaves_wider}
use Rattle.col_value.specs.declared.column.Column.{Column}
use Rattle.col_value.specs.declared.wide.Wide.{Wide}
use Rattle.catalog_types.specs.declared.catalogue.Table as kept
use Rattle.sql_tree.specs.declared.query.At.{At}
use Rattle.sql_tree.specs.declared.query.Query.{Query}
use Rattle.sql_tree.specs.declared.refusal.Refusal.{Refusal}
use Rattle.sql_tree.specs.declared.statement.AddColumn.{AddColumn}
use Rattle.sql_tree.specs.declared.statement.NewProjection.{NewProjection}
use Rattle.sql_tree.specs.declared.statement.Statement.{Statement}
use Rattle.sql_bound.specs.declared.query.BoundQuery.{BoundQuery}
use Rattle.sql_bound.specs.Outputs.{IsSumTooGreat}
use Rattle.db_model.specs.Answers.{commit_line, listing_text}
use Rattle.db_model.specs.Database.{Table}
use Rattle.db_model.specs.State.{State, own_changes, has_changes}
use Rattle.db_model.specs.Sound.{IsSound, IsSoundDatabase}
use Rattle.db_model.specs.Epochs.{last_good, cut}
use Rattle.db_model.specs.Events.{table_created, table_dropped, projection_created, projection_dropped, column_added, changes_committed}
use Rattle.db_model.specs.Loading.{Files}
use Rattle.db_model.specs.Numbers.{IsDrawn}
use Rattle.db_model.specs.Printing.{commit_text, IsListing}
use Rattle.db_model.specs.Refusals.{query_refusal_in, table_created_refusal, table_dropped_refusal, projection_created_refusal, projection_dropped_refusal, column_added_refusal, SumRefuses, SelectRefuses}
use Rattle.db_model.specs.Refusing.{commit_refusal, epoch_refusal}
use Rattle.db_model.specs.Views.{bound_in, inputs}
use Rattle.db_laws.proofs.Goods.{IsGood, good_itself, good_created, good_dropped, good_projected, good_bared, good_widened, good_committed, good_drawn}
use Rattle.folder_model.specs.Reopening.{Reopens}
use Rattle.statement_plan.specs.Bare.{bare_table}
use Rattle.statement_plan.specs.Places.{table_place}
use Rattle.statement_plan.specs.Planned.{select_refusal, IsBoundIn}
use Rattle.col_disk.specs.Faults as disk_faults
use Rattle.store_core.specs.Seen.{Stands}
use Rattle.store_core.specs.Asking.{IsAsked}
use Rattle.alike_laws.proofs.Changes.{has_alike}
use Rattle.store_core.proofs.Doing.{work_kept}
use Rattle.store_core.proofs.Sessions.{own_alike}
use Rattle.store_core.specs.Running.{Running, IsState}
use Rattle.store_core.specs.Sessions.{own_of}
use Rattle.store_core.specs.Cuts.{CutBeforeOrAfter}
use Rattle.store_core.specs.SelectFault.{SelectFault}
use Rattle.store_core.specs.SelectFault.TheVariants as select
use Rattle.store_core.specs.Faults.{IsUnblamed}
use Rattle.store_step.specs.declared.answer.Answer.{Answer}
use Rattle.store_step.specs.Arms.{told, Answers, IsAnswer, MayLeave}
use Rattle.col_disk.specs.Faults.{IsUnblamed as IsUnblamedStore}
use Rattle.store_step.specs.Texts.{IsMade, IsMissed, Refused, Says}
use Rattle.store_step.proofs.Held.{second_none}
use Rattle.store_step.proofs.Moved.{unblamed_here}
use Rattle.store_step.proofs.Answered.{from_good, refused_answer, says_answer, Event, ShortBy}

-- ---- CREATE TABLE and DROP TABLE

pub created_event : (state : State) (files : Files) (name : List ℕ) (columns : List Column) → table_created_refusal state name columns ≡ None → IsSound state → IsSound (table_created name columns state) → ((old made new : State) → IsDrawn old made new → IsSound made → IsSound new)
    → Event state files (Statement.CreateTable name columns) (codes "CREATE TABLE\n") (IsDrawn state (table_created name columns state))
created_event state files name columns accepted sound made draw = record {
  answer = λ new drawn. record { decided = sym accepted; effect = (refl, drawn) };
  sound = λ new drawn. (draw state (table_created name columns state) new drawn made).database;
  good = λ new drawn. good_drawn (last_good state.database) state (table_created name columns state) new drawn (good_created (last_good state.database) name columns state (good_itself state.database sound.database));
}

pub dropped_event : (state : State) (files : Files) (name : List ℕ) → table_dropped_refusal state name ≡ None → IsSound state → IsSound (table_dropped name state) → ((old made new : State) → IsDrawn old made new → IsSound made → IsSound new)
    → Event state files (Statement.DropTable name) (codes "DROP TABLE\n") (IsDrawn state (table_dropped name state))
dropped_event state files name accepted sound made draw = record {
  answer = λ new drawn. record { decided = sym accepted; effect = (refl, drawn) };
  sound = λ new drawn. (draw state (table_dropped name state) new drawn made).database;
  good = λ new drawn. good_drawn (last_good state.database) state (table_dropped name state) new drawn (good_dropped (last_good state.database) name state (good_itself state.database sound.database));
}

-- ---- CREATE PROJECTION and DROP PROJECTION

pub projected_event : (state : State) (files : Files) (p : NewProjection) → projection_created_refusal state p ≡ None → IsSound state → IsSound (projection_created p state) → ((old made new : State) → IsDrawn old made new → IsSound made → IsSound new)
    → Event state files (Statement.CreateProjection p) (codes "CREATE PROJECTION\n") (IsDrawn state (projection_created p state))
projected_event state files p accepted sound made draw = record {
  answer = λ new drawn. record { decided = sym accepted; effect = (refl, drawn) };
  sound = λ new drawn. (draw state (projection_created p state) new drawn made).database;
  good = λ new drawn. good_drawn (last_good state.database) state (projection_created p state) new drawn (good_projected (last_good state.database) p state (good_itself state.database sound.database));
}

pub bared_event : (state : State) (files : Files) (name : List ℕ) → projection_dropped_refusal state name ≡ None → IsSound state → IsSound (projection_dropped name state) → ((old made new : State) → IsDrawn old made new → IsSound made → IsSound new)
    → Event state files (Statement.DropProjection name) (codes "DROP PROJECTION\n") (IsDrawn state (projection_dropped name state))
bared_event state files name accepted sound made draw = record {
  answer = λ new drawn. record { decided = sym accepted; effect = (refl, drawn) };
  sound = λ new drawn. (draw state (projection_dropped name state) new drawn made).database;
  good = λ new drawn. good_drawn (last_good state.database) state (projection_dropped name state) new drawn (good_bared (last_good state.database) name state (good_itself state.database sound.database));
}

pub added_event : (state : State) (files : Files) (a : AddColumn) → column_added_refusal state a ≡ None → IsSound state → IsSound (column_added a state) → ((old made new : State) → IsDrawn old made new → IsSound made → IsSound new)
    → Event state files (Statement.AddColumn a) (codes "ALTER TABLE\n") (IsDrawn state (column_added a state))
added_event state files a accepted sound made draw = record {
  answer = λ new drawn. record { decided = sym accepted; effect = (refl, drawn) };
  sound = λ new drawn. (draw state (column_added a state) new drawn made).database;
  good = λ new drawn. good_drawn (last_good state.database) state (column_added a state) new drawn (good_widened (last_good state.database) a state (good_itself state.database sound.database));
}

-- where the table of a name stands
found_at : (name : List ℕ) (i : ℕ) (ts : List kept.Table) (place : ℕ) → option_map (λ (e : ℕ × Table). e.0) (find (λ (e : ℕ × Table). bytes_eq e.1.name name) (enumerate_from i (map bare_table ts))) ≡ Some place
    → (k : ℕ) × (place ≡ i + k) × IsSomeAnd (slice_get ts k) (λ t. t.name ≡ name)
found_at name i [] place is = absurd (cc)
found_at name i (t ∷ ts) place is = by (bytes_eq t.name name) refl (found_at name (i + 1) ts place) is
  where
    Rest : Type 0
    Rest = option_map (λ (e : ℕ × Table). e.0) (find (λ (e : ℕ × Table). bytes_eq e.1.name name) (enumerate_from (i + 1) (map bare_table ts))) ≡ Some place

    by : (b : Bool) → bytes_eq t.name name ≡ b → (Rest → (k : ℕ) × (place ≡ (i + 1) + k) × IsSomeAnd (slice_get ts k) (λ u. u.name ≡ name))
        → option_map (λ (e : ℕ × Table). e.0) (cond b (Some (i, bare_table t)) (find (λ (e : ℕ × Table). bytes_eq e.1.name name) (enumerate_from (i + 1) (map bare_table ts)))) ≡ Some place
        → (k : ℕ) × (place ≡ i + k) × IsSomeAnd (slice_get (t ∷ ts) k) (λ u. u.name ≡ name)
    by true here more at =
        let same : i ≡ place = cc in
        (0, omega (arith, same), (bytes_eq-Decides t.name name).0 here)
    by false here more at = let (k, there, named) = more at in (suc k, omega (arith, there), named)

pub stands_at : (name : List ℕ) (ts : List kept.Table) (place : ℕ) → table_place name (map bare_table ts) ≡ Some place → IsSomeAnd (slice_get ts place) (λ t. t.name ≡ name)
stands_at name ts place is =
    let (k, at, there) = found_at name 0 ts place is in
    let same : k ≡ place = omega (arith, at) in
    subst (λ (n : ℕ). IsSomeAnd (slice_get ts n) (λ t. t.name ≡ name)) same there

-- ---- COMMIT

-- what a COMMIT prints over a store
pub commit_says : {D : Type 0} (disk : Ghosts D) (r : Running) (now : D) (state : State) (a : Answer) → IsState disk r now state → Says (cond (has_changes (own_of r)) (commit_line (r.seen.catalogue.last + 1)) (codes "COMMIT\n")) a → Says (commit_text state) a
commit_says disk r now state a here says =
    let has : has_changes (own_of r) ≡ has_changes (own_changes state) = has_alike (own_of r) (own_changes state) (own_alike disk r now state here) in
    let last : r.seen.catalogue.last ≡ state.database.last = sym here.database.are.last in
    subst (λ (t : List ℕ). Says t a) (ap₂ (λ (b : Bool) (n : ℕ). cond b (commit_line (n + 1)) (codes "COMMIT\n")) has last) says

pub committed_event : (state : State) (files : Files) → commit_refusal state ≡ None → IsSound state → IsSound (changes_committed state) → Event state files Statement.Commit (commit_text state) (λ new. new ≡ changes_committed state)
committed_event state files accepted sound made = record {
  answer = λ new same. record { decided = sym accepted; effect = (refl, same) };
  sound = λ new same. subst (λ (s : State). IsSoundDatabase s.database) (sym same) made.database;
  good = λ new same. subst (λ (s : State). IsGood (last_good state.database) s.database) (sym same) (good_committed (last_good state.database) state (good_itself state.database sound.database));
}

-- ---- SELECT

-- a SELECT that isn't refused for what it says is asked in the state
pub asked_in : (state : State) (at : At) (q : Query) (b : BoundQuery) → IsBoundIn state q b → select_refusal state at q ≡ None → IsAsked state at q b
asked_in state at q b bound accepted = record { tree = bound.tree; epoch = second_none (query_refusal_in state q) (epoch_refusal state.database.ahm state.database.last at) accepted }

refuses : (state : State) (at : At) (q : Query) (why : Option Refusal) → select_refusal state at q ≡ None → SumRefuses None (bound_in state q) (inputs at state q) why → SelectRefuses state at q why
refuses state at q why accepted is = subst (λ (o : Option Refusal). SumRefuses o (bound_in state q) (inputs at state q) why) (sym accepted) is

-- the disk was looked at, and no answer was made
failed_answers : {D : Type 0} (disk : Ghosts D) (files : Files) (s : Statement) (is : Running) {old new : D} (f : StoreFault) (state : State) → IsUnblamedStore f → IsState disk is new state → Leaves disk (CutBeforeOrAfter state (MayLeave files s state)) old new
    → Answers disk files s is old new (Err f) state
failed_answers disk files s is f state unblamed there moments = record { done = tt; undone = λ wants. (state, inl refl, there); unblamed = unblamed; any_moment = moments }

made_answers : {D : Type 0} (disk : Ghosts D) (files : Files) (s : Statement) (is : Running) {old new : D} (result : Result Answer StoreFault) (state : State) (Is : Answer → Type 0) → IsMade Is result → ((a : Answer) → Is a → IsAnswer state files s a.text.items a.refusal state)
    → IsState disk is new state → Leaves disk (CutBeforeOrAfter state (MayLeave files s state)) old new → Answers disk files s is old new result state
made_answers disk files s is (Ok a) state Is made answer there moments = record { done = (state, answer a made, there); undone = λ wants. absurd (cc); unblamed = tt; any_moment = moments }
made_answers disk files s is (Err f) state Is made answer there moments = failed_answers disk files s is f state (subst IsUnblamedStore (sym made) tt) there moments

pub select_answers : {D V : Type 0} (disk : Ghosts D) (is : Running) {old new : D} (of : V → List (List Wide)) (r : Result V SelectFault) (result : Result Answer StoreFault) (state : State) (files : Files) (at : At) (q : Query) → select_refusal state at q ≡ None → IsSoundDatabase state.database
    → IsState disk is new state → Leaves disk (λ x. Reopens x (cut (last_good state.database) state.database)) old new → IfOk r (λ v. IsListing state at q (of v)) → OnOk r (IsSumTooGreat (bound_in state q) (inputs at state q) → ⊥)
    → (IsErrOf r select.SumOutOfRange → IsSumTooGreat (bound_in state q) (inputs at state q)) → IfErr r IsUnblamed → IfOk r (λ v. IsMade (Says (listing_text (of v))) result) → IfErr r (λ f. IsMissed f result)
    → Answers disk files (Statement.Select at q) is old new result state
select_answers {D} {V} disk is {old} {new} of r result state files at q accepted sound there leaves = by r
  where
    s : Statement
    s = Statement.Select at q

    moments : Leaves disk (CutBeforeOrAfter state (MayLeave files s state)) old new
    moments = leaves_wider disk (λ x reopens. inl (from_good state x sound reopens)) leaves

    by : (o : Result V SelectFault) → IfOk o (λ v. IsListing state at q (of v)) → OnOk o (IsSumTooGreat (bound_in state q) (inputs at state q) → ⊥) → (IsErrOf o select.SumOutOfRange → IsSumTooGreat (bound_in state q) (inputs at state q)) → IfErr o IsUnblamed
        → IfOk o (λ v. IsMade (Says (listing_text (of v))) result) → IfErr o (λ f. IsMissed f result) → Answers disk files s is old new result state
    by (Ok v) listed small great unblamed made missed =
        made_answers disk files s is result state (Says (listing_text (of v))) made (λ a says. says_answer state files s (listing_text (of v)) a state says
        (record { decided = refuses state at q None accepted (inr (small, refl)); effect = ((of v, listed, refl), refl) })) there moments
    by (Err select.SumOutOfRange) listed small great unblamed made missed =
        made_answers disk files s is result state (Refused Refusal.SumOutOfRange) missed (λ a refused. refused_answer state files s Refusal.SumOutOfRange a state refused (refuses state at q (Some Refusal.SumOutOfRange) accepted (inl (great refl, refl))) refl) there moments
    by (Err select.Disk) listed small great unblamed made missed = subst (λ (o : Result Answer StoreFault). Answers disk files s is old new o state) (sym missed) (failed_answers disk files s is store.Disk state tt there moments)
    by (Err (select.Damaged q)) listed small great unblamed made missed = absurd unblamed
    by (Err select.Memory) listed small great unblamed made missed = subst (λ (o : Result Answer StoreFault). Answers disk files s is old new o state) (sym missed) (failed_answers disk files s is store.Memory state tt there moments)

-- ---- faults

pub disk_short : ShortBy store_fault disk.Memory
disk_short disk.Failed is = absurd (cc)
disk_short disk.Memory is = refl

pub disk_unblamed : (did : Result (Unit {0}) DiskFault) → IfErr did (λ f. IsUnblamedStore (store_fault f))
disk_unblamed (Ok u) = tt
disk_unblamed (Err disk.Failed) = tt
disk_unblamed (Err disk.Memory) = tt

pub store_short : ShortBy (λ (f : StoreFault). f) store.Memory
store_short f is = is

pub store_unblamed : (did : Result (Unit {0}) StoreFault) → IfErr did disk_faults.IsUnblamed → IfErr did (λ (f : StoreFault). IsUnblamedStore f)
store_unblamed (Ok u) is = tt
store_unblamed (Err f) is = unblamed_here f is

-- the same counts of faults, by the fault of a statement
pub disk_cause : (a : Answer) (did : Result (Unit {0}) DiskFault) (before now : ℕ) → HasCause disk.Failed before now did → HasCause store.Disk before now (told store_fault a did)
disk_cause a (Ok u) before now cause = record { later = cause.later; failed = λ is. absurd (cc) }
disk_cause a (Err disk.Failed) before now cause = record { later = cause.later; failed = λ is. cause.failed refl }
disk_cause a (Err disk.Memory) before now cause = record { later = cause.later; failed = λ is. absurd (cc) }

pub store_cause : (a : Answer) (did : Result (Unit {0}) StoreFault) (before now : ℕ) → HasCause store.Disk before now did → HasCause store.Disk before now (told (λ f. f) a did)
store_cause a (Ok u) before now cause = record { later = cause.later; failed = λ is. absurd (cc) }
store_cause a (Err store.Disk) before now cause = record { later = cause.later; failed = λ is. cause.failed refl }
store_cause a (Err (store.Damaged q)) before now cause = record { later = cause.later; failed = λ is. absurd (cc) }
store_cause a (Err store.Memory) before now cause = record { later = cause.later; failed = λ is. absurd (cc) }

-- the store is the state on, over a disk with the same files on which it stands on for the database
pub stays_state : {D : Type 0} (disk : Ghosts D) (r : Running) (old new : D) (state : State) → IsState disk r old state → Stands disk r.seen new state.database → disk.holds new ≡ disk.holds old → IsState disk r new state
stays_state disk r old new state here stands kept = record {
  database = stands;
  sessions = here.sessions;
  current = here.current;
  asked = here.asked;
  next = here.next;
  busy = here.busy;
  parts = here.parts;
  work = work_kept disk r.mover.work old new kept here.work;
  sound = here.sound;
}
