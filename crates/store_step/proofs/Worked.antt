-- What the jobs of MERGEOUT, PURGE_TABLE and REFRESH come to.
use Rattle.std.proofs.Common.{◌≡◌, ℕ, inl, inr, Bool, true, false, List, refl, ap}
use Rattle.std.specs.Prelude.{Option, Some, None, Result, Ok, Err, codes}
use Rattle.common_laws.specs.Maps.{Contents}
use Rattle.col_disk.specs.declared.disk.Disk.{Ghosts}
use Rattle.col_disk.specs.declared.disk.StoreFault.{StoreFault}
use Rattle.col_disk.specs.declared.disk.StoreFault.TheVariants as store
use Rattle.col_disk.proofs.Moving.{leaves_wider}
use Rattle.sql_tree.specs.declared.refusal.Refusal.{Refusal}
use Rattle.sql_tree.specs.declared.statement.Function.{Function}
use Rattle.sql_tree.specs.declared.statement.Statement.{Statement}
use Rattle.db_model.specs.Database.{Shape}
use Rattle.db_model.specs.Epochs.{last_good}
use Rattle.db_model.specs.Loading.{Files}
use Rattle.db_model.specs.Mover.{RaisesAll, RaisesOne, RefreshesAll}
use Rattle.db_model.specs.Refusals.{unknown_table_refusal, JobsRefuse, TableJobsRefuse}
use Rattle.db_model.specs.State.{State}
use Rattle.store_core.specs.Cuts.{CutBeforeOrAfter, ReopensFrom}
use Rattle.store_core.specs.Jobs.{is_of, AreDone, JobsOf, RaisesAllOf, RefreshesAllOf, RefreshesOne}
use Rattle.store_core.specs.Running.{Running}
use Rattle.store_step.specs.declared.answer.Answer.{Answer}
use Rattle.store_step.specs.Arms.{stopped_or, Answers, IsAnswer, MayLeave, PartlyDone}
use Rattle.store_step.specs.Texts.{Refused, Says}
use Rattle.store_step.proofs.Answered.{err_same, refused_answer, says_answer}

-- all jobs were done, or they stopped where the numbers are spent
record Job (files : Files) (s : Statement) (state : State) (All : Bool → State → Type 0) (a stopped : Answer) : Type 0 where
  pub made : (after : State) → All false after → IsAnswer state files s a.text.items a.refusal after
  pub part : (after : State) → All true after → IsAnswer state files s stopped.text.items stopped.refusal after

jobs_answers : {D : Type 0} (disk : Ghosts D) (files : Files) (s : Statement) (One : State → State → Type 0) (All : Bool → State → Type 0) (Leave : Contents → Type 0) (is : Running) {old new : D} (a stopped : Answer) (r : Result Bool StoreFault) (state : State) → Job files s state All a stopped
    → ((after : State) → AreDone One state after → PartlyDone s state after) → ((x : Contents) → Leave x → CutBeforeOrAfter state (MayLeave files s state) x) → JobsOf disk One All Leave is old new r state → Answers disk files s is old new (stopped_or a stopped r) state
jobs_answers disk files s One All Leave is {old} {new} a stopped (Ok true) state job kept left jobs =
    let (after, all, there) = jobs.done in
    record { done = (after, job.part after all, there); undone = λ wants. absurd (cc); unblamed = tt; any_moment = leaves_wider disk left jobs.any_moment }
jobs_answers disk files s One All Leave is {old} {new} a stopped (Ok false) state job kept left jobs =
    let (after, all, there) = jobs.done in
    record { done = (after, job.made after all, there); undone = λ wants. absurd (cc); unblamed = tt; any_moment = leaves_wider disk left jobs.any_moment }
jobs_answers disk files s One All Leave is {old} {new} a stopped (Err f) state job kept left jobs = record {
  done = tt;
  undone = λ wants.
      let (after, done, there) = jobs.undone (ap (λ (e : StoreFault). Err e) (err_same {X = Answer} f store.Memory wants)) in
      (after, inr (kept after done), there);
  unblamed = jobs.unblamed;
  any_moment = leaves_wider disk left jobs.any_moment;
}

-- ---- MERGEOUT

abbrev pub merged : Statement
merged = Statement.Call Function.Mergeout

abbrev any_shape : Shape → Bool
any_shape s = true

pub mergeout_answers : {D : Type 0} (disk : Ghosts D) (files : Files) (is : Running) {old new : D} (a stopped : Answer) (r : Result Bool StoreFault) (state : State) → Says (codes "MERGEOUT\n") a → Refused Refusal.NumbersSpent stopped → RaisesAllOf disk any_shape is old new r state
    → Answers disk files merged is old new (stopped_or a stopped r) state
mergeout_answers disk files is a stopped r state says refused jobs =
    jobs_answers disk files merged (RaisesOne any_shape) (RaisesAll any_shape state) (ReopensFrom (last_good state.database) state) is a stopped r state
    (record {
      made = λ after all. says_answer state files merged (codes "MERGEOUT\n") a after says (record { decided = (false, after, all, refl); effect = (refl, all) });
      part = λ after all. refused_answer state files merged Refusal.NumbersSpent stopped after refused (true, after, all, refl) (inr all);
    }) (λ after done. done) (λ x reopens. inl reopens) jobs

-- ---- PURGE_TABLE

abbrev pub purged : List ℕ → Statement
purged name = Statement.Call (Function.Purge name)

of_table : (o : Option Refusal) (Run : Bool → State → Type 0) (why : Option Refusal) → o ≡ None → JobsRefuse Run why → TableJobsRefuse o Run why
of_table None Run why is refuses = refuses
of_table (Some x) Run why is refuses = absurd (cc)

pub purge_answers : {D : Type 0} (disk : Ghosts D) (files : Files) (name : List ℕ) (is : Running) {old new : D} (a stopped : Answer) (r : Result Bool StoreFault) (state : State) → unknown_table_refusal state name ≡ None → Says (codes "PURGE\n") a → Refused Refusal.NumbersSpent stopped
    → RaisesAllOf disk (is_of name state) is old new r state → Answers disk files (purged name) is old new (stopped_or a stopped r) state
purge_answers disk files name is a stopped r state known says refused jobs =
    jobs_answers disk files (purged name) (RaisesOne (is_of name state)) (RaisesAll (is_of name state) state) (ReopensFrom (last_good state.database) state) is a stopped r state
    (record {
      made = λ after all. says_answer state files (purged name) (codes "PURGE\n") a after says
          (record { decided = of_table (unknown_table_refusal state name) (RaisesAll (is_of name state) state) None known (false, after, all, refl); effect = (refl, all) });
      part = λ after all. refused_answer state files (purged name) Refusal.NumbersSpent stopped after refused
          (of_table (unknown_table_refusal state name) (RaisesAll (is_of name state) state) (Some Refusal.NumbersSpent) known (true, after, all, refl)) (inr all);
    }) (λ after done. done) (λ x reopens. inl reopens) jobs

-- ---- REFRESH

abbrev pub refreshed : List ℕ → Statement
refreshed name = Statement.Call (Function.Refresh name)

pub refresh_answers : {D : Type 0} (disk : Ghosts D) (files : Files) (name : List ℕ) (is : Running) {old new : D} (a stopped : Answer) (r : Result Bool StoreFault) (state : State) → unknown_table_refusal state name ≡ None → Says (codes "REFRESH\n") a → Refused Refusal.NumbersSpent stopped
    → RefreshesAllOf disk name is old new r state → Answers disk files (refreshed name) is old new (stopped_or a stopped r) state
refresh_answers disk files name is a stopped r state known says refused jobs =
    jobs_answers disk files (refreshed name) (RefreshesOne name) (RefreshesAll name state) (λ x. (after : State) × AreDone (RefreshesOne name) state after × ReopensFrom (last_good state.database) after x) is a stopped r state
    (record {
      made = λ after all. says_answer state files (refreshed name) (codes "REFRESH\n") a after says
          (record { decided = of_table (unknown_table_refusal state name) (RefreshesAll name state) None known (false, after, all, refl); effect = (refl, all) });
      part = λ after all. refused_answer state files (refreshed name) Refusal.NumbersSpent stopped after refused
          (of_table (unknown_table_refusal state name) (RefreshesAll name state) (Some Refusal.NumbersSpent) known (true, after, all, refl)) (inr all);
    }) (λ after done. done) (λ x left. inr (left.0, inr left.1, left.2)) jobs
