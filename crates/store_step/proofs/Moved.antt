-- What the steps of the mover and moveouts come to.
use Rattle.std.proofs.Common.{Bool, inl, inr, [], true, false, refl, ap}
use Rattle.std.specs.Prelude.{None, Result, Ok, Err, codes}
use Rattle.common_laws.specs.Maps.{Contents}
use Rattle.col_disk.specs.Moved.{Leaves}
use Rattle.col_disk.specs.declared.disk.Disk.{Ghosts}
use Rattle.col_disk.specs.declared.disk.StoreFault.{StoreFault}
use Rattle.col_disk.specs.declared.disk.StoreFault.TheVariants as store
use Rattle.col_disk.proofs.Moving.{leaves_wider}
use Rattle.sql_tree.specs.declared.refusal.Refusal.{Refusal}
use Rattle.sql_tree.specs.declared.statement.Function.{Function}
use Rattle.sql_tree.specs.declared.statement.Statement.{Statement}
use Rattle.db_model.specs.State.{State}
use Rattle.db_model.specs.Sound.{IsSound}
use Rattle.db_model.specs.Epochs.{last_good}
use Rattle.db_model.specs.Loading.{Files}
use Rattle.db_model.specs.Mover.{MovesAll, MoverSteps}
use Rattle.db_model.specs.Run.{all_dropped}
use Rattle.db_laws.proofs.Goods.{good_itself, good_least, good_mover}
use Rattle.col_disk.specs.Faults as disk_faults
use Rattle.store_core.specs.Running.{Running, IsState}
use Rattle.store_core.specs.Cuts.{ReopensFrom, CutBeforeOrAfter}
use Rattle.store_core.specs.Events.{BeforeOrAfter}
use Rattle.store_core.specs.Moving.{MovesAllOf}
use Rattle.store_core.specs.Stepping.{MoverStepsOf}
use Rattle.store_step.specs.declared.answer.Answer.{Answer}
use Rattle.store_step.specs.Arms.{moved, stopped_or, told, Answers, IsAnswer, MayLeave}
use Rattle.col_disk.specs.Faults.{IsUnblamed as IsUnblamedStore}
use Rattle.store_step.specs.Steps.{EndedAs, Ends, MoverStepped}
use Rattle.store_step.specs.Texts.{Refused, Says}
use Rattle.store_step.proofs.Answered.{err_same, from_good, good_closed, refused_answer, says_answer}

-- the two definitions of a fault that blames no file
pub unblamed_here : (f : StoreFault) → disk_faults.IsUnblamed f → IsUnblamedStore f
unblamed_here store.Disk is = tt
unblamed_here (store.Damaged q) is = is
unblamed_here store.Memory is = tt

-- ---- a step of the mover

-- whatever a crash leaves of a step
step_leaves : {D : Type 0} (disk : Ghosts D) (r : Running) {old new : D} (state : State) → ((made : State) → MoverSteps state made → IsSound state → IsSound made) → IsState disk r old state → Leaves disk (BeforeOrAfter state (MoverSteps state)) old new
    → Leaves disk (CutBeforeOrAfter state (MoverSteps state)) old new
step_leaves disk r {old} state keeps here leaves = leaves_wider disk (λ x either. by x either) leaves
  where
    by : (x : Contents) → BeforeOrAfter state (MoverSteps state) x → CutBeforeOrAfter state (MoverSteps state) x
    by x (inl before) = inl (from_good state x here.sound.database before)
    by x (inr (made, steps, reopens)) = inr (
      made,
      steps,
      record {
        epoch = last_good made.database;
        from = good_least (last_good state.database) made.database (good_mover (last_good state.database) state made steps (good_itself state.database here.sound.database));
        closed = good_closed made.database (keeps made steps here.sound).database;
        reopens = reopens;
      },
    )

pub mover_stepped : {D : Type 0} (disk : Ghosts D) (was is : Running) {old new : D} (r : Result (Unit {0}) StoreFault) (state : State) → ((made : State) → MoverSteps state made → IsSound state → IsSound made) → IsState disk was old state → MoverStepsOf disk is old new r state
    → MoverStepped disk is old new r state
mover_stepped disk was is r state keeps here steps = record {
  done = steps.done;
  undone = steps.undone;
  unblamed = steps.unblamed;
  any_moment = step_leaves disk was state keeps here steps.any_moment;
}

-- ---- \step

stepped_wider : (files : Files) (state : State) (x : Contents) → CutBeforeOrAfter state (MoverSteps state) x → CutBeforeOrAfter state (MayLeave files Statement.Step state) x
stepped_wider files state x (inl before) = inl before
stepped_wider files state x (inr (new, steps, reopens)) = inr (new, inl ([], None, record { decided = refl; effect = (refl, steps) }), reopens)

pub step_answers : {D : Type 0} (disk : Ghosts D) (files : Files) (is : Running) {old new : D} (a : Answer) (r : Result (Unit {0}) StoreFault) (state : State) → Says [] a → MoverStepped disk is old new r state
    → Answers disk files Statement.Step is old new (told (λ fault. fault) a r) state
step_answers disk files is {old} {new} a (Ok u) state says stepped =
    let (after, steps, there) = stepped.done in
    record {
      done = (after, says_answer state files Statement.Step [] a after says (record { decided = refl; effect = (refl, steps) }), there);
      undone = λ wants. absurd (cc);
      unblamed = tt;
      any_moment = leaves_wider disk (λ x either. stepped_wider files state x either) stepped.any_moment;
    }
step_answers disk files is {old} {new} a (Err f) state says stepped = record {
  done = tt;
  undone = λ wants. (state, inl refl, stepped.undone (ap (λ (e : StoreFault). Err e) (err_same {X = Answer} f store.Memory wants)));
  unblamed = stepped.unblamed;
  any_moment = leaves_wider disk (λ x either. stepped_wider files state x either) stepped.any_moment;
}

-- ---- a moveout of all

abbrev pub moveout : Statement
moveout = Statement.Call Function.Moveout

moved_answer : (files : Files) (state after : State) (a : Answer) → Says (codes "MOVEOUT\n") a → MovesAll state false after → IsAnswer state files moveout a.text.items a.refusal after
moved_answer files state after a says moves = says_answer state files moveout (codes "MOVEOUT\n") a after says (record { decided = (false, after, moves, refl); effect = (refl, moves) })

stopped_answer : (files : Files) (state after : State) (a : Answer) → Refused Refusal.NumbersSpent a → MovesAll state true after → IsAnswer state files moveout a.text.items a.refusal after
stopped_answer files state after a refused moves = refused_answer state files moveout Refusal.NumbersSpent a after refused (true, after, moves, refl) (inr moves)

all_leaves : {D : Type 0} (disk : Ghosts D) {old new : D} (state : State) (After : State → Type 0) → Leaves disk (ReopensFrom (last_good state.database) state) old new → Leaves disk (CutBeforeOrAfter state After) old new
all_leaves disk state After leaves = leaves_wider disk (λ x reopens. inl reopens) leaves

pub moveout_answers : {D : Type 0} (disk : Ghosts D) (files : Files) (is : Running) {old new : D} (a stopped : Answer) (r : Result Bool StoreFault) (state : State) → Says (codes "MOVEOUT\n") a → Refused Refusal.NumbersSpent stopped → MovesAllOf disk is old new r state
    → Answers disk files moveout is old new (stopped_or a stopped r) state
moveout_answers disk files is {old} {new} a stopped (Ok true) state says refused all =
    let (after, moves, there) = all.done in
    record {
      done = (after, stopped_answer files state after stopped refused moves, there);
      undone = λ wants. absurd (cc);
      unblamed = tt;
      any_moment = all_leaves disk state (MayLeave files moveout state) all.any_moment;
    }
moveout_answers disk files is {old} {new} a stopped (Ok false) state says refused all =
    let (after, moves, there) = all.done in
    record {
      done = (after, moved_answer files state after a says moves, there);
      undone = λ wants. absurd (cc);
      unblamed = tt;
      any_moment = all_leaves disk state (MayLeave files moveout state) all.any_moment;
    }
moveout_answers disk files is {old} {new} a stopped (Err f) state says refused all = record {
  done = tt;
  undone = λ wants. all.undone (ap (λ (e : StoreFault). Err e) (err_same {X = Answer} f store.Memory wants));
  unblamed = unblamed_here f all.unblamed;
  any_moment = all_leaves disk state (MayLeave files moveout state) all.any_moment;
}

-- ---- the end of a script

dropped_from : (state : State) (x : Contents) → ReopensFrom (last_good (all_dropped state).database) (all_dropped state) x → ReopensFrom (last_good state.database) state x
dropped_from state x from = record { epoch = from.epoch; from = from.from; closed = from.closed; reopens = from.reopens }

end_leaves : {D : Type 0} (disk : Ghosts D) {old new : D} (state : State) → Leaves disk (ReopensFrom (last_good (all_dropped state).database) (all_dropped state)) old new → Leaves disk (CutBeforeOrAfter state (EndedAs state)) old new
end_leaves disk state leaves = leaves_wider disk (λ x reopens. inl (dropped_from state x reopens)) leaves

pub end_ends : {D : Type 0} (disk : Ghosts D) (is : Running) {old new : D} (r : Result Bool StoreFault) (state : State) → MovesAllOf disk is old new r (all_dropped state) → Ends disk is old new (moved r) state
end_ends disk is {old} {new} (Ok b) state all =
    let (after, moves, there) = all.done in
    record { done = (after, (b, moves), there); undone = λ wants. absurd (cc); unblamed = tt; any_moment = end_leaves disk state all.any_moment }
end_ends disk is {old} {new} (Err f) state all = record {
  done = tt;
  undone = λ wants. all.undone (ap (λ (e : StoreFault). Err e) (err_same {X = Unit {0}} f store.Memory wants));
  unblamed = unblamed_here f all.unblamed;
  any_moment = end_leaves disk state all.any_moment;
}
