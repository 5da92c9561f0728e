-- A statement text that is run, and the mover's steps behind it.
use Rattle.std.proofs.Common.{ℕ, zero, suc, ◌+◌, ◌≡◌, ◌++◌, List, [], refl, sym, subst, arith}
use Rattle.std.specs.Prelude.{Option, Some, Result, Ok}
use Rattle.common_laws.specs.Told.{Appends}
use Rattle.col_disk.specs.declared.disk.Disk.{Ghosts}
use Rattle.sql_tree.specs.declared.refusal.Refusal.{Refusal}
use Rattle.vert_cli.specs.State.{State}
use Rattle.vert_cli.specs.Loading.{Files}
use Rattle.vert_cli.specs.Mover.{MoverSteps, MoverRuns}
use Rattle.vert_cli.specs.Step.{Step}
use Rattle.vert_cli.specs.Running.{Running, IsState}
use Rattle.vert_cli.specs.Forms.{is_served}
use Rattle.vert_cli.specs.declared.faults.Outcome.{Outcome}
use Rattle.vert_cli.specs.Statements.{Executed, MovedOn, refusal_in}
use Rattle.shell_run.specs.Answers.{Executes, Settles, Tells}

-- a sink that had taken nothing has taken exactly what is printed
taken_is : (before after : Option (List ℕ)) (bytes printed : List ℕ) → before ≡ Some [] → after ≡ Some bytes → Appends before after printed → printed ≡ bytes
taken_is before after bytes printed b a taken =
    let here : Appends (Some []) (Some bytes) printed =
    subst (λ (o : Option (List ℕ)). Appends (Some []) o printed) a (subst (λ (o : Option (List ℕ)). Appends o after printed) b taken) in
    sym here

pub executes : {D : Type 0} (disk : Ghosts D) (files : Files) (text : List ℕ) (is : Running) (old new : D) (outcome : Outcome) (why : Option Refusal) (state : State) (before after : Option (List ℕ)) (bytes : List ℕ)
    → before ≡ Some [] → after ≡ Some bytes → why ≡ refusal_in outcome → Executed disk files text is old new (Ok outcome) state before after → Executes disk files text is new state bytes why
executes disk files text is old new outcome why state before after bytes b a w executed =
    let done = executed.done in
    let answered = done.1 in
    let first : Step is_served state files text bytes (refusal_in outcome) done.0 =
    subst (λ (printed : List ℕ). Step is_served state files text printed (refusal_in outcome) done.0) (taken_is before after bytes answered.printed b a answered.taken) answered.step in
    record {
      next = done.0;
      step = subst (λ (r : Option Refusal). Step is_served state files text bytes r done.0) (sym w) first;
      stands = done.2;
    }

runs_suc : (n : ℕ) (old mid new : State) → MoverRuns n old mid → MoverSteps mid new → MoverRuns (suc n) old new
runs_suc zero old mid new runs steps = (new, subst (λ (s : State). MoverSteps s new) runs steps, refl)
runs_suc (suc n) old mid new (first, step, more) steps = (first, step, runs_suc n first mid new more steps)

pub settled : {D : Type 0} (disk : Ghosts D) (is : Running) (now : D) (state : State) → IsState disk is now state → Settles disk is now state
settled disk is now state here = record { moves = 0; next = state; runs = refl; stands = here }

-- one step of the mover more
pub settles_more : {D : Type 0} (disk : Ghosts D) (is : Running) (now new : D) (state mid : State) (moves : ℕ) (u : Unit {0}) → MoverRuns moves state mid → MovedOn disk 1 is now new (Ok u) mid → Settles disk is new state
settles_more disk is now new state mid moves u runs moved =
    let done = moved.done in
    let one = done.1 in
    record {
      moves = suc moves;
      next = done.0;
      runs = runs_suc moves state mid done.0 runs (subst (λ (s : State). MoverSteps mid s) (sym one.2) one.1);
      stands = done.2;
    }

-- a statement text, and the steps of the mover behind it
pub tells : {D : Type 0} (disk : Ghosts D) (files : Files) (text : List ℕ) (was is : Running) (mid now : D) (state : State) (printed : List ℕ) (why : Option Refusal) → (first : Executes disk files text was mid state printed why)
    → Settles disk is now first.next → Tells disk files text is now state printed why
tells disk files text was is mid now state printed why first settles = record { mid = first.next; step = first.step; settles = settles }
