-- How a run of statement texts over the tables of a folder ends, and what a crash leaves of it.
use Rattle.std.proofs.Common.{ℕ, ◌+◌, ◌<◌, ◌≤◌, ◌≡◌, ◌||◌, inl, inr, Bool, true, false, List, take, drop, map, length, get_or, sym, subst, refl, arith}
use Rattle.std.specs.Prelude.{Option, Some, Result, Ok, Err}
use Rattle.std.proofs.lemmas.List.{take_all, drop_all, length-map}
use Rattle.common_laws.specs.Maps.{Contents}
use Rattle.common_laws.specs.Told.{Appends}
use Rattle.col_disk.specs.Moved.{Leaves}
use Rattle.col_disk.specs.declared.disk.Disk.{Ghosts}
use Rattle.col_disk.specs.declared.disk.StoreFault.{StoreFault}
use Rattle.col_disk.proofs.Moving.{leaves_join, leaves_wider}
use Rattle.db_model.specs.Database.{Database}
use Rattle.db_model.specs.State.{State, opened_with}
use Rattle.db_model.specs.Loading.{Files}
use Rattle.db_model.specs.Run.{Setting, RunTexts, EndsUnless}
use Rattle.store_step.specs.Running.{Running, IsState}
use Rattle.store_step.specs.Cuts.{CutBeforeOrAfter}
use Rattle.store_step.specs.Opening.{BlamesOpening, IsStartOf, IsStill}
use Rattle.store_step.proofs.Unblamed.{reopening_unblamed}
use Rattle.store_step.specs.Steps.{EndedAs, Ends}
use Rattle.vert_cli.specs.declared.faults.RunFault.{RunFault}
use Rattle.vert_cli.specs.Statements.{fault_of}
use Rattle.vert_cli.specs.Statuses.{status_of, status_of_run}
use Rattle.vert_cli.specs.Runs.{setting_of, StopsInEnd, StopsInNext, RanAndStopped, CutInText, TakesMore, IsOnTheWay, RanText, RanTexts}
use Rattle.vert_cli.specs.Ends.{IsOpenable, IsStart, RunEnds, RunLeaves}
use Rattle.vert_cli.proofs.Taking.{first_all, first_more}
use Rattle.vert_cli.proofs.Cuts.{leaves_still, left_now, images_from, images_reopen, on_the_way, on_the_way_still, begun, ended}
use Rattle.vert_cli.proofs.Running.{RanWhole, whole_none, whole_next, stopped_next, rest_is}

-- ---- the texts of a script, one after the other

-- the first of these texts ran
pub record RanSoFar {D : Type 0} (disk : Ghosts D) (setting : Setting) (texts : List (List ℕ)) (count : ℕ) (is : Running) (old now : D) (start : State) (refused : Bool) (before after : Option (List ℕ)) : Type 0 where
  pub mid : State
  pub whole : RanWhole setting start (take count texts) refused mid before after
  pub stands : IsState disk is now mid
  pub any_moment : Leaves disk (IsOnTheWay setting start texts before after) old now

pub so_far_none : {D : Type 0} (disk : Ghosts D) (setting : Setting) (texts : List (List ℕ)) (is : Running) (now : D) (start : State) (told : Option (List ℕ))
    → IsState disk is now start → RanSoFar disk setting texts 0 is now now start false told told
so_far_none disk setting texts is now start told here = record {
  mid = start;
  whole = whole_none setting start told;
  stands = here;
  any_moment = leaves_still disk now (λ x image. begun setting start texts told x (images_from disk now is start here x image));
}

text_leaves : {D : Type 0} (disk : Ghosts D) {X : Type 0} (f : X → List ℕ) (spans : List X) (i : ℕ) (d : X) (setting : Setting) (was : Running) (old mid new : D) (start : State) (refused : Bool) (before between after : Option (List ℕ))
    → i < length spans → (so_far : RanSoFar disk setting (map f spans) i was old mid start refused before between) → TakesMore between after → Leaves disk (CutInText setting so_far.mid (f (get_or spans i d))) mid new
    → Leaves disk (IsOnTheWay setting start (map f spans) before after) old new
text_leaves disk f spans i d setting was old mid new start refused before between after below so_far more leaves =
    let whole = so_far.whole in
    leaves_join disk (leaves_wider disk (on_the_way_still setting start (map f spans) before between after more) so_far.any_moment)
    (leaves_wider disk
    (on_the_way setting start so_far.mid (map f spans) i whole.printed refused (f (get_or spans i d)) (drop (i + 1) (map f spans)) before after whole.ran (first_more before between after whole.printed (first_all before between whole.printed whole.taken) more) (rest_is f spans i d below))
    leaves)

pub so_far_more : {D : Type 0} (disk : Ghosts D) {X : Type 0} (f : X → List ℕ) (spans : List X) (i : ℕ) (d : X) (setting : Setting) (was is : Running) (old mid new : D) (start : State) (refused told had : Bool) (before between after : Option (List ℕ))
    → i < length spans → told ≡ (refused || had) → (so_far : RanSoFar disk setting (map f spans) i was old mid start refused before between)
    → RanText disk setting (f (get_or spans i d)) is mid new (Ok had) so_far.mid between after → RanSoFar disk setting (map f spans) (i + 1) is old new start told before after
so_far_more disk f spans i d setting was is old mid new start refused told had before between after below told_is so_far ran =
    let (why, next, printed, passes, taken, here, had_is) = ran.done in
    record {
      mid = next;
      whole = whole_next f spans i d setting start so_far.mid next refused told had why printed before between after below told_is had_is so_far.whole passes taken;
      stands = here;
      any_moment = text_leaves disk f spans i d setting was old mid new start refused before between after below so_far ran.taken ran.any_moment;
    }

pub so_far_stopped : {D : Type 0} (disk : Ghosts D) {X : Type 0} (f : X → List ℕ) (spans : List X) (i : ℕ) (d : X) (setting : Setting) (was is : Running) (old mid new : D) (start : State) (refused : Bool) (fault : RunFault) (before between after : Option (List ℕ))
    → i < length spans → (so_far : RanSoFar disk setting (map f spans) i was old mid start refused before between)
    → RanText disk setting (f (get_or spans i d)) is mid new (Err fault) so_far.mid between after → RanTexts disk setting (map f spans) is old new (Err fault) start before after
so_far_stopped disk f spans i d setting was is old mid new start refused fault before between after below so_far ran = record {
  done = tt;
  stopped = stopped_next disk f spans i d setting start so_far.mid refused new before between after fault below so_far.whole ran.stopped;
  any_moment = text_leaves disk f spans i d setting was old mid new start refused before between after below so_far ran.taken ran.any_moment;
}

pub so_far_all : {D : Type 0} (disk : Ghosts D) {X : Type 0} (f : X → List ℕ) (spans : List X) (i : ℕ) (setting : Setting) (is : Running) (old now : D) (start : State) (refused : Bool) (before after : Option (List ℕ))
    → length spans ≤ i → RanSoFar disk setting (map f spans) i is old now start refused before after → RanTexts disk setting (map f spans) is old now (Ok refused) start before after
so_far_all disk f spans i setting is old now start refused before after all so_far = record {
  done = (
    so_far.mid,
    so_far.whole.printed,
    subst (λ (texts : List (List ℕ)). RunTexts setting start texts so_far.whole.printed refused so_far.mid) (take_all i (map f spans) (omega (arith, all, length-map spans f))) so_far.whole.ran,
    so_far.whole.taken,
    so_far.stands,
  );
  stopped = tt;
  any_moment = so_far.any_moment;
}

-- ---- the opening

-- the folder didn't open, and is none that reopens
pub not_opened : {D : Type 0} (disk : Ghosts D) (setting : Setting) (d : Database) (texts : List (List ℕ)) (old now : D) (fault : StoreFault) (told : Option (List ℕ))
    → IsOpenable disk old d → BlamesOpening (disk.holds old) fault → Leaves disk (IsStill disk old d) old now → RunEnds (status_of (fault_of fault)) disk setting d texts old now told told
not_opened disk setting d texts old now StoreFault.Disk told openable blamed leaves = inr (record { why = inr (inl refl); untaken = refl; left = left_now disk leaves })
not_opened disk setting d texts old now (StoreFault.Damaged q) told openable blamed leaves = absurd (reopening_unblamed (disk.holds old) openable.files d q openable.told openable.reopens blamed)
not_opened disk setting d texts old now StoreFault.Memory told openable blamed leaves = inr (record { why = inl refl; untaken = refl; left = left_now disk leaves })

-- the state with which it opened
pub starts_with : {D : Type 0} (disk : Ghosts D) (m : Contents) (old : D) (d : Database) (next parts : ℕ) → disk.holds old ≡ Some m → IsStartOf m next parts → IsStart disk old d (opened_with next parts d)
starts_with disk m old d next parts told is = record { files = m; told = told; next = next; parts = parts; numbers = is; start_is = refl }

-- ---- some texts ran

pub texts_stopped : {D : Type 0} (disk : Ghosts D) (setting : Setting) (d : Database) (texts : List (List ℕ)) (start : State) (is : Running) (old mid now : D) (fault : RunFault) (before after : Option (List ℕ))
    → IsStart disk old d start → RanTexts disk setting texts is mid now (Err fault) start before after → RunEnds (status_of fault) disk setting d texts old now before after
texts_stopped disk setting d texts start is old mid now fault before after starts ran = inl (start, starts, inr ran.stopped)

-- ---- all texts ran

-- a run that halts
pub texts_halted : {D : Type 0} (disk : Ghosts D) (files : Files) (steps : ℕ) (halts : Bool) (d : Database) (texts : List (List ℕ)) (start : State) (is : Running) (old mid now : D) (refused : Bool) (before after : Option (List ℕ))
    → IsStart disk old d start → halts ≡ true → RanTexts disk (setting_of files steps halts) texts is mid now (Ok refused) start before after
    → RunEnds (status_of_run refused) disk (setting_of files steps halts) d texts old now before after
texts_halted disk files steps halts d texts start is old mid now refused before after starts halt ran =
    let (state, printed, texts_ran, taken, here) = ran.done in
    inl (
      start,
      starts,
      inl (record {
        refused = refused;
        status_is = refl;
        printed = printed;
        mid = state;
        ran = texts_ran;
        taken = taken;
        new = state;
        ends = subst (λ (b : Bool). EndsUnless b state state) (sym halt) refl;
        left = images_reopen disk now is state here;
      }),
    )

-- a run that comes to its end
pub texts_ended : {D : Type 0} (disk : Ghosts D) (files : Files) (steps : ℕ) (halts : Bool) (d : Database) (texts : List (List ℕ)) (start : State) (is : Running) (old mid now new : D) (refused : Bool) (u : Unit {0}) (before after : Option (List ℕ))
    → IsStart disk old d start → halts ≡ false → RanTexts disk (setting_of files steps halts) texts is mid now (Ok refused) start before after
    → ((state : State) → IsState disk is now state → (last : Running) × Ends disk last now new (Ok u) state)
    → RunEnds (status_of_run refused) disk (setting_of files steps halts) d texts old new before after
texts_ended disk files steps halts d texts start is old mid now new refused u before after starts halt ran ends =
    let (state, printed, texts_ran, taken, here) = ran.done in
    let (last, end) = ends state here in
    let (after_end, ended_as, there) = end.done in
    inl (
      start,
      starts,
      inl (record {
        refused = refused;
        status_is = refl;
        printed = printed;
        mid = state;
        ran = texts_ran;
        taken = taken;
        new = after_end;
        ends = subst (λ (b : Bool). EndsUnless b state after_end) (sym halt) ended_as;
        left = images_reopen disk new last after_end there;
      }),
    )

-- the end failed
end_stops : {D : Type 0} (disk : Ghosts D) (last : Running) (now new : D) (state : State) (told : Option (List ℕ)) (fault : StoreFault) → Ends disk last now new (Err fault) state → StopsInEnd disk state new told told (fault_of fault)
end_stops disk last now new state told StoreFault.Disk end = (refl, left_now disk end.any_moment)
end_stops disk last now new state told (StoreFault.Damaged q) end = absurd (end.unblamed)
end_stops disk last now new state told StoreFault.Memory end =
    let (after, kept, there) = end.undone refl in
    record { untaken = refl; new = after; kept = kept; left = images_reopen disk new last after there }

stopped_end : {D : Type 0} (disk : Ghosts D) (setting : Setting) (start state : State) (texts : List (List ℕ)) (printed : List ℕ) (refused : Bool) (now : D) (before after : Option (List ℕ)) (fault : RunFault)
    → setting.halts ≡ false → RunTexts setting start texts printed refused state → Appends before after printed → StopsInEnd disk state now after after fault → RanAndStopped (status_of fault) disk setting start texts now before after
stopped_end disk setting start state texts printed refused now before after fault ends ran taken stops = record {
  fault = fault;
  status_is = refl;
  count = length texts;
  printed = printed;
  refused = refused;
  mid = state;
  between = after;
  ran = subst (λ (some : List (List ℕ)). RunTexts setting start some printed refused state) (sym (take_all (length texts) texts (omega arith))) ran;
  taken = taken;
  stops = subst (λ (some : List (List ℕ)). StopsInNext disk setting state some now after after fault) (sym (drop_all (length texts) texts (omega arith))) (ends, stops);
}

pub end_failed : {D : Type 0} (disk : Ghosts D) (files : Files) (steps : ℕ) (halts : Bool) (d : Database) (texts : List (List ℕ)) (start : State) (is : Running) (old mid now new : D) (refused : Bool) (fault : StoreFault) (before after : Option (List ℕ))
    → IsStart disk old d start → halts ≡ false → RanTexts disk (setting_of files steps halts) texts is mid now (Ok refused) start before after
    → ((state : State) → IsState disk is now state → (last : Running) × Ends disk last now new (Err fault) state)
    → RunEnds (status_of (fault_of fault)) disk (setting_of files steps halts) d texts old new before after
end_failed disk files steps halts d texts start is old mid now new refused fault before after starts halt ran ends =
    let (state, printed, texts_ran, taken, here) = ran.done in
    let (last, end) = ends state here in
    inl (
      start,
      starts,
      inr (stopped_end disk (setting_of files steps halts) start state texts printed refused new before after (fault_of fault) halt texts_ran taken (end_stops disk last now new state after fault end)),
    )

-- ---- what a crash leaves

pub opening_leaves : {D : Type 0} (disk : Ghosts D) (setting : Setting) (d : Database) (texts : List (List ℕ)) (old now : D) (before after : Option (List ℕ)) → Leaves disk (IsStill disk old d) old now
    → Leaves disk (RunLeaves disk old setting d texts before after) old now
opening_leaves disk setting d texts old now before after leaves = leaves_wider disk (λ x still. inl still) leaves

pub texts_leave : {D : Type 0} (disk : Ghosts D) (setting : Setting) (d : Database) (texts : List (List ℕ)) (start : State) (old mid now : D) (before after : Option (List ℕ))
    → IsStart disk old d start → Leaves disk (IsStill disk old d) old mid → Leaves disk (IsOnTheWay setting start texts before after) mid now → Leaves disk (RunLeaves disk old setting d texts before after) old now
texts_leave disk setting d texts start old mid now before after starts first second =
    leaves_join disk (opening_leaves disk setting d texts old mid before after first) (leaves_wider disk (λ x way. inr (start, starts, way)) second)

pub end_leaves : {D : Type 0} (disk : Ghosts D) (files : Files) (steps : ℕ) (halts : Bool) (d : Database) (texts : List (List ℕ)) (start : State) (is : Running) (old mid now new : D) (refused : Bool) (result : Result (Unit {0}) StoreFault) (before after : Option (List ℕ))
    → IsStart disk old d start → halts ≡ false → Leaves disk (IsStill disk old d) old mid → RanTexts disk (setting_of files steps halts) texts is mid now (Ok refused) start before after
    → ((state : State) → IsState disk is now state → (last : Running) × Ends disk last now new result state)
    → Leaves disk (RunLeaves disk old (setting_of files steps halts) d texts before after) old new
end_leaves disk files steps halts d texts start is old mid now new refused result before after starts halt opening ran ends =
    let (state, printed, texts_ran, taken, here) = ran.done in
    let (last, end) = ends state here in
    leaves_join disk (texts_leave disk (setting_of files steps halts) d texts start old mid now before after starts opening ran.any_moment)
    (leaves_wider disk (way state printed texts_ran taken) end.any_moment)
  where
    cut : (state : State) (x : Contents) → CutBeforeOrAfter state (EndedAs state) x → CutBeforeOrAfter state (EndsUnless halts state) x
    cut state x left = subst (λ (b : Bool). CutBeforeOrAfter state (EndsUnless b state) x) (sym halt) left

    way : (state : State) (printed : List ℕ) → RunTexts (setting_of files steps halts) start texts printed refused state → Appends before after printed → (x : Contents) → CutBeforeOrAfter state (EndedAs state) x
        → RunLeaves disk old (setting_of files steps halts) d texts before after x
    way state printed texts_ran taken x left = inr (
      start,
      starts,
      ended (setting_of files steps halts) start state texts (length texts) printed refused before after
          (subst (λ (some : List (List ℕ)). RunTexts (setting_of files steps halts) start some printed refused state) (sym (take_all (length texts) texts (omega arith))) texts_ran)
          (first_all before after printed taken) (drop_all (length texts) texts (omega arith)) x (cut state x left),
    )
