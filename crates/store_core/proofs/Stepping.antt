-- The steps of the mover over a running store.
use Rattle.std.proofs.Common.{◌≡◌, ◌≤◌, ◌<◌, ◌+◌, ◌-◌, ◌++◌, ℕ, inl, inr, Bool, true, false, cond, List, [], ◌∷◌, length, map, filter, refl, sym, ◌∙◌, ap, ap₂, subst, arith}
use Rattle.std.specs.Prelude.{◌==◌, ◌||◌, nat_lt, not, bytes_eq, Contains, Option, Some, None, Result, Ok, Err, IfErr, OnErr, OnOk, IsErrOf, IsSomeAnd, option_and_then}
use Rattle.std.specs.List.{list_any, slice_get}
use Rattle.std.proofs.lemmas.Bool.Decides.{Decides-eqb, nat_tests}
use Rattle.std.proofs.lemmas.List.{map-append}
use Rattle.std.proofs.lemmas.List.Concat.{flat_map-cons}
use Rattle.std.proofs.lemmas.List.Elements.{filter-append}
use Rattle.common_laws.specs.Maps.{Contents}
use Rattle.col_disk.specs.Faults.{IsUnblamed}
use Rattle.col_disk.specs.Moved.{Leaves}
use Rattle.col_disk.specs.declared.disk.Disk.{Ghosts}
use Rattle.col_disk.specs.declared.disk.StoreFault.{StoreFault}
use Rattle.col_disk.specs.declared.disk.StoreFault.TheVariants as fault
use Rattle.col_disk.proofs.Moving.{leaves_wider, moved_none}
use Rattle.catalog_types.specs.declared.catalogue.Catalogue.{Catalogue}
use Rattle.catalog_types.specs.declared.catalogue.Projection.{Projection}
use Rattle.catalog_types.specs.declared.catalogue.Table as kept
use Rattle.catalog_types.specs.Parts.{IsProjection, IsTable}
use Rattle.catalog_types.specs.Valid.{IsValid}
use Rattle.db_model.specs.Database.{Shape, Table}
use Rattle.db_model.specs.Epochs.{all_shapes}
use Rattle.db_model.specs.Events.{is_not_named, is_of_table, refresh_started, stale_names}
use Rattle.db_model.specs.Views.{table_found}
use Rattle.db_model.specs.Mover.{first_behind, given_up, refreshed, GoesOn, Installs, MovesFirst, MovesOrBegins, MoverSteps, StepsOn, StepsUnless}
use Rattle.db_model.specs.Numbers.{are_spent, IsDrawn}
use Rattle.db_model.specs.Sound.{IsSound}
use Rattle.db_model.specs.State.{Changes, State}
use Rattle.folder_model.specs.Projections.{shape_of}
use Rattle.folder_model.specs.Tables.{StandForTables}
use Rattle.mover_policy.specs.declared.first.Place.{Place}
use Rattle.mover_policy.specs.First.{projection_at}
use Rattle.sound_laws.specs.Moves.{reached_at}
use Rattle.state_laws.proofs.Reached.{busy_state}
use Rattle.store_commit.specs.Making.{ReopensToEither, Makes}
use Rattle.store_commit.specs.Seen.{Seen}
use Rattle.stored_rows.specs.Stored.{Projected}
use Rattle.table_jobs.specs.Jobs.{DrawsAnew, HasReached, OfProjection}
use Rattle.table_store.proofs.Drawn.{columns_most}
use Rattle.table_store.proofs.Standing.{reads_only}
use Rattle.store_core.proofs.Doing.{without_work}
use Rattle.store_core.specs.Events.{BeforeOrAfter, Does, MovesFirstOf}
use Rattle.store_core.specs.Jobs.{RefreshesAt, RisesAt}
use Rattle.store_core.specs.Running.{job_dropped, mover_of, running, IsState, Mover, Running, unworked}
use Rattle.store_core.specs.Waiting.{has_name}
use Rattle.store_core.specs.Stepping.{all_stale, stale_in, with_asked, with_mover, Begins, BeginsAt, FinishesJob, InstallsJob, IsStaleNamed, MoverStepsOf, RefreshesNamed}
use Rattle.store_core.proofs.Anew.{all_at, of_projection, same_projection, some_and}
use Rattle.store_core.proofs.Raising.{does_wider, risen_rises}
use Rattle.store_core.proofs.Purging.{found_also, named_there, shapes_of}
use Rattle.store_core.proofs.Refreshing.{drawn_at, stale_shape, table_at}

-- ---- the job in flight is dropped

pub gave_up : {D : Type 0} (disk : Ghosts D) (r : Running) (now : D) (state : State) → IsState disk r now state → IsState disk (with_mover (job_dropped r.mover) r) now (given_up state)
gave_up disk r now state here = record {
  database = here.database;
  sessions = here.sessions;
  current = here.current;
  asked = here.asked;
  next = here.next;
  busy = refl;
  parts = here.parts;
  work = tt;
  sound = busy_state state 0 here.sound;
}

pub gave_up_at : {D : Type 0} (disk : Ghosts D) (was : Seen) (sessions : List (List Changes)) (current : ℕ) (mover dropped : Mover) (now : Running) (old : D) (state : State) → running was sessions current mover ≡ now → dropped ≡ job_dropped mover → IsState disk now old state
    → IsState disk (running was sessions current dropped) old (given_up state)
gave_up_at disk was sessions current mover dropped now old state view is here =
    subst (λ (m : Mover). IsState disk (running was sessions current m) old (given_up state)) (sym is)
    (gave_up disk (running was sessions current mover) old state (subst (λ (r : Running). IsState disk r old state) (sym view) here))

-- ---- START_REFRESH

stale_named : (ps : List Projection) → stale_names (map shape_of ps) ≡ stale_in ps
stale_named [] = refl
stale_named (p ∷ ps) = by p.fresh (stale_named ps)
  where
    by : (b : Bool) → stale_names (map shape_of ps) ≡ stale_in ps
        → map (λ (s : Shape). s.name) (cond (not b) (shape_of p ∷ filter (λ s. not s.fresh) (map shape_of ps)) (filter (λ s. not s.fresh) (map shape_of ps)))
        ≡ map (λ (q : Projection). q.name) (cond (not b) (p ∷ filter (λ q. not q.fresh) ps) (filter (λ q. not q.fresh) ps))
    by true rest = rest
    by false rest = ap (λ (ns : List (List ℕ)). p.name ∷ ns) rest

stale_joined : (xs ys : List Shape) → stale_names (xs ++ ys) ≡ stale_names xs ++ stale_names ys
stale_joined xs ys = ap (map (λ (s : Shape). s.name)) (filter-append (λ (s : Shape). not s.fresh) xs ys) ∙ map-append (λ (s : Shape). s.name) (filter (λ s. not s.fresh) xs) (filter (λ s. not s.fresh) ys)

all_named : (m : Contents) (mark : ℕ) (ts : List kept.Table) (pss : List (List Projected)) (us : List Table) → StandForTables m mark ts pss us → stale_names (all_shapes us) ≡ all_stale ts
all_named m mark [] [] [] stand = refl
all_named m mark [] [] (u ∷ us) stand = absurd stand
all_named m mark [] (ps ∷ pss) us stand = absurd stand
all_named m mark (t ∷ ts) [] us stand = absurd stand
all_named m mark (t ∷ ts) (ps ∷ pss) [] stand = absurd stand
all_named m mark (t ∷ ts) (ps ∷ pss) (u ∷ us) (here, more) =
    ap stale_names (flat_map-cons (λ (v : Table). v.shapes) u us) ∙ stale_joined u.shapes (all_shapes us)
    ∙ ap₂ (λ (xs ys : List (List ℕ)). xs ++ ys) (ap stale_names here.shapes ∙ stale_named t.projections) (all_named m mark ts pss us more)
    ∙ sym (flat_map-cons (λ (k : kept.Table). stale_in k.projections) t ts)

pub asked_stands : {D : Type 0} (disk : Ghosts D) (r : Running) (now : D) (state : State) → IsState disk r now state → IsSound (refresh_started state) → IsState disk (with_asked (all_stale r.seen.catalogue.tables) r) now (refresh_started state)
asked_stands disk r now state here sound = record {
  database = here.database;
  sessions = here.sessions;
  current = here.current;
  asked = all_named here.database.files r.seen.catalogue.ahm r.seen.catalogue.tables r.seen.stores state.database.tables here.database.are.tables;
  next = here.next;
  busy = here.busy;
  parts = here.parts;
  work = tt;
  sound = sound;
}

-- ---- nothing is written

abbrev pub stood : Result (Unit {0}) StoreFault
stood = Ok tt

abbrev short_of : Result (Unit {0}) StoreFault
short_of = Err fault.Memory

still_leaves : {D : Type 0} (disk : Ghosts D) (r : Running) (now : D) (state : State) (After : State → Type 0) → IsState disk r now state → Leaves disk (BeforeOrAfter state After) now now
still_leaves {D} disk r now state After here = leaves_wider disk (λ x reopens. either x reopens) quiet.any_moment
  where
    quiet : Makes disk fault.Memory r.seen r.seen now now short_of state.database state.database
    quiet = reads_only disk r.seen r.seen fault.Memory state.database state.database here.database (moved_none disk now)

    either : (x : Contents) → ReopensToEither state.database state.database x → BeforeOrAfter state After x
    either x (inl before) = inl before
    either x (inr before) = inl before

nothing_drawn : (old made : State) → made.next ≡ old.next → made.parts ≡ old.parts → IsDrawn old made made
nothing_drawn old made next parts = record { same = refl; drawn = record { from = omega (arith, next); to = omega (arith, next); parts = omega (arith, parts) } }

pub nothing_due : {D : Type 0} (disk : Ghosts D) (r : Running) (now : D) (state : State) → IsState disk r now state → Does disk fault.Memory r r now now stood state (InstallsJob state)
nothing_due disk r now state here = record {
  done = (state, (state, inl refl, nothing_drawn state state refl refl), here);
  undone = λ none. absurd (cc);
  any_moment = still_leaves disk r now state (InstallsJob state) here;
}

pub short_job : {D : Type 0} (disk : Ghosts D) (r : Running) {is : Running} (now : D) (state : State) (After : State → Type 0) → IsState disk r now state → Does disk fault.Memory r is now now short_of state After
short_job disk r {is} now state After here = record { done = tt; undone = λ wants. without_work disk r now state here; any_moment = still_leaves disk r now state After here }

-- ---- what a job is for

-- a merge
merge_installs : {D : Type 0} (disk : Ghosts D) (r : Running) (now : D) (i j : ℕ) (state after : State) → IsState disk r now state → RisesAt i j state after → InstallsJob state after
merge_installs disk r now i j state after here rises =
    let d = reached_at rises.epoch i j state.database in
    (record state { database = d }, inr (inl (d, risen_rises disk r now state rises.epoch i j here rises.rises, refl)), rises.drawn)

pub merge_is_due : {D : Type 0} (disk : Ghosts D) {old new : D} (was is : Running) (i j : ℕ) (result : Result (Unit {0}) StoreFault) (state : State) → IsState disk was old state → Does disk fault.Memory was is old new result state (RisesAt i j state)
    → Does disk fault.Memory was is old new result state (InstallsJob state)
merge_is_due disk {old} was is i j result state here does =
    does_wider disk fault.Memory was is result state (RisesAt i j state) (InstallsJob state) (λ after rises. merge_installs disk was old i j state after here rises) does

-- a refresh
refresh_installs : {D : Type 0} (disk : Ghosts D) (r : Running) (now : D) (i j : ℕ) (name : List ℕ) (state after : State) → IsState disk r now state → Contains r.mover.asked name → OfProjection i j r.seen.catalogue (IsStaleNamed name) → RefreshesAt i j state after
    → InstallsJob state after
refresh_installs disk r now i j name state after here waits stale refreshes =
    let (s, at, (p, s_of, (off, named))) = stale_shape disk r now state i j (IsStaleNamed name) here stale in
    let drawn : IsDrawn state (refreshed s.name state) after = drawn_at i j state.database s (λ x. IsDrawn state (refreshed x.name state) after) at refreshes in
    let is_name : s.name ≡ name = ap (λ (x : Shape). x.name) s_of ∙ named in
    let there : Contains state.asked name = subst (λ (ns : List (List ℕ)). Contains ns name) (sym here.asked) waits in
    (refreshed s.name state, inr (inr (s.name, subst (Contains state.asked) (sym is_name) there, refl)), drawn)

pub refresh_is_due : {D : Type 0} (disk : Ghosts D) {old new : D} (was is : Running) (i j : ℕ) (name : List ℕ) (result : Result (Unit {0}) StoreFault) (state : State) → IsState disk was old state → Contains was.mover.asked name → OfProjection i j was.seen.catalogue (IsStaleNamed name)
    → Does disk fault.Memory was is old new result state (RefreshesAt i j state) → Does disk fault.Memory was is old new result state (InstallsJob state)
refresh_is_due disk {old} was is i j name result state here waits stale does =
    does_wider disk fault.Memory was is result state (RefreshesAt i j state) (InstallsJob state) (λ after refreshes. refresh_installs disk was old i j name state after here waits stale refreshes) does

-- a place is the same one
pub at_place : (P : ℕ → ℕ → Type 0) (i j k l : ℕ) → (i ≡ k) × (j ≡ l) → P i j → P k l
at_place P i j k l (one, two) is = subst (λ (n : ℕ). P n l) one (subst (λ (n : ℕ). P i n) two is)

-- the projection of a name, and what waits then
asked_named : (i j : ℕ) (c : Catalogue) (name : List ℕ) (old new : List (List ℕ)) → OfProjection i j c (IsStaleNamed name) → OfProjection i j c (λ p. new ≡ filter (is_not_named p.name) old) → new ≡ filter (is_not_named name) old
asked_named i j c name old new stale asked =
    let (t, p, at, (off, named)) = of_projection i j c (IsStaleNamed name) stale in
    let (u, q, there, is) = of_projection i j c (λ x. new ≡ filter (is_not_named x.name) old) asked in
    let same : q ≡ p = same_projection i j c u t q p there at in
    is ∙ ap (λ (n : List ℕ). filter (is_not_named n) old) (ap (λ (x : Projection). x.name) same ∙ named)

pub refreshes_named : (was is : Running) (name : List ℕ) (at : Place) (result : Result (Unit {0}) StoreFault) → Contains was.mover.asked name → OfProjection at.table at.place was.seen.catalogue (IsStaleNamed name)
    → OnOk result (OfProjection at.table at.place was.seen.catalogue (DrawsAnew at.table at.place 2 was.seen.catalogue is.seen.catalogue)) → OnOk result (OfProjection at.table at.place is.seen.catalogue (HasReached is.seen.catalogue.last))
    → OnOk result (OfProjection at.table at.place was.seen.catalogue (λ p. is.mover.asked ≡ filter (is_not_named p.name) was.mover.asked)) → OnOk result (RefreshesNamed name was is)
refreshes_named was is name at (Ok u) waits stale draws reached asked = inl (record {
  at = at;
  waits = waits;
  stale = stale;
  draws = draws;
  reached = reached;
  asked = asked_named at.table at.place was.seen.catalogue name was.mover.asked is.mover.asked stale asked;
})
refreshes_named was is name at (Err f) waits stale draws reached asked = tt

-- and then the job is over
over : (state after : State) → InstallsJob state after → FinishesJob state (given_up after)
over state after (made, installs, drawn) = (
  given_up made,
  by installs,
  record { same = ap given_up drawn.same; drawn = record { from = drawn.drawn.from; to = drawn.drawn.to; parts = drawn.drawn.parts } },
)
  where
    by : Installs state made → Installs (given_up state) (given_up made)
    by (inl same) = inl (ap given_up same)
    by (inr (inl (d, rises, same))) = inr (inl (d, rises, ap given_up same))
    by (inr (inr (name, waits, same))) = inr (inr (name, waits, ap given_up same))

pub job_over : {D : Type 0} (disk : Ghosts D) {old new : D} (was is last : Running) (state : State) → last ≡ with_mover (job_dropped is.mover) is → Does disk fault.Memory was is old new stood state (InstallsJob state)
    → Does disk fault.Memory was last old new stood state (FinishesJob state)
job_over {D} disk {old} {new} was is last state dropped does =
    let (after, installs, there) = does.done in
    record {
      done = (given_up after, over state after installs, subst (λ (r : Running). IsState disk r new (given_up after)) (sym dropped) (gave_up disk is new after there));
      undone = λ none. absurd (cc);
      any_moment = leaves_wider disk (λ x left. by x left) does.any_moment;
    }
  where
    by : (x : Contents) → BeforeOrAfter state (InstallsJob state) x → BeforeOrAfter state (FinishesJob state) x
    by x (inl before) = inl before
    by x (inr (after, installs, reopens)) = inr (given_up after, over state after installs, reopens)

abbrev failed : StoreFault → Result (Unit {0}) StoreFault
failed f = Err f

pub job_failed : {D : Type 0} (disk : Ghosts D) {old new : D} (was is last : Running) (f : StoreFault) (state : State) → Does disk fault.Memory was is old new (failed f) state (InstallsJob state)
    → Does disk fault.Memory was last old new (failed f) state (FinishesJob state)
job_failed {D} disk {old} {new} was is last f state does = record {
  done = tt;
  undone = does.undone;
  any_moment = leaves_wider disk (λ x left. by x left) does.any_moment;
}
  where
    by : (x : Contents) → BeforeOrAfter state (InstallsJob state) x → BeforeOrAfter state (FinishesJob state) x
    by x (inl before) = inl before
    by x (inr (after, installs, reopens)) = inr (given_up after, over state after installs, reopens)

-- the job of a store as it is seen
pub dropped_at : (was : Seen) (sessions : List (List Changes)) (current : ℕ) (mover dropped : Mover) (now : Running) → running was sessions current mover ≡ now → dropped ≡ job_dropped mover → running was sessions current dropped ≡ with_mover (job_dropped now.mover) now
dropped_at was sessions current mover dropped now view is = ap (λ (m : Mover). running was sessions current m) is ∙ ap (λ (r : Running). with_mover (job_dropped r.mover) r) view

pub mover_begun : (was : Seen) (sessions : List (List Changes)) (current : ℕ) (mover begun : Mover) (now : Running) (steps : ℕ) (refreshing : Option (List ℕ)) → running was sessions current mover ≡ now → begun ≡ mover_of mover.asked steps refreshing
    → running was sessions current begun ≡ with_mover (mover_of now.mover.asked steps refreshing) now
mover_begun was sessions current mover begun now steps refreshing view is =
    ap (λ (m : Mover). running was sessions current m) is ∙ ap (λ (r : Running). with_mover (mover_of r.mover.asked steps refreshing) r) view

pub begun_at : (was : Seen) (sessions : List (List Changes)) (current : ℕ) (mover begun : Mover) (now : Running) (steps : ℕ) (refreshing : Option (List ℕ)) → running was sessions current mover ≡ now → begun ≡ mover_of mover.asked steps refreshing → (3 ≤ steps) × (steps ≤ 66)
    → Begins now (running was sessions current begun)
begun_at was sessions current mover begun now steps refreshing view is (least, most) =
    inr (steps, refreshing, least, most, mover_begun was sessions current mover begun now steps refreshing view is)

-- a job that begins has as many steps as its projection has columns, and two
pub begins_at : (old new : Running) (at : Place) (steps : ℕ) (refreshing : Option (List ℕ)) → IsSomeAnd (projection_at old.seen.catalogue.tables at) (λ p. steps ≡ length p.columns + 2)
    → new ≡ with_mover (mover_of old.mover.asked steps refreshing) old → BeginsAt at refreshing old new
begins_at old new at steps refreshing there is = by (projection_at old.seen.catalogue.tables at) there
  where
    by : (o : Option Projection) → IsSomeAnd o (λ p. steps ≡ length p.columns + 2) → IsSomeAnd o (λ p. new ≡ with_mover (mover_of old.mover.asked (length p.columns + 2) refreshing) old)
    by None none = absurd none
    by (Some p) long = is ∙ ap (λ (n : ℕ). with_mover (mover_of old.mover.asked n refreshing) old) long

pub steps_are : (tables : List kept.Table) (was : Seen) (sessions : List (List Changes)) (current : ℕ) (mover : Mover) (now : Running) (at : Place) (p : Projection) (columns : ℕ) → was.catalogue.tables ≡ tables → running was sessions current mover ≡ now
    → Some p ≡ projection_at tables at → columns ≡ length p.columns → IsSomeAnd (projection_at now.seen.catalogue.tables at) (λ q. columns + 2 ≡ length q.columns + 2)
steps_are tables was sessions current mover now at p columns same view there long =
    subst (λ (r : Running). IsSomeAnd (projection_at r.seen.catalogue.tables at) (λ q. columns + 2 ≡ length q.columns + 2)) view
    (subst (λ (ts : List kept.Table). IsSomeAnd (projection_at ts at) (λ q. columns + 2 ≡ length q.columns + 2)) (sym same)
    (subst (λ (o : Option Projection). IsSomeAnd o (λ q. columns + 2 ≡ length q.columns + 2)) there (ap (λ (n : ℕ). n + 2) long)))

-- a projection of a valid catalogue has from 1 to 64 columns
pub steps_fit : (root : Catalogue) (tables : List kept.Table) (at : Place) (p : Projection) (columns : ℕ) → IsValid root → tables ≡ root.tables → Some p ≡ projection_at tables at → columns ≡ length p.columns → (3 ≤ columns + 2) × (columns + 2 ≤ 66)
steps_fit root tables at p columns valid same there long = by (slice_get root.tables at.table) refl (subst (λ (ts : List kept.Table). projection_at ts at ≡ Some p) same (sym there))
  where
    by : (o : Option kept.Table) → slice_get root.tables at.table ≡ o → option_and_then (λ t. slice_get t.projections at.place) o ≡ Some p → (3 ≤ columns + 2) × (columns + 2 ≤ 66)
    by None is none = absurd (cc)
    by (Some t) is found =
        let table : IsTable root t = all_at (IsTable root) root.tables at.table t valid.tables is in
        let one : IsProjection root t p = all_at (IsProjection root t) t.projections at.place p table.projections found in
        let some = one.some in
        let narrow = columns_most root t p one in
        let most = table.most in
        (omega (arith, some, long), omega (arith, narrow, most, long))

-- ---- a step

stepped_unless : (old new : State) → are_spent old ≡ false → StepsOn (nat_lt 0 old.busy) old new → MoverSteps old new
stepped_unless old new free is = subst (λ (b : Bool). StepsUnless b old new) (sym free) is

-- numbers are spent
pub spent_step : {D : Type 0} (disk : Ghosts D) (r : Running) (now : D) (state : State) → IsState disk r now state → are_spent state ≡ true → MoverStepsOf disk r now now stood state
spent_step disk r now state here spent = record {
  done = (state, subst (λ (b : Bool). StepsUnless b state state) (sym spent) refl, here);
  undone = λ none. absurd (cc);
  unblamed = tt;
  any_moment = still_leaves disk r now state (MoverSteps state) here;
}

-- the last step of a job
finish_steps : (old new : State) → are_spent old ≡ false → old.busy ≡ 1 → FinishesJob old new → MoverSteps old new
finish_steps old new free last finishes =
    stepped_unless old new free (subst (λ (n : ℕ). StepsOn (nat_lt 0 n) old new) (sym last) (subst (λ (n : ℕ). GoesOn (n == 1) old new) (sym last) finishes))

pub last_step : {D : Type 0} (disk : Ghosts D) {old new : D} (was is : Running) (result : Result (Unit {0}) StoreFault) (state : State) → are_spent state ≡ false → state.busy ≡ 1 → IfErr result IsUnblamed → Does disk fault.Memory was is old new result state (FinishesJob state)
    → OnErr result (is ≡ unworked was) → MoverStepsOf disk is old new result state
last_step {D} disk {old} {new} was is result state free last unblamed does same =
    let wide = does_wider disk fault.Memory was is result state (FinishesJob state) (MoverSteps state) (λ after finishes. finish_steps state after free last finishes) does in
    record { done = wide.done; undone = as_before result same wide.undone; unblamed = unblamed; any_moment = wide.any_moment }
  where
    as_before : (r : Result (Unit {0}) StoreFault) → OnErr r (is ≡ unworked was) → (IsErrOf r fault.Memory → IsState disk (unworked was) new state) → IsErrOf r fault.Memory → IsState disk is new state
    as_before (Ok u) kept undone wants = absurd (cc)
    as_before (Err f) kept undone wants = subst (λ (r : Running). IsState disk r new state) (sym kept) (undone wants)

-- one before it
pub on_step : (old : State) → are_spent old ≡ false → 1 < old.busy → MoverSteps old (record old { busy = old.busy - 1 })
on_step old free more =
    let some : nat_lt 0 old.busy ≡ true = grind (arith, nat_tests, more) in
    let other : (old.busy == 1) ≡ false = not_one (old.busy == 1) refl in
    let new = record old { busy = old.busy - 1 } in
    stepped_unless old new free (subst (λ (b : Bool). StepsOn b old new) (sym some) (subst (λ (b : Bool). GoesOn b old new) (sym other) refl))
  where
    not_one : (b : Bool) → (old.busy == 1) ≡ b → b ≡ false
    not_one true is = let one = (Decides-eqb old.busy 1).0 is in absurd (omega (arith, more, one))
    not_one false is = refl

-- ---- no job is in flight

idle_steps : (old new : State) → are_spent old ≡ false → old.busy ≡ 0 → MovesOrBegins (first_behind old.database) old new → MoverSteps old new
idle_steps old new free idle is = stepped_unless old new free (subst (λ (n : ℕ). StepsOn (nat_lt 0 n) old new) (sym idle) is)

moves_steps : (o : Option Shape) (old new : State) → first_behind old.database ≡ o → MovesFirst o old new → MovesOrBegins o old new
moves_steps None old new first never = absurd never
moves_steps (Some s) old new first moves = moves

abbrev pub told : Bool → Result Bool StoreFault
told b = Ok b

abbrev pub untold : StoreFault → Result Bool StoreFault
untold f = Err f

move_leaves : {D : Type 0} (disk : Ghosts D) {old new : D} (state : State) → are_spent state ≡ false → state.busy ≡ 0 → Leaves disk (BeforeOrAfter state (MovesFirst (first_behind state.database) state)) old new → Leaves disk (BeforeOrAfter state (MoverSteps state)) old new
move_leaves disk state free idle leaves = leaves_wider disk (λ x left. by x left) leaves
  where
    by : (x : Contents) → BeforeOrAfter state (MovesFirst (first_behind state.database) state) x → BeforeOrAfter state (MoverSteps state) x
    by x (inl before) = inl before
    by x (inr (after, moves, reopens)) = inr (after, idle_steps state after free idle (moves_steps (first_behind state.database) state after refl moves), reopens)

-- a projection is moved out
pub move_step : {D : Type 0} (disk : Ghosts D) {old new : D} (was is : Running) (b : Bool) (state : State) → b ≡ true → are_spent state ≡ false → state.busy ≡ 0 → MovesFirstOf disk fault.Memory was is old new (told b) state → MoverStepsOf disk is old new stood state
move_step disk was is true state on free idle moves =
    let (after, one, there) = moves.done in
    record {
      done = (after, idle_steps state after free idle (moves_steps (first_behind state.database) state after refl one), there);
      undone = λ none. absurd (cc);
      unblamed = tt;
      any_moment = move_leaves disk state free idle moves.any_moment;
    }
move_step disk was is false state on free idle moves = absurd (cc)

pub move_failed : {D : Type 0} (disk : Ghosts D) {old new : D} (was is : Running) (f : StoreFault) (state : State) → are_spent state ≡ false → state.busy ≡ 0 → IsUnblamed f → MovesFirstOf disk fault.Memory was is old new (untold f) state → is ≡ unworked was
    → MoverStepsOf disk is old new (failed f) state
move_failed disk {old} {new} was is f state free idle unblamed moves same = record {
  done = tt;
  undone = λ wants. subst (λ (r : Running). IsState disk r new state) (sym same) (moves.undone (short f wants));
  unblamed = unblamed;
  any_moment = move_leaves disk state free idle moves.any_moment;
}
  where
    short : (g : StoreFault) → IsErrOf (failed g) fault.Memory → IsErrOf (untold g) fault.Memory
    short g wants = let one : g ≡ fault.Memory = cc in ap untold one

-- a job begins, or none does
begun : {D : Type 0} (disk : Ghosts D) (was is : Running) (now : D) (state : State) → IsState disk was now state → are_spent state ≡ false → state.busy ≡ 0 → first_behind state.database ≡ None → Begins was is → (after : State) × MoverSteps state after × IsState disk is now after
begun disk was is now state here free idle none (inl (asked, same)) = (
  state,
  idle_steps state state free idle (subst (λ (o : Option Shape). MovesOrBegins o state state) (sym none) (inl (here.asked ∙ asked, refl))),
  subst (λ (r : Running). IsState disk r now state) (sym same) here,
)
begun disk was is now state here free idle none (inr (steps, refreshing, least, most, same)) =
    let after = record state { busy = steps } in (
      after,
      idle_steps state after free idle (subst (λ (o : Option Shape). MovesOrBegins o state after) (sym none) (inr (steps, least, most, nothing_drawn state after refl refl))),
      subst (λ (r : Running). IsState disk r now after) (sym same) (record {
        database = here.database;
        sessions = here.sessions;
        current = here.current;
        asked = here.asked;
        next = here.next;
        busy = refl;
        parts = here.parts;
        work = tt;
        sound = busy_state state steps here.sound;
      }),
    )

-- the store as it was, where nothing was moved
unmoved : {D : Type 0} (disk : Ghosts D) {old new : D} (was is : Running) (b : Bool) (state : State) → b ≡ false → MovesFirstOf disk fault.Memory was is old new (told b) state → (first_behind state.database ≡ None) × IsState disk is new state
unmoved disk was is true state off moves = absurd (cc)
unmoved disk {old} {new} was is false state off moves =
    let (after, (none, same), there) = moves.done in
    (none, subst (λ (s : State). IsState disk is new s) same there)

pub begin_step : {D : Type 0} (disk : Ghosts D) {old new : D} (was is last : Running) (b : Bool) (state : State) → b ≡ false → are_spent state ≡ false → state.busy ≡ 0 → MovesFirstOf disk fault.Memory was is old new (told b) state → Begins is last
    → MoverStepsOf disk last old new stood state
begin_step disk {old} {new} was is last b state off free idle moves begins =
    let (none, there) = unmoved disk was is b state off moves in
    record {
      done = begun disk is last new state there free idle none begins;
      undone = λ wants. absurd (cc);
      unblamed = tt;
      any_moment = move_leaves disk state free idle moves.any_moment;
    }

pub begin_short : {D : Type 0} (disk : Ghosts D) {old new : D} (was is last : Running) (b : Bool) (state : State) → b ≡ false → are_spent state ≡ false → state.busy ≡ 0 → MovesFirstOf disk fault.Memory was is old new (told b) state → last ≡ is
    → MoverStepsOf disk last old new short_of state
begin_short disk {old} {new} was is last b state off free idle moves same =
    let (none, there) = unmoved disk was is b state off moves in
    record {
      done = tt;
      undone = λ wants. subst (λ (r : Running). IsState disk r new state) (sym same) there;
      unblamed = tt;
      any_moment = move_leaves disk state free idle moves.any_moment;
    }

-- ---- the projections of a table wait no more

named_any : (name : List ℕ) (ps : List Projection) → list_any (λ s. bytes_eq s.name name) (map shape_of ps) ≡ has_name name ps
named_any name [] = refl
named_any name (p ∷ ps) = ap (λ (b : Bool). bytes_eq p.name name || b) (named_any name ps)

filter_same : {X : Type 0} (p q : X → Bool) (xs : List X) → ((x : X) → p x ≡ q x) → filter p xs ≡ filter q xs
filter_same p q [] same = refl
filter_same {X} p q (x ∷ xs) same = ap₂ (λ (b : Bool) (ys : List X). cond b (x ∷ ys) ys) (same x) (filter_same p q xs same)

-- the names of the projections of the table at a place are those of the state's table of its name
pub asked_beside : {D : Type 0} (disk : Ghosts D) (r : Running) (now : D) (state : State) (i : ℕ) (name : List ℕ) (names left : List (List ℕ)) → IsState disk r now state → IsSomeAnd (slice_get r.seen.catalogue.tables i) (λ t. t.name ≡ name)
    → IsSomeAnd (slice_get r.seen.catalogue.tables i) (λ t. left ≡ filter (λ n. not (has_name n t.projections)) names) → left ≡ filter (λ n. not (is_of_table name state.database.tables n)) names
asked_beside disk r now state i name names left here named is =
    let c = r.seen.catalogue in
    let d = state.database in
    let there = named_there here.database.files c.ahm c.tables r.seen.stores d.tables i name here.database.are.tables named in
    let at = table_at disk r now state name i here there in
    let (t, t_is, left_is) = some_and (slice_get c.tables i) (λ u. left ≡ filter (λ n. not (has_name n u.projections)) names) is in
    let both : Some t ≡ Some at.own = sym t_is ∙ at.own_at in
    let same : t ≡ at.own = cc in
    left_is
    ∙ filter_same (λ n. not (has_name n t.projections)) (λ n. not (is_of_table name d.tables n)) names
    (λ n. ap not (ap (λ (u : kept.Table). has_name n u.projections) same ∙ sym (named_any n at.own.projections) ∙ ap (list_any (λ s. bytes_eq s.name n)) (sym at.shapes)
    ∙ sym (ap (list_any (λ s. bytes_eq s.name n)) (shapes_of (table_found name d.tables) at.table (found_also name 0 d.tables ∙ at.found)))))
