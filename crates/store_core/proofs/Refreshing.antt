-- REFRESH over a running store.
use Rattle.std.proofs.Common.{◌≡◌, ◌<◌, ◌≤◌, ◌+◌, ℕ, zero, suc, Bool, true, false, cond, List, [], ◌∷◌, length, map, filter, get_or, refl, sym, ◌∙◌, ap, subst, arith}
use Rattle.std.specs.Prelude.{not, nat_le, nat_lt, Option, Some, None, Result, OnOk, option_map, option_and_then, position, IsSomeAnd}
use Rattle.std.specs.List.{All, position_or_len, slice_get}
use Rattle.std.specs.Option.{option_map_or}
use Rattle.std.proofs.lemmas.Bool.Decides.{nat_tests}
use Rattle.std.proofs.lemmas.List.{length-map}
use Rattle.std.proofs.lemmas.List.Sums.{fails_before_first, passes_at_first}
use Rattle.common_laws.specs.Maps.{Contents}
use Rattle.col_disk.specs.Faults.{IsUnblamed}
use Rattle.col_disk.specs.declared.disk.Disk.{Ghosts}
use Rattle.col_disk.specs.declared.disk.StoreFault.{StoreFault}
use Rattle.col_disk.specs.declared.disk.StoreFault.TheVariants as fault
use Rattle.catalog_types.specs.declared.catalogue.Catalogue.{Catalogue}
use Rattle.catalog_types.specs.declared.catalogue.Projection.{Projection}
use Rattle.catalog_types.specs.declared.catalogue.Table as kept
use Rattle.db_model.specs.Database.{table_named, Database, Shape, Table}
use Rattle.db_model.specs.Epochs.{last_good}
use Rattle.db_model.specs.Events.{is_not_named, stale_names}
use Rattle.db_model.specs.Mover.{given_up, reached_to, refreshed, stale_of, Jobs, RefreshesAll, RefreshesFirst}
use Rattle.db_model.specs.Numbers.{IsDrawn}
use Rattle.db_model.specs.Sound.{IsSound, IsSoundDatabase}
use Rattle.db_model.specs.State.{State, Changes}
use Rattle.db_laws.proofs.Goods.{good_itself, good_least, IsGood}
use Rattle.folder_model.specs.Projections.{shape_of}
use Rattle.folder_model.specs.Tables.{StandForTables}
use Rattle.mover_policy.proofs.ByName.{reached_by_name}
use Rattle.sound_laws.specs.Moves.{change_at, reached_at, reached_in}
use Rattle.state_laws.proofs.Reached.{refreshed_state}
use Rattle.store_commit.specs.Making.{Makes}
use Rattle.store_commit.specs.Seen.{Seen, Stands}
use Rattle.stored_rows.specs.Stored.{Projected}
use Rattle.table_store.specs.Drawing.{FewContainers}
use Rattle.store_core.specs.Cuts.{ReopensFrom}
use Rattle.store_core.specs.Events.{Does}
use Rattle.store_core.specs.Jobs.{stale_place, AreDone, RefreshesAllOf, RefreshesAt, RefreshesOne}
use Rattle.store_core.specs.Running.{Running, running, IsState, Mover, mover_of, unworked}
use Rattle.store_core.proofs.Anew.{all_at, anew_few, anew_steps, changed_at, few_more, grown_anew, is_some_and, same_projection, some_and, of_projection, IsAnew}
use Rattle.table_jobs.specs.Jobs.{OfProjection}
use Rattle.store_core.proofs.Doing.{drawn_does}
use Rattle.store_core.proofs.Events.{renumbered, viewed}
use Rattle.store_core.proofs.Raising.{does_wider}
use Rattle.table_store.proofs.Counted.{StandsAt}
use Rattle.store_core.proofs.Placed.{good_reached}
use Rattle.store_core.proofs.Purging.{found_of, named_there}
use Rattle.store_core.proofs.Worked.{answered, drawn_with, failed, few_sixteen, spent_same, stopped_at, unit_fault, unit_ok, worked_begins, worked_draws, worked_ends, worked_fails, worked_more, Leaving, Turns, WorkedTo}

-- ---- the first projection that isn't up to date

walk : (epoch : ℕ) (ps : List Projection) (j : ℕ) (d : Projection) → j < length ps → not (get_or ps j d).fresh ≡ true → ((k : ℕ) → k < j → not (get_or ps k d).fresh ≡ false)
    → (p : Projection) × (slice_get ps j ≡ Some p) × (stale_names (map shape_of ps) ≡ p.name ∷ stale_names (change_at j (reached_to epoch) (map shape_of ps)))
walk epoch [] j d lt here before = absurd (omega (arith, lt))
walk epoch (x ∷ ps) zero d lt here before = (x, refl, ap (λ (b : Bool). map (λ s. s.name) (cond b (shape_of x ∷ filter (λ s. not s.fresh) (map shape_of ps)) (filter (λ s. not s.fresh) (map shape_of ps)))) here)
walk epoch (x ∷ ps) (suc j) d lt here before =
    let first : not x.fresh ≡ false = before 0 (omega arith) in
    let (p, at, names) = walk epoch ps j d (omega (arith, lt)) here (λ k less. before (suc k) (omega (arith, less))) in
    let skip : (ss : List Shape) → stale_names (shape_of x ∷ ss) ≡ stale_names ss =
    λ ss. ap (λ (b : Bool). map (λ s. s.name) (cond b (shape_of x ∷ filter (λ s. not s.fresh) ss) (filter (λ s. not s.fresh) ss))) first in
    (p, at, skip (map shape_of ps) ∙ names ∙ ap (λ (ns : List (List ℕ)). p.name ∷ ns) (sym (skip (change_at j (reached_to epoch) (map shape_of ps)))))

none_stale : (ps : List Projection) (d : Projection) → ((k : ℕ) → k < length ps → not (get_or ps k d).fresh ≡ false) → stale_names (map shape_of ps) ≡ []
none_stale [] d all = refl
none_stale (x ∷ ps) d all =
    let first : not x.fresh ≡ false = all 0 (omega arith) in
    ap (λ (b : Bool). map (λ s. s.name) (cond b (shape_of x ∷ filter (λ s. not s.fresh) (map shape_of ps)) (filter (λ s. not s.fresh) (map shape_of ps)))) first
    ∙ none_stale ps d (λ k less. all (suc k) (omega (arith, less)))

below : (a b : ℕ) → nat_lt a b ≡ true → a < b
below a b is = grind (arith, nat_tests, is)

not_below : (a b : ℕ) → nat_lt a b ≡ false → b ≤ a
not_below a b is = grind (arith, nat_tests, is)

first_stale : (epoch : ℕ) (ps : List Projection) (j : ℕ) → position (λ p. not p.fresh) ps ≡ Some j
    → (p : Projection) × (slice_get ps j ≡ Some p) × (stale_names (map shape_of ps) ≡ p.name ∷ stale_names (change_at j (reached_to epoch) (map shape_of ps)))
first_stale epoch ps j found = by (nat_lt (position_or_len (λ p. not p.fresh) ps) (length ps)) refl found
  where
    from : (qs : List Projection) (k : ℕ) → k ≡ position_or_len (λ p. not p.fresh) qs → k < length qs
        → (p : Projection) × (slice_get qs k ≡ Some p) × (stale_names (map shape_of qs) ≡ p.name ∷ stale_names (change_at k (reached_to epoch) (map shape_of qs)))
    from [] k is lt = absurd (omega (arith, lt))
    from (q ∷ qs) k is lt =
        walk epoch (q ∷ qs) k q lt
        (subst (λ (n : ℕ). not (get_or (q ∷ qs) n q).fresh ≡ true) (sym is) (passes_at_first (λ p. not p.fresh) (q ∷ qs) q (subst (λ (n : ℕ). n < length (q ∷ qs)) is lt)))
        (λ n less. fails_before_first (λ p. not p.fresh) (q ∷ qs) n q (subst (λ (m : ℕ). n < m) is less))

    by : (b : Bool) → nat_lt (position_or_len (λ p. not p.fresh) ps) (length ps) ≡ b → cond b (Some (position_or_len (λ p. not p.fresh) ps)) None ≡ Some j
        → (p : Projection) × (slice_get ps j ≡ Some p) × (stale_names (map shape_of ps) ≡ p.name ∷ stale_names (change_at j (reached_to epoch) (map shape_of ps)))
    by true lt is =
        let same : j ≡ position_or_len (λ p. not p.fresh) ps = cc in
        from ps j same (subst (λ (n : ℕ). n < length ps) (sym same) (below (position_or_len (λ p. not p.fresh) ps) (length ps) lt))
    by false lt is = absurd (cc)

no_stale : (ps : List Projection) → position (λ p. not p.fresh) ps ≡ None → stale_names (map shape_of ps) ≡ []
no_stale [] none = refl
no_stale (q ∷ qs) none = by (nat_lt (position_or_len (λ p. not p.fresh) (q ∷ qs)) (length (q ∷ qs))) refl none
  where
    by : (b : Bool) → nat_lt (position_or_len (λ p. not p.fresh) (q ∷ qs)) (length (q ∷ qs)) ≡ b → cond b (Some (position_or_len (λ p. not p.fresh) (q ∷ qs))) None ≡ None → stale_names (map shape_of (q ∷ qs)) ≡ []
    by true lt is = absurd (cc)
    by false lt is =
        let past = not_below (position_or_len (λ p. not p.fresh) (q ∷ qs)) (length (q ∷ qs)) lt in
        none_stale (q ∷ qs) q (λ k less. fails_before_first (λ p. not p.fresh) (q ∷ qs) k q (omega (arith, past, less)))

-- ---- in the database

-- the table of a catalogue that stands for one of the database
stands_for : (m : Contents) (mark : ℕ) (ts : List kept.Table) (pss : List (List Projected)) (us : List Table) (i : ℕ) (u : Table) → StandForTables m mark ts pss us → slice_get us i ≡ Some u → (t : kept.Table) × (slice_get ts i ≡ Some t) × (u.shapes ≡ map shape_of t.projections)
stands_for m mark [] [] [] i u stand none = absurd (cc)
stands_for m mark [] [] (v ∷ us) i u stand none = absurd stand
stands_for m mark [] (ps ∷ pss) us i u stand none = absurd stand
stands_for m mark (t ∷ ts) [] us i u stand is = absurd stand
stands_for m mark (t ∷ ts) (ps ∷ pss) [] i u stand is = absurd stand
stands_for m mark (t ∷ ts) (ps ∷ pss) (v ∷ us) zero u (here, more) is = let same : v ≡ u = cc in (t, refl, ap (λ (x : Table). x.shapes) (sym same) ∙ here.shapes)
stands_for m mark (t ∷ ts) (ps ∷ pss) (v ∷ us) (suc i) u (here, more) is = stands_for m mark ts pss us i u more is

-- a table of a name at a place, and the catalogue's there
pub record TableAt (name : List ℕ) (i : ℕ) (c : Catalogue) (d : Database) : Type 0 where
  pub table : Table
  pub at : slice_get d.tables i ≡ Some table
  pub named : table.name ≡ name
  pub found : table_named name d.tables ≡ Some table
  pub own : kept.Table
  pub own_at : slice_get c.tables i ≡ Some own
  pub shapes : table.shapes ≡ map shape_of own.projections

pub table_at : {D : Type 0} (disk : Ghosts D) (r : Running) (now : D) (state : State) (name : List ℕ) (i : ℕ) → IsState disk r now state → IsSomeAnd (slice_get state.database.tables i) (λ u. u.name ≡ name) → TableAt name i r.seen.catalogue state.database
table_at disk r now state name i here named =
    let d = state.database in
    let c = r.seen.catalogue in
    let (u, u_is, u_name) = some_and (slice_get d.tables i) (λ t. t.name ≡ name) named in
    let (t, t_is, shapes) = stands_for here.database.files c.ahm c.tables r.seen.stores d.tables i u here.database.are.tables u_is in
    record { table = u; at = u_is; named = u_name; found = found_of d i u name here.sound.database u_is u_name; own = t; own_at = t_is; shapes = shapes }

stale_here : (name : List ℕ) (i : ℕ) (c : Catalogue) (d : Database) → (at : TableAt name i c d) → stale_of name d ≡ stale_names (map shape_of at.own.projections)
stale_here name i c d at = ap (λ (o : Option Table). stale_names (option_map_or (λ t. t.shapes) o [])) at.found ∙ ap stale_names at.shapes

own_place : (i : ℕ) (c : Catalogue) (t : kept.Table) (o : Option ℕ) → slice_get c.tables i ≡ Some t → stale_place i c.tables ≡ o → position (λ p. not p.fresh) t.projections ≡ o
own_place i c t o at is = ap (option_and_then (λ (u : kept.Table). position (λ p. not p.fresh) u.projections)) (sym at) ∙ is

-- ---- one refresh, as an event of the store

-- the projection at a place of a table that stands for one of the database
pub stale_shape : {D : Type 0} (disk : Ghosts D) (r : Running) (now : D) (state : State) (i j : ℕ) (P : Projection → Type 0) → IsState disk r now state → OfProjection i j r.seen.catalogue P
    → (s : Shape) × StandsAt state.database.tables i j s × ((p : Projection) × (s ≡ shape_of p) × P p)
stale_shape disk r now state i j P here stale =
    let c = r.seen.catalogue in
    let (t, p, at, is) = of_projection i j c P stale in
    (shape_of p, stand here.database.files c.ahm c.tables r.seen.stores state.database.tables i t p here.database.are.tables at.table at.place, (p, refl, is))
  where
    mapped : (xs : List Projection) (k : ℕ) (p : Projection) → slice_get xs k ≡ Some p → slice_get (map shape_of xs) k ≡ Some (shape_of p)
    mapped [] k p none = absurd (cc)
    mapped (x ∷ xs) zero p is = let same : x ≡ p = cc in ap (λ (y : Projection). Some (shape_of y)) same
    mapped (x ∷ xs) (suc k) p is = mapped xs k p is

    stand : (m : Contents) (mark : ℕ) (ts : List kept.Table) (pss : List (List Projected)) (us : List Table) (k : ℕ) (t : kept.Table) (p : Projection) → StandForTables m mark ts pss us → slice_get ts k ≡ Some t → slice_get t.projections j ≡ Some p
        → StandsAt us k j (shape_of p)
    stand m mark [] [] [] k t p stands none is = absurd (cc)
    stand m mark [] [] (u ∷ us) k t p stands none is = absurd stands
    stand m mark [] (ps ∷ pss) us k t p stands none is = absurd stands
    stand m mark (v ∷ ts) [] us k t p stands at is = absurd stands
    stand m mark (v ∷ ts) (ps ∷ pss) [] k t p stands at is = absurd stands
    stand m mark (v ∷ ts) (ps ∷ pss) (u ∷ us) zero t p (first, more) at is =
        let same : v ≡ t = cc in
        ap (λ (ss : List Shape). slice_get ss j) first.shapes ∙ mapped v.projections j p (ap (λ (x : kept.Table). slice_get x.projections j) same ∙ is)
    stand m mark (v ∷ ts) (ps ∷ pss) (u ∷ us) (suc k) t p (first, more) at is = stand m mark ts pss us k t p more at is

-- one of its name
database_same : (i j : ℕ) (state : State) (s : Shape) → IsSoundDatabase state.database → StandsAt state.database.tables i j s → reached_at state.database.last i j state.database ≡ (refreshed s.name state).database
database_same i j state s sound at = reached_by_name state.database state.database.last i j s sound at

-- those that wait but for it
abbrev pub asked_but : List ℕ → Mover → Mover
asked_but name mover = mover_of (filter (is_not_named name) mover.asked) mover.busy mover.refreshing

pub refresh_does : {D F : Type 0} (disk : Ghosts D) (short : F) {old new : D} (was is : Seen) (sessions : List (List Changes)) (current : ℕ) (mover after : Mover) (now : Running) (i j : ℕ) (result : Result (Unit {0}) F) (state : State)
    → running was sessions current mover ≡ now → IsState disk now old state → OfProjection i j now.seen.catalogue (λ p. p.fresh ≡ false) → OfProjection i j now.seen.catalogue (λ p. after ≡ asked_but p.name mover)
    → ((d : Database) → Stands disk was old d → Makes disk short was is old new result d (reached_at d.last i j d))
    → OnOk result (IsAnew i j 2 was.catalogue is.catalogue) → Does disk short now (running is sessions current after) old new result state (RefreshesAt i j state)
refresh_does disk short {old} {new} was is sessions current mover after now i j result state view here stale left makes draws =
    let own = viewed disk old (running was sessions current mover) now state view here in
    let (s, at, (p, s_of, left_is)) = stale_shape disk now old state i j (λ q. after ≡ asked_but q.name mover) here left in
    let made = refreshed s.name state in
    let same : after ≡ asked_but s.name mover = left_is ∙ ap (λ (x : Shape). asked_but x.name mover) (sym s_of) in
    let sound : IsSound made = refreshed_state state s.name here.sound in
    let (t, t_is, s_is) = some_and (slice_get state.database.tables i) (λ u. slice_get u.shapes j ≡ Some s) at in
    subst (λ (r : Running). Does disk short r (running is sessions current after) old new result state (RefreshesAt i j state)) view
    (does_wider disk short (running was sessions current mover) (running is sessions current after) result state (IsDrawn state made) (RefreshesAt i j state)
    (λ new_state drawn. is_some_and (slice_get state.database.tables i) (λ u. IsSomeAnd (slice_get u.shapes j) (λ x. IsDrawn state (refreshed x.name state) new_state)) t t_is
    (is_some_and (slice_get t.shapes j) (λ x. IsDrawn state (refreshed x.name state) new_state) s s_is drawn))
    (drawn_does disk short was is sessions sessions current mover after result state made (state.parts + 2) own
    (subst (λ (e : Database). Makes disk short was is old new result state.database e) (database_same i j state s here.sound.database at) (makes state.database own.database))
    (grown_anew result i j 2 state was is (omega arith) own.next own.parts draws)
    (record {
      sessions = own.sessions;
      current = own.current;
      asked = ap (filter (is_not_named s.name)) own.asked ∙ sym (ap (λ (m : Mover). m.asked) same);
      busy = own.busy ∙ sym (ap (λ (m : Mover). m.busy) same);
      free = ap (λ (m : Mover). m.work) same;
      sound = renumbered made sound;
    })))

-- ---- one refresh, as a job of the statement

-- after so many refreshes of a table
pub record RefreshedTo (name : List ℕ) (start : State) (i jobs : ℕ) (d : Database) : Type 0 where
  pub sound : IsSoundDatabase d
  pub good : IsGood (last_good start.database) d
  pub named : IsSomeAnd (slice_get d.tables i) (λ u. u.name ≡ name)
  pub left : length (stale_of name d) + jobs ≡ length (stale_of name start.database)

abbrev pub KeptRefreshed : List ℕ → State → ℕ → ℕ → State → Type 0
KeptRefreshed name start i jobs mid = RefreshedTo name start i jobs mid.database

abbrev pub LeftRefreshed : List ℕ → State → Contents → Type 0
LeftRefreshed name start x = (after : State) × AreDone (RefreshesOne name) start after × ReopensFrom (last_good start.database) after x

refreshed_leaving : (name : List ℕ) (start : State) (i : ℕ) → Leaving (RefreshesOne name) (KeptRefreshed name start i) (LeftRefreshed name start) start
refreshed_leaving name start i jobs mid x done kept reopens =
    (mid, (jobs, done), record { epoch = last_good mid.database; from = good_least (last_good start.database) mid.database kept.good; closed = (good_itself mid.database kept.sound).closed; reopens = reopens })

some_wider : {X : Type 0} (o : Option X) (P Q : X → Type 0) → ((x : X) → P x → Q x) → IsSomeAnd o P → IsSomeAnd o Q
some_wider None P Q wider there = absurd there
some_wider (Some x) P Q wider there = wider x there

-- what is so of the projection at a place
pub drawn_at : (i j : ℕ) (d : Database) (s : Shape) (P : Shape → Type 0) → StandsAt d.tables i j s → IsSomeAnd (slice_get d.tables i) (λ t. IsSomeAnd (slice_get t.shapes j) P) → P s
drawn_at i j d s P at there =
    let (t, t_is, s_is) = some_and (slice_get d.tables i) (λ u. slice_get u.shapes j ≡ Some s) at in
    let (u, u_is, inner) = some_and (slice_get d.tables i) (λ v. IsSomeAnd (slice_get v.shapes j) P) there in
    let both : Some u ≡ Some t = sym u_is ∙ t_is in
    let same : u ≡ t = cc in
    let (x, x_is, holds) = some_and (slice_get u.shapes j) P inner in
    let two : Some x ≡ Some s = sym x_is ∙ ap (λ (v : Table). slice_get v.shapes j) same ∙ s_is in
    let one : x ≡ s = cc in
    subst P one holds

refreshed_turns : {D : Type 0} (disk : Ghosts D) (was : Running) (now : D) (name : List ℕ) (start : State) (jobs i j : ℕ) → stale_place i was.seen.catalogue.tables ≡ Some j → Turns disk was now (RefreshesOne name) (RefreshesAt i j) (KeptRefreshed name start i) jobs
refreshed_turns disk was now name start jobs i j place = record {
  wide = λ old new parts most at. wider old new parts most at;
  turns = λ old new here kept at. turned old new here kept at;
}
  where
    wider : (old new : State) (parts : ℕ) → parts ≤ old.parts + 2 → RefreshesAt i j old new → RefreshesAt i j old (record new { parts = parts })
    wider old new parts most at =
        some_wider (slice_get old.database.tables i) (λ t. IsSomeAnd (slice_get t.shapes j) (λ s. IsDrawn old (refreshed s.name old) new)) (λ t. IsSomeAnd (slice_get t.shapes j) (λ s. IsDrawn old (refreshed s.name old) (record new { parts = parts })))
        (λ t there. some_wider (slice_get t.shapes j) (λ s. IsDrawn old (refreshed s.name old) new) (λ s. IsDrawn old (refreshed s.name old) (record new { parts = parts })) (λ s drawn. drawn_with old (refreshed s.name old) new parts most drawn) there) at

    turned : (old new : State) → IsState disk was now old → KeptRefreshed name start i jobs old → RefreshesAt i j old new → RefreshesOne name old new × KeptRefreshed name start i (suc jobs) new
    turned old new here kept at =
        let d = old.database in
        let c = was.seen.catalogue in
        let after = reached_at d.last i j d in
        let own = table_at disk was now old name i here kept.named in
        let (p, p_is, names) = first_stale d.last own.own.projections j (own_place i c own.own (Some j) own.own_at place) in
        let shape_is : slice_get own.table.shapes j ≡ Some (shape_of p) = ap (λ (ss : List Shape). slice_get ss j) own.shapes ∙ mapped own.own.projections j p p_is in
        let stands : StandsAt d.tables i j (shape_of p) = is_some_and (slice_get d.tables i) (λ u. slice_get u.shapes j ≡ Some (shape_of p)) own.table own.at shape_is in
        let made = database_same i j old (shape_of p) here.sound.database stands in
        let drawn : IsDrawn old (refreshed p.name old) new = drawn_at i j d (shape_of p) (λ s. IsDrawn old (refreshed s.name old) new) stands at in
        let stale : stale_of name d ≡ p.name ∷ stale_names (change_at j (reached_to d.last) (map shape_of own.own.projections)) = stale_here name i c d own ∙ names in
        let job : RefreshesOne name old new = subst (λ (ns : List (List ℕ)). RefreshesFirst ns old new) (sym stale) drawn in
        let sound : IsSoundDatabase after = subst IsSoundDatabase (sym made) ((refreshed_state old p.name here.sound).database) in
        let after_at : slice_get after.tables i ≡ Some (reached_in d.last j own.table) = changed_at (reached_in d.last j) d.tables i ∙ ap (option_map (reached_in d.last j)) own.at in
        let found : table_named name after.tables ≡ Some (reached_in d.last j own.table) = found_of after i (reached_in d.last j own.table) name sound after_at own.named in
        let stale_after : stale_of name after ≡ stale_names (change_at j (reached_to d.last) (map shape_of own.own.projections)) =
        ap (λ (o : Option Table). stale_names (option_map_or (λ t. t.shapes) o [])) found ∙ ap (λ (ss : List Shape). stale_names (change_at j (reached_to d.last) ss)) own.shapes in
        let left : length (stale_of name after) + suc jobs ≡ length (stale_of name start.database) =
        one_less (length (stale_of name d)) (length (stale_names (change_at j (reached_to d.last) (map shape_of own.own.projections)))) (length (stale_of name after)) (length (stale_of name start.database)) (ap length stale) (ap length stale_after) kept.left in (
          job,
          subst (RefreshedTo name start i (suc jobs)) (made ∙ sym (ap (λ (x : State). x.database) drawn.same)) (record {
            sound = sound;
            good = good_reached (last_good start.database) d.last d i j kept.good.closed kept.good;
            named = is_some_and (slice_get after.tables i) (λ u. u.name ≡ name) (reached_in d.last j own.table) after_at own.named;
            left = left;
          }),
        )
      where
        mapped : (xs : List Projection) (k : ℕ) (q : Projection) → slice_get xs k ≡ Some q → slice_get (map shape_of xs) k ≡ Some (shape_of q)
        mapped [] k q none = absurd (cc)
        mapped (x ∷ xs) zero q is = let same : x ≡ q = cc in ap (λ (y : Projection). Some (shape_of y)) same
        mapped (x ∷ xs) (suc k) q is = mapped xs k q is

        one_less : (a b c e : ℕ) → a ≡ suc b → c ≡ b → a + jobs ≡ e → c + suc jobs ≡ e
        one_less a b c e one two three = omega (arith, one, two, three)

-- ---- refreshes of a table

pub record Refreshing {D : Type 0} (disk : Ghosts D) (name : List ℕ) (start : State) (i jobs : ℕ) (r : Running) (old now : D) : Type 0 where
  pub chain : WorkedTo disk (RefreshesOne name) (KeptRefreshed name start i) (LeftRefreshed name start) start jobs r old now
  pub few : FewContainers (start.parts + 2) r.seen.catalogue
  pub most : length (stale_of name start.database) ≤ 16

abbrev pub NoMore : Catalogue → Type 0
NoMore c = All (λ t. length t.projections ≤ 16) c.tables

filtered : {X : Type 0} (p : X → Bool) (xs : List X) → length (filter p xs) ≤ length xs
filtered p [] = omega arith
filtered p (x ∷ xs) = by (p x) (filtered p xs)
  where
    by : (b : Bool) → length (filter p xs) ≤ length xs → length (cond b (x ∷ filter p xs) (filter p xs)) ≤ length (x ∷ xs)
    by true le = omega (arith, le)
    by false le = omega (arith, le)

stale_most : (ps : List Projection) → length (stale_names (map shape_of ps)) ≤ length ps
stale_most ps =
    let some = filtered (λ (s : Shape). not s.fresh) (map shape_of ps) in
    omega (arith, some, length-map (filter (λ (s : Shape). not s.fresh) (map shape_of ps)) (λ s. s.name), length-map ps shape_of)

pub refreshing_begins : {D : Type 0} (disk : Ghosts D) (r : Running) (now : D) (start : State) (i : ℕ) (name : List ℕ) → IsState disk r now (given_up start) → IsSomeAnd (slice_get r.seen.catalogue.tables i) (λ t. t.name ≡ name) → NoMore r.seen.catalogue
    → Refreshing disk name start i 0 r now now
refreshing_begins disk r now start i name here named fit =
    let c = r.seen.catalogue in
    let there = named_there here.database.files c.ahm c.tables r.seen.stores start.database.tables i name here.database.are.tables named in
    let own = table_at disk r now (given_up start) name i here there in
    let few : length own.own.projections ≤ 16 = all_at (λ t. length t.projections ≤ 16) c.tables i own.own fit own.own_at in
    record {
      chain = worked_begins disk (RefreshesOne name) (KeptRefreshed name start i) (LeftRefreshed name start) r now start here
          (record { sound = here.sound.database; good = good_itself start.database here.sound.database; named = there; left = omega arith }) (refreshed_leaving name start i);
      few = few_more start.parts (start.parts + 2) c (omega arith) here.parts;
      most = all_most (length (stale_of name start.database)) (length (stale_names (map shape_of own.own.projections))) (length own.own.projections) (ap length (stale_here name i c start.database own)) (stale_most own.own.projections) few;
    }
  where
    all_most : (a b k : ℕ) → a ≡ b → b ≤ k → k ≤ 16 → a ≤ 16
    all_most a b k one two three = omega (arith, one, two, three)

pub refreshing_more : {D : Type 0} (disk : Ghosts D) {old now new : D} (name : List ℕ) (start : State) (i j jobs : ℕ) (was is : Running) (spent : Bool) → Refreshing disk name start i jobs was old now → spent ≡ nat_le 1152921504606846976 was.seen.catalogue.next → spent ≡ false
    → stale_place i was.seen.catalogue.tables ≡ Some j → OfProjection i j was.seen.catalogue (λ p. length p.containers ≡ 0)
    → ((state : State) → IsState disk was now state → Does disk fault.Memory was is now new unit_ok state (RefreshesAt i j state)) → IsAnew i j 2 was.seen.catalogue is.seen.catalogue → Refreshing disk name start i (suc jobs) is old new
refreshing_more disk {old} {now} {new} name start i j jobs was is spent m spent_is free place empty does anew =
    let old_c = was.seen.catalogue in
    let new_c = is.seen.catalogue in
    let (t, p, at, none) = of_projection i j old_c (λ q. length q.containers ≡ 0) empty in
    let few : FewContainers (start.parts + 2) new_c =
    anew_few (start.parts + 2) i j 2 old_c new_c anew (λ u q there. let bare : length q.containers ≡ 0 = subst (λ (x : Projection). length x.containers ≡ 0) (same_projection i j old_c t u p q at there) none in omega (arith, bare)) m.few in
    record {
      chain = worked_more disk (RefreshesOne name) (RefreshesAt i j) (KeptRefreshed name start i) (LeftRefreshed name start) start jobs was is spent m.chain spent_is free
          (refreshed_turns disk was now name start jobs i j place) (refreshed_leaving name start i) does (anew_steps start.parts i j 2 old_c new_c anew m.few) few;
      few = few;
      most = m.most;
    }

-- how many are left
at_most : {D : Type 0} (disk : Ghosts D) {old now : D} (name : List ℕ) (start : State) (i jobs : ℕ) (r : Running) → Refreshing disk name start i jobs r old now → jobs ≤ 16
at_most disk name start i jobs r m = let left = m.chain.kept.left in let most = m.most in omega (arith, left, most)

none_left : {D : Type 0} (disk : Ghosts D) {old now : D} (name : List ℕ) (start : State) (i jobs : ℕ) (r : Running) → (m : Refreshing disk name start i jobs r old now) → length (stale_of name m.chain.mid.database) ≡ 0 → RefreshesAllOf disk name r old now (answered false) start
none_left disk name start i jobs r m none =
    worked_ends disk (RefreshesOne name) (RefreshesAll name start) (KeptRefreshed name start i) (LeftRefreshed name start) start jobs r false m.chain (record {
      jobs = subst (λ (n : ℕ). Jobs (RefreshesOne name) n (given_up start) false m.chain.mid) (all_left (length (stale_of name m.chain.mid.database)) (length (stale_of name start.database)) none m.chain.kept.left) m.chain.done;
      drawn = worked_draws disk (RefreshesOne name) (KeptRefreshed name start i) (LeftRefreshed name start) start jobs r (few_sixteen jobs start.parts (at_most disk name start i jobs r m)) m.chain;
    })
  where
    all_left : (a e : ℕ) → a ≡ 0 → a + jobs ≡ e → jobs ≡ e
    all_left a e one two = omega (arith, one, two)

pub refreshing_done : {D : Type 0} (disk : Ghosts D) {old now : D} (name : List ℕ) (start : State) (i jobs : ℕ) (r : Running) → Refreshing disk name start i jobs r old now → stale_place i r.seen.catalogue.tables ≡ None → RefreshesAllOf disk name r old now (answered false) start
refreshing_done disk name start i jobs r m place =
    let mid = m.chain.mid in
    let own = table_at disk r _ mid name i m.chain.here m.chain.kept.named in
    none_left disk name start i jobs r m (ap length (stale_here name i r.seen.catalogue mid.database own ∙ no_stale own.own.projections (own_place i r.seen.catalogue own.own None own.own_at place)))

-- as many were refreshed as a table may have
pub refreshing_full : {D : Type 0} (disk : Ghosts D) {old now : D} (name : List ℕ) (start : State) (i jobs : ℕ) (r : Running) → Refreshing disk name start i jobs r old now → 16 ≤ jobs → RefreshesAllOf disk name r old now (answered false) start
refreshing_full disk name start i jobs r m all =
    let left = m.chain.kept.left in
    let most = m.most in
    none_left disk name start i jobs r m (none (length (stale_of name m.chain.mid.database)) (length (stale_of name start.database)) left most)
  where
    none : (a e : ℕ) → a + jobs ≡ e → e ≤ 16 → a ≡ 0
    none a e one two = omega (arith, one, two, all)

pub refreshing_stops : {D : Type 0} (disk : Ghosts D) {old now : D} (name : List ℕ) (start : State) (i j jobs : ℕ) (r : Running) (spent : Bool) → Refreshing disk name start i jobs r old now → spent ≡ nat_le 1152921504606846976 r.seen.catalogue.next → spent ≡ true
    → stale_place i r.seen.catalogue.tables ≡ Some j → RefreshesAllOf disk name r old now (answered true) start
refreshing_stops disk {old} {now} name start i j jobs r spent m spent_is all_spent place =
    let mid = m.chain.mid in
    let own = table_at disk r now mid name i m.chain.here m.chain.kept.named in
    let (p, p_is, names) = first_stale mid.database.last own.own.projections j (own_place i r.seen.catalogue own.own (Some j) own.own_at place) in
    let some : length (stale_of name mid.database) ≡ suc (length (stale_names (change_at j (reached_to mid.database.last) (map shape_of own.own.projections)))) = ap length (stale_here name i r.seen.catalogue mid.database own ∙ names) in
    worked_ends disk (RefreshesOne name) (RefreshesAll name start) (KeptRefreshed name start i) (LeftRefreshed name start) start jobs r true m.chain (record {
      jobs = stopped_at (RefreshesOne name) (length (stale_of name start.database)) jobs (given_up start) mid
          (before (length (stale_of name mid.database)) (length (stale_names (change_at j (reached_to mid.database.last) (map shape_of own.own.projections)))) (length (stale_of name start.database)) some m.chain.kept.left)
          m.chain.done (spent_same disk r now mid spent m.chain.here spent_is ∙ all_spent);
      drawn = worked_draws disk (RefreshesOne name) (KeptRefreshed name start i) (LeftRefreshed name start) start jobs r (few_sixteen jobs start.parts (at_most disk name start i jobs r m)) m.chain;
    })
  where
    before : (a b e : ℕ) → a ≡ suc b → a + jobs ≡ e → jobs < e
    before a b e one two = omega (arith, one, two)

pub refreshing_fails : {D : Type 0} (disk : Ghosts D) {old now new : D} (name : List ℕ) (start : State) (i j jobs : ℕ) (was is : Running) (spent : Bool) (f : StoreFault) → Refreshing disk name start i jobs was old now → spent ≡ nat_le 1152921504606846976 was.seen.catalogue.next → spent ≡ false
    → stale_place i was.seen.catalogue.tables ≡ Some j → ((state : State) → IsState disk was now state → Does disk fault.Memory was is now new (unit_fault f) state (RefreshesAt i j state)) → ((state : State) → IsState disk was now state → IsUnblamed f) → is ≡ unworked was
    → RefreshesAllOf disk name is old new (failed f) start
refreshing_fails disk {old} {now} {new} name start i j jobs was is spent f m spent_is free place does unblamed same =
    worked_fails disk (RefreshesOne name) (RefreshesAt i j) (RefreshesAll name start) (KeptRefreshed name start i) (LeftRefreshed name start) start jobs was is spent f m.chain spent_is free
    (refreshed_turns disk was now name start jobs i j place) (refreshed_leaving name start i) does unblamed same
