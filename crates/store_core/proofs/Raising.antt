-- Jobs that raise the epochs up to which projections are on disk, over a running store.
use Rattle.std.proofs.Common.{◌≡◌, ◌≤◌, ◌+◌, ◌*◌, inl, inr, ℕ, suc, Bool, true, false, List, length, refl, sym, ◌∙◌, ap, subst, arith}
use Rattle.std.specs.Prelude.{nat_le, Contains, Some, Result, Err, OnOk, IsSomeAnd}
use Rattle.std.specs.List.{All, slice_get}
use Rattle.std.proofs.lemmas.Bool.{OnTrue_at}
use Rattle.std.proofs.lemmas.List.Elements.{All-contains_itself, All-weaker}
use Rattle.std.proofs.lemmas.Result.{on_ok_weaker}
use Rattle.common_laws.specs.Maps.{Contents}
use Rattle.col_disk.specs.Faults.{IsUnblamed}
use Rattle.col_disk.specs.declared.disk.Disk.{Ghosts}
use Rattle.col_disk.specs.declared.disk.StoreFault.{StoreFault}
use Rattle.col_disk.specs.declared.disk.StoreFault.TheVariants as fault
use Rattle.col_disk.proofs.Moving.{leaves_wider}
use Rattle.catalog_types.specs.declared.catalogue.Catalogue.{Catalogue}
use Rattle.db_model.specs.Database.{Database, Shape, Table}
use Rattle.db_model.specs.Epochs.{all_shapes, last_good}
use Rattle.db_model.specs.Mover.{given_up, Rises, RaisesOne, RaisesAll}
use Rattle.db_model.specs.Numbers.{most_drawn, IsDrawn}
use Rattle.db_model.specs.Sound.{IsSound, IsSoundDatabase, IsSoundShape, IsSoundTable, ReachesMark}
use Rattle.db_model.specs.State.{State, Changes}
use Rattle.db_laws.proofs.Goods.{shapes_apart, Reaches}
use Rattle.mover_policy.specs.First.{all_projections}
use Rattle.mover_policy.proofs.ByName.{reached_by_name}
use Rattle.sound_laws.specs.Moves.{moved_at, reached_at}
use Rattle.state_laws.proofs.Reached.{risen_state}
use Rattle.store_commit.specs.Seen.{Seen, Stands}
use Rattle.table_jobs.proofs.Holding.{own_shape, IsOwnAt}
use Rattle.table_jobs.specs.Jobs.{IsRiseAt, MakesRise}
use Rattle.table_store.specs.Drawing.{FewContainers}
use Rattle.table_store.specs.Moving.{IsFreshAt}
use Rattle.store_core.specs.Cuts.{ReopensFrom}
use Rattle.store_core.specs.Events.{BeforeOrAfter, Does}
use Rattle.store_core.specs.Jobs.{RisesAt, RaisesAllOf}
use Rattle.store_core.specs.Running.{Running, running, IsState, Mover, work_dropped, unworked}
use Rattle.store_core.proofs.Anew.{all_at, some_and, is_some_and, anew_few, anew_steps, few_at, few_more, grown_anew, merged_anew, merged_fewer, most_of, most_parts, parts_of, IsAnew, IsMerged}
use Rattle.store_core.proofs.Chain.{reopens_still, still_itself, Still}
use Rattle.store_core.proofs.Doing.{drawn_does}
use Rattle.store_core.proofs.Events.{renumbered, viewed}
use Rattle.table_store.proofs.Counted.{StandsAt}
use Rattle.store_core.proofs.Placed.{cut_reached, good_reached}
use Rattle.store_core.proofs.Worked.{answered, drawn_with, failed, few_merges, rise_of, spent_same, stopped_at, unit_fault, unit_ok, worked_begins, worked_draws, worked_ends, worked_fails, worked_more, worked_short, Leaving, Turns, WorkedTo}

-- ---- a rise by its place

pub stands_all : (P : Shape → Type 0) (ts : List Table) (i j : ℕ) (s : Shape) → All (λ t. All P t.shapes) ts → StandsAt ts i j s → P s
stands_all P ts i j s all at =
    let (t, t_is, s_is) = some_and (slice_get ts i) (λ u. slice_get u.shapes j ≡ Some s) at in
    all_at P t.shapes j s (all_at (λ u. All P u.shapes) ts i t all t_is) s_is

contained : (ts : List Table) (i j : ℕ) (s : Shape) → StandsAt ts i j s → Contains (all_shapes ts) s
contained ts i j s at = stands_all (Contains (all_shapes ts)) ts i j s (shapes_apart (Contains (all_shapes ts)) ts (All-contains_itself (all_shapes ts))) at

abbrev MayRise : ℕ → Database → Shape → Type 0
MayRise epoch d s = (s.fresh ≡ true) × (s.lge ≤ epoch) × (epoch ≤ d.last)

risen_at : (d : Database) (epoch i j : ℕ) → IsRiseAt epoch i j d → (s : Shape) × StandsAt d.tables i j s × MayRise epoch d s
risen_at d epoch i j rise =
    let (t, t_is, inner) = some_and (slice_get d.tables i) (λ u. IsSomeAnd (slice_get u.shapes j) (MayRise epoch d)) rise in
    let (s, s_is, may) = some_and (slice_get t.shapes j) (MayRise epoch d) inner in
    (s, is_some_and (slice_get d.tables i) (λ u. slice_get u.shapes j ≡ Some s) t t_is s_is, may)

abbrev risen : (d : Database) (epoch i j : ℕ) (s : Shape) → IsSoundDatabase d → StandsAt d.tables i j s → MayRise epoch d s → Rises d (reached_at epoch i j d)
risen d epoch i j s sound at may = record {
  shape = s;
  epoch = epoch;
  there = contained d.tables i j s at;
  fresh = may.0;
  from = may.1;
  to = may.2;
  same = reached_by_name d epoch i j s sound at;
}

pub risen_rises : {D : Type 0} (disk : Ghosts D) (r : Running) (now : D) (state : State) (epoch i j : ℕ) → IsState disk r now state → IsRiseAt epoch i j state.database → Rises state.database (reached_at epoch i j state.database)
risen_rises disk r now state epoch i j here rise =
    let (s, at, may) = risen_at state.database epoch i j rise in
    risen state.database epoch i j s here.sound.database at may

-- a projection that is up to date and stands at a place of the store
pub moved_rises : {D : Type 0} (disk : Ghosts D) (r : Running) (now : D) (state : State) (i j : ℕ) → IsState disk r now state → IsFreshAt r.seen.stores i j → Rises state.database (moved_at i j state.database)
moved_rises disk r now state i j here fresh =
    let d = state.database in
    let (ps, ps_is, inner) = some_and (slice_get r.seen.stores i) (λ qs. IsSomeAnd (slice_get qs j) (λ q. q.entry.fresh ≡ true)) fresh in
    let (p, p_is, p_fresh) = some_and (slice_get ps j) (λ q. q.entry.fresh ≡ true) inner in
    let own : IsOwnAt r.seen.stores i j p = is_some_and (slice_get r.seen.stores i) (λ qs. IsSomeAnd (slice_get qs j) (λ q. q ≡ p)) ps ps_is (is_some_and (slice_get ps j) (λ q. q ≡ p) p p_is refl) in
    let there = own_shape here.database.files r.seen.catalogue r.seen.stores d i j p (λ s. s.fresh ≡ true) own here.database.are p_fresh in
    let (t, t_is, at_t) = some_and (slice_get d.tables i) (λ u. IsSomeAnd (slice_get u.shapes j) (λ s. s.fresh ≡ true)) there in
    let (s, s_is, s_fresh) = some_and (slice_get t.shapes j) (λ x. x.fresh ≡ true) at_t in
    let at : StandsAt d.tables i j s = is_some_and (slice_get d.tables i) (λ u. slice_get u.shapes j ≡ Some s) t t_is s_is in
    let shapes = All-weaker (IsSoundTable d) (λ u. All (IsSoundShape d) u.shapes) (λ u is. is.shapes) d.tables here.sound.database.tables in
    let reached : ReachesMark d s = OnTrue_at s_fresh (stands_all (IsSoundShape d) d.tables i j s shapes at) in
    risen d d.last i j s here.sound.database at (s_fresh, reached.closed, omega arith)

still_risen : (start : State) (d : Database) (epoch i j : ℕ) (s : Shape) → StandsAt d.tables i j s → MayRise epoch d s → IsSoundDatabase (reached_at epoch i j d) → Still start d → Still start (reached_at epoch i j d)
still_risen start d epoch i j s at may sound still =
    let told : Reaches (last_good start.database) s = stands_all (Reaches (last_good start.database)) d.tables i j s still.good.tables at in
    let least = told may.0 in
    let from = may.1 in
    record {
      cuts = λ upto. cut_reached upto epoch d i j s at may.0 ∙ still.cuts upto;
      last = still.last;
      good = good_reached (last_good start.database) epoch d i j (omega (arith, least, from)) still.good;
      sound = sound;
    }

-- ---- one of them, as an event of the store

pub does_wider : {D R F : Type 0} (disk : Ghosts D) (short : F) {old new : D} (was is : Running) (result : Result R F) (state : State) (A B : State → Type 0) → ((s : State) → A s → B s) → Does disk short was is old new result state A → Does disk short was is old new result state B
does_wider {D} disk short {old} {new} was is result state A B wider does = record {
  done = on_ok_weaker result (λ made. one made) does.done;
  undone = does.undone;
  any_moment = leaves_wider disk (λ x left. by x left) does.any_moment;
}
  where
    one : (after : State) × A after × IsState disk is new after → (after : State) × B after × IsState disk is new after
    one (after, made, here) = (after, wider after made, here)

    by : (x : Contents) → BeforeOrAfter state A x → BeforeOrAfter state B x
    by x (inl before) = inl before
    by x (inr (s, made, reopens)) = inr (s, wider s made, reopens)

abbrev risen_to : ℕ → ℕ → ℕ → State → State
risen_to epoch i j state = record state { database = reached_at epoch i j state.database }

pub rise_does : {D F : Type 0} (disk : Ghosts D) (short : F) {old new : D} (was is : Seen) (sessions : List (List Changes)) (current : ℕ) (mover after : Mover) (now : Running) (i j more : ℕ) (result : Result (Unit {0}) F) (state : State)
    → running was sessions current mover ≡ now → IsState disk now old state → after ≡ work_dropped mover → more ≤ 2 → ((d : Database) → Stands disk was old d → MakesRise disk short was is old new result d i j) → OnOk result (IsAnew i j more was.catalogue is.catalogue)
    → Does disk short now (running is sessions current after) old new result state (RisesAt i j state)
rise_does disk short {old} {new} was is sessions current mover after now i j more result state view here given most makes draws =
    let own = viewed disk old (running was sessions current mover) now state view here in
    let one = makes state.database own.database in
    let (s, at, may) = risen_at state.database one.epoch i j one.rises in
    let made = risen_to one.epoch i j state in
    let sound : IsSound made = risen_state state made.database (risen state.database one.epoch i j s own.sound.database at may) own.sound in
    subst (λ (r : Running). Does disk short r (running is sessions current after) old new result state (RisesAt i j state)) view
    (does_wider disk short (running was sessions current mover) (running is sessions current after) result state (IsDrawn state made) (RisesAt i j state) (λ after drawn. record { epoch = one.epoch; rises = one.rises; drawn = drawn })
    (drawn_does disk short was is sessions sessions current mover after result state made (state.parts + 2) own one.makes
    (grown_anew result i j more state was is most own.next own.parts draws)
    (record { sessions = own.sessions; current = own.current; asked = own.asked ∙ sym (ap (λ (m : Mover). m.asked) given); busy = own.busy ∙ sym (ap (λ (m : Mover). m.busy) given); free = ap (λ (m : Mover). m.work) given; sound = renumbered made sound })))

pub on_merged : {F : Type 0} (result : Result (Unit {0}) F) (i j : ℕ) (old new : Catalogue) → OnOk result (IsMerged i j old new) → OnOk result (IsAnew i j 0 old new)
on_merged result i j old new merged = on_ok_weaker result (λ one. merged_anew i j old new one) merged

-- ---- one of them, as a job of a statement

abbrev pub KeptRaised : (Database → Type 0) → State → ℕ → State → Type 0
KeptRaised Named start jobs mid = Still start mid.database × Named mid.database

abbrev pub LeftRaised : State → Contents → Type 0
LeftRaised start x = ReopensFrom (last_good start.database) start x

pub raised_turns : {D : Type 0} (disk : Ghosts D) (was : Running) (now : D) (meant : Shape → Bool) (Named : Database → Type 0) (start : State) (jobs i j : ℕ) → ((d : Database) (s : Shape) → Named d → StandsAt d.tables i j s → meant s ≡ true)
    → ((d : Database) (epoch : ℕ) → Named d → Named (reached_at epoch i j d)) → Turns disk was now (RaisesOne meant) (RisesAt i j) (KeptRaised Named start) jobs
raised_turns disk was now meant Named start jobs i j means stays = record {
  wide = λ old new parts most at. record { epoch = at.epoch; rises = at.rises; drawn = drawn_with old (risen_to at.epoch i j old) new parts most at.drawn };
  turns = λ old new here kept at. turned old new here kept at;
}
  where
    turned : (old new : State) → IsState disk was now old → KeptRaised Named start jobs old → RisesAt i j old new → RaisesOne meant old new × KeptRaised Named start (suc jobs) new
    turned old new here (still, named) at =
        let d = old.database in
        let after = reached_at at.epoch i j d in
        let (s, there, may) = risen_at d at.epoch i j at.rises in
        let rises : Rises d after = risen d at.epoch i j s here.sound.database there may in
        let sound : IsSoundDatabase after = (risen_state old after rises here.sound).database in
        let is : new.database ≡ after = ap (λ (x : State). x.database) at.drawn.same in
        ((after, rises, means d s named there, at.drawn), subst (λ (e : Database). Still start e × Named e) (sym is) (still_risen start d at.epoch i j s there may sound still, stays d at.epoch named))

pub raised_leaving : (meant : Shape → Bool) (Named : Database → Type 0) (start : State) → Leaving (RaisesOne meant) (KeptRaised Named start) (LeftRaised start) start
raised_leaving meant Named start jobs mid x done (still, named) reopens = reopens_still start mid.database x still reopens

pub raised_all : {D : Type 0} (disk : Ghosts D) (meant : Shape → Bool) (Named : Database → Type 0) {old now : D} (start : State) (jobs : ℕ) (r : Running) → jobs * rise_of start.parts ≤ most_drawn start.parts
    → WorkedTo disk (RaisesOne meant) (KeptRaised Named start) (LeftRaised start) start jobs r old now → RaisesAllOf disk meant r old now (answered false) start
raised_all disk meant Named start jobs r most chain =
    worked_ends disk (RaisesOne meant) (RaisesAll meant start) (KeptRaised Named start) (LeftRaised start) start jobs r false chain
    (record { count = jobs; jobs = chain.done; drawn = worked_draws disk (RaisesOne meant) (KeptRaised Named start) (LeftRaised start) start jobs r most chain })

-- it stops where the numbers are spent
pub raised_part : {D : Type 0} (disk : Ghosts D) (meant : Shape → Bool) (Named : Database → Type 0) {old now : D} (start : State) (jobs : ℕ) (r : Running) (spent : Bool) → jobs * rise_of start.parts ≤ most_drawn start.parts
    → WorkedTo disk (RaisesOne meant) (KeptRaised Named start) (LeftRaised start) start jobs r old now → spent ≡ nat_le 1152921504606846976 r.seen.catalogue.next → spent ≡ true → RaisesAllOf disk meant r old now (answered true) start
raised_part disk meant Named {old} {now} start jobs r spent most chain spent_is all_spent =
    worked_ends disk (RaisesOne meant) (RaisesAll meant start) (KeptRaised Named start) (LeftRaised start) start jobs r true chain (record {
      count = suc jobs;
      jobs = stopped_at (RaisesOne meant) (suc jobs) jobs (given_up start) chain.mid (omega arith) chain.done (spent_same disk r now chain.mid spent chain.here spent_is ∙ all_spent);
      drawn = worked_draws disk (RaisesOne meant) (KeptRaised Named start) (LeftRaised start) start jobs r most chain;
    })

-- ---- MERGEOUT

abbrev pub any_shape : Shape → Bool
any_shape s = true

abbrev pub AnyNames : Database → Type 0
AnyNames d = Unit {0}

pub record Merging {D : Type 0} (disk : Ghosts D) (start : State) (r : Running) (old now : D) : Type 0 where
  pub jobs : ℕ
  pub chain : WorkedTo disk (RaisesOne any_shape) (KeptRaised AnyNames start) (LeftRaised start) start jobs r old now
  pub few : FewContainers start.parts r.seen.catalogue
  pub fewer : jobs + jobs + parts_of r.seen.catalogue.tables ≤ 16384 * start.parts

pub merging_begins : {D : Type 0} (disk : Ghosts D) (r : Running) (now : D) (start : State) → IsState disk r now (given_up start) → length (all_projections r.seen.catalogue.tables) ≤ 16384 → Merging disk start r now now
merging_begins disk r now start here fit =
    let most = most_parts start.parts (length (all_projections r.seen.catalogue.tables)) (parts_of r.seen.catalogue.tables) (most_of start.parts r.seen.catalogue.tables here.parts) fit in
    record {
      jobs = 0;
      chain = worked_begins disk (RaisesOne any_shape) (KeptRaised AnyNames start) (LeftRaised start) r now start here (still_itself start here.sound.database, tt) (raised_leaving any_shape AnyNames start);
      few = here.parts;
      fewer = omega (arith, most);
    }

few_done : (jobs k parts : ℕ) → jobs + jobs + k ≤ 16384 * parts → jobs ≤ 8192 * parts
few_done jobs k parts le = omega (arith, le)

merged_turns : {D : Type 0} (disk : Ghosts D) (was : Running) (now : D) (start : State) (jobs i j : ℕ) → Turns disk was now (RaisesOne any_shape) (RisesAt i j) (KeptRaised AnyNames start) jobs
merged_turns disk was now start jobs i j = raised_turns disk was now any_shape AnyNames start jobs i j (λ d s named there. refl) (λ d epoch named. tt)

pub merging_more : {D : Type 0} (disk : Ghosts D) {old now new : D} (start : State) (i j : ℕ) (was is : Running) (spent : Bool) → Merging disk start was old now → spent ≡ nat_le 1152921504606846976 was.seen.catalogue.next → spent ≡ false
    → ((state : State) → IsState disk was now state → Does disk fault.Memory was is now new unit_ok state (RisesAt i j state)) → IsMerged i j was.seen.catalogue is.seen.catalogue → Merging disk start is old new
merging_more disk {old} {now} {new} start i j was is spent m spent_is free does merged =
    let old_c = was.seen.catalogue in
    let new_c = is.seen.catalogue in
    let anew = merged_anew i j old_c new_c merged in
    let few : FewContainers start.parts new_c = anew_few start.parts i j 0 old_c new_c anew (λ t p at. let le = few_at start.parts i j old_c t p m.few at in omega (arith, le)) m.few in
    let less = merged_fewer i j old_c new_c merged in
    let fewer = m.fewer in
    record {
      jobs = suc m.jobs;
      chain = worked_more disk (RaisesOne any_shape) (RisesAt i j) (KeptRaised AnyNames start) (LeftRaised start) start m.jobs was is spent m.chain spent_is free
          (merged_turns disk was now start m.jobs i j) (raised_leaving any_shape AnyNames start) does
          (anew_steps start.parts i j 0 old_c new_c anew (few_more start.parts (start.parts + 2) old_c (omega arith) m.few)) (few_more start.parts (start.parts + 2) new_c (omega arith) few);
      few = few;
      fewer = omega (arith, fewer, less);
    }

pub merging_done : {D : Type 0} (disk : Ghosts D) {old now : D} (start : State) (r : Running) → Merging disk start r old now → RaisesAllOf disk any_shape r old now (answered false) start
merging_done disk start r m = raised_all disk any_shape AnyNames start m.jobs r (few_merges m.jobs start.parts (few_done m.jobs (parts_of r.seen.catalogue.tables) start.parts m.fewer)) m.chain

pub merging_stops : {D : Type 0} (disk : Ghosts D) {old now : D} (start : State) (r : Running) (spent : Bool) → Merging disk start r old now → spent ≡ nat_le 1152921504606846976 r.seen.catalogue.next → spent ≡ true → RaisesAllOf disk any_shape r old now (answered true) start
merging_stops disk start r spent m spent_is all_spent =
    raised_part disk any_shape AnyNames start m.jobs r spent (few_merges m.jobs start.parts (few_done m.jobs (parts_of r.seen.catalogue.tables) start.parts m.fewer)) m.chain spent_is all_spent

pub merging_short : {D : Type 0} (disk : Ghosts D) {old now : D} (start : State) (r : Running) → Merging disk start r old now → RaisesAllOf disk any_shape r old now (Err fault.Memory) start
merging_short disk start r m = worked_short disk (RaisesOne any_shape) (RaisesAll any_shape start) (KeptRaised AnyNames start) (LeftRaised start) start m.jobs r m.chain

pub merging_fails : {D : Type 0} (disk : Ghosts D) {old now new : D} (start : State) (i j : ℕ) (was is : Running) (spent : Bool) (f : StoreFault) → Merging disk start was old now → spent ≡ nat_le 1152921504606846976 was.seen.catalogue.next → spent ≡ false
    → ((state : State) → IsState disk was now state → Does disk fault.Memory was is now new (unit_fault f) state (RisesAt i j state)) → ((state : State) → IsState disk was now state → IsUnblamed f) → is ≡ unworked was → RaisesAllOf disk any_shape is old new (failed f) start
merging_fails disk {old} {now} {new} start i j was is spent f m spent_is free does unblamed same =
    worked_fails disk (RaisesOne any_shape) (RisesAt i j) (RaisesAll any_shape start) (KeptRaised AnyNames start) (LeftRaised start) start m.jobs was is spent f m.chain spent_is free
    (merged_turns disk was now start m.jobs i j) (raised_leaving any_shape AnyNames start) does unblamed same
