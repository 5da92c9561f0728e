-- PURGE_TABLE over a running store.
use Rattle.std.proofs.Common.{◌≡◌, ◌<◌, ◌≤◌, ◌+◌, ℕ, zero, suc, Bool, true, false, cond, List, [], ◌∷◌, refl, sym, ◌∙◌, ap, subst, arith}
use Rattle.std.specs.Prelude.{◌||◌, nat_le, bytes_eq, find, Option, Some, None, option_map, IsSomeAnd}
use Rattle.std.specs.List.{enumerate_from, list_any, slice_get}
use Rattle.std.specs.Option.{option_map_or}
use Rattle.std.proofs.lemmas.Slice.Eq.{bytes_eq-Decides}
use Rattle.common_laws.specs.Maps.{Contents}
use Rattle.col_disk.specs.Faults.{IsUnblamed}
use Rattle.col_disk.specs.declared.disk.Disk.{Ghosts}
use Rattle.col_disk.specs.declared.disk.StoreFault.{StoreFault}
use Rattle.col_disk.specs.declared.disk.StoreFault.TheVariants as fault
use Rattle.catalog_types.specs.declared.catalogue.Table as kept
use Rattle.db_model.specs.Database.{table_named, Database, Shape, Table}
use Rattle.db_model.specs.Views.{table_found}
use Rattle.db_model.specs.Mover.{given_up, reached_to, RaisesOne, RaisesAll}
use Rattle.db_model.specs.Sound.{IsSoundDatabase}
use Rattle.db_model.specs.State.{State}
use Rattle.folder_model.specs.Tables.{StandForTables}
use Rattle.sound_laws.specs.Moves.{change_at, reached_at, reached_in}
use Rattle.sound_laws.proofs.Changes.{found_all, names_differ}
use Rattle.stored_rows.specs.Stored.{Projected}
use Rattle.table_store.specs.Drawing.{FewContainers}
use Rattle.store_core.specs.Events.{Does}
use Rattle.store_core.specs.Jobs.{is_of, RaisesAllOf, RisesAt}
use Rattle.store_core.specs.Running.{Running, IsState, unworked}
use Rattle.store_core.proofs.Anew.{all_at, anew_few, anew_steps, changed_at, few_from, few_later, few_more, few_on, is_some_and, mapped_some, some_and, FewFrom, IsAnew}
use Rattle.store_core.proofs.Chain.{still_itself}
use Rattle.table_store.proofs.Counted.{StandsAt}
use Rattle.store_core.proofs.Raising.{raised_all, raised_leaving, raised_part, raised_turns, KeptRaised, LeftRaised}
use Rattle.store_core.proofs.Worked.{answered, failed, few_sixteen, unit_fault, unit_ok, worked_begins, worked_fails, worked_more, Turns, WorkedTo}

-- ---- a table by its place

pub named_there : (m : Contents) (mark : ℕ) (ts : List kept.Table) (pss : List (List Projected)) (us : List Table) (i : ℕ) (name : List ℕ) → StandForTables m mark ts pss us → IsSomeAnd (slice_get ts i) (λ t. t.name ≡ name) → IsSomeAnd (slice_get us i) (λ u. u.name ≡ name)
named_there m mark [] pss us i name stand there = absurd there
named_there m mark (t ∷ ts) [] us i name stand there = absurd stand
named_there m mark (t ∷ ts) (ps ∷ pss) [] i name stand there = absurd stand
named_there m mark (t ∷ ts) (ps ∷ pss) (u ∷ us) zero name (here, more) there = here.name ∙ there
named_there m mark (t ∷ ts) (ps ∷ pss) (u ∷ us) (suc i) name (here, more) there = named_there m mark ts pss us i name more there

-- the table of a name is the one at its place
pub found_of : (d : Database) (i : ℕ) (u : Table) (name : List ℕ) → IsSoundDatabase d → slice_get d.tables i ≡ Some u → u.name ≡ name → table_named name d.tables ≡ Some u
found_of d i u name sound at is =
    subst (λ (n : List ℕ). table_named n d.tables ≡ Some u) is (all_at (λ v. table_named v.name d.tables ≡ Some v) d.tables i u (found_all d.tables (names_differ d sound)) at)

pub found_also : (name : List ℕ) (k : ℕ) (ts : List Table) → option_map (λ e. e.1) (find (λ e. bytes_eq e.1.name name) (enumerate_from k ts)) ≡ table_named name ts
found_also name k [] = refl
found_also name k (t ∷ ts) = by (bytes_eq t.name name) (found_also name (k + 1) ts)
  where
    by : (b : Bool) → option_map (λ e. e.1) (find (λ e. bytes_eq e.1.name name) (enumerate_from (k + 1) ts)) ≡ table_named name ts
        → option_map (λ (e : ℕ × Table). e.1) (cond b (Some (k, t)) (find (λ e. bytes_eq e.1.name name) (enumerate_from (k + 1) ts))) ≡ cond b (Some t) (table_named name ts)
    by true rest = refl
    by false rest = rest

pub shapes_of : (o : Option (ℕ × Table)) (t : Table) → option_map (λ e. e.1) o ≡ Some t → option_map_or (λ e. e.1.shapes) o [] ≡ t.shapes
shapes_of None t is = absurd (cc)
shapes_of (Some e) t is = let same : e.1 ≡ t = cc in ap (λ (u : Table). u.shapes) same

-- ---- a projection is one of the table

or_left : (a b : Bool) → a ≡ true → (a || b) ≡ true
or_left true b is = refl
or_left false b is = absurd (cc)

or_right : (a b : Bool) → b ≡ true → (a || b) ≡ true
or_right true b is = refl
or_right false b is = is

any_at : (ss : List Shape) (j : ℕ) (s : Shape) → slice_get ss j ≡ Some s → list_any (λ x. bytes_eq x.name s.name) ss ≡ true
any_at [] j s none = absurd (cc)
any_at (x ∷ ss) zero s is =
    let same : x ≡ s = cc in
    let itself : bytes_eq x.name x.name ≡ true = (bytes_eq-Decides x.name x.name).1 refl in
    or_left (bytes_eq x.name s.name) (list_any (λ y. bytes_eq y.name s.name) ss) (subst (λ (y : Shape). bytes_eq x.name y.name ≡ true) same itself)
any_at (x ∷ ss) (suc j) s is = or_right (bytes_eq x.name s.name) (list_any (λ y. bytes_eq y.name s.name) ss) (any_at ss j s is)

-- each projection of the table at a place is one of the table of a name
abbrev pub NamedAt : List ℕ → State → ℕ → Database → Type 0
NamedAt name start i d = (j : ℕ) (s : Shape) → StandsAt d.tables i j s → is_of name start s ≡ true

named_first : (start : State) (i : ℕ) (name : List ℕ) → IsSoundDatabase start.database → IsSomeAnd (slice_get start.database.tables i) (λ u. u.name ≡ name) → NamedAt name start i start.database
named_first start i name sound named j s at =
    let d = start.database in
    let (u, u_is, s_is) = some_and (slice_get d.tables i) (λ t. slice_get t.shapes j ≡ Some s) at in
    let (v, v_is, v_name) = some_and (slice_get d.tables i) (λ t. t.name ≡ name) named in
    let both : Some v ≡ Some u = sym v_is ∙ u_is in
    let same : v ≡ u = cc in
    let found : table_named name d.tables ≡ Some u = found_of d i u name sound u_is (subst (λ (t : Table). t.name ≡ name) same v_name) in
    ap (λ (ss : List Shape). list_any (λ x. bytes_eq x.name s.name) ss) (shapes_of (table_found name d.tables) u (found_also name 0 d.tables ∙ found)) ∙ any_at u.shapes j s s_is

shape_before : (epoch : ℕ) (ss : List Shape) (k j : ℕ) (s : Shape) → slice_get (change_at k (reached_to epoch) ss) j ≡ Some s → (x : Shape) × (slice_get ss j ≡ Some x) × (x.name ≡ s.name)
shape_before epoch [] k j s none = absurd (cc)
shape_before epoch (x ∷ ss) zero zero s is = let same : reached_to epoch x ≡ s = cc in (x, refl, ap (λ (y : Shape). y.name) same)
shape_before epoch (x ∷ ss) zero (suc j) s is = (s, is, refl)
shape_before epoch (x ∷ ss) (suc k) zero s is = (s, is, refl)
shape_before epoch (x ∷ ss) (suc k) (suc j) s is = shape_before epoch ss k j s is

named_still : (name : List ℕ) (start : State) (i k : ℕ) (d : Database) (epoch : ℕ) → NamedAt name start i d → NamedAt name start i (reached_at epoch i k d)
named_still name start i k d epoch named j s at =
    let (v, v_is, s_is) = some_and (slice_get (change_at i (reached_in epoch k) d.tables) i) (λ t. slice_get t.shapes j ≡ Some s) at in
    let (u, u_is, made) = mapped_some (reached_in epoch k) (slice_get d.tables i) v (sym (changed_at (reached_in epoch k) d.tables i) ∙ v_is) in
    let (x, x_is, same) = shape_before epoch u.shapes k j s (ap (λ (t : Table). slice_get t.shapes j) made ∙ s_is) in
    ap (λ (n : List ℕ). is_of name start (record s { name = n })) (sym same) ∙ named j x (is_some_and (slice_get d.tables i) (λ t. slice_get t.shapes j ≡ Some x) u u_is x_is)

-- ---- the projections of the table up to a place

pub record Purging {D : Type 0} (disk : Ghosts D) (name : List ℕ) (start : State) (i place : ℕ) (r : Running) (old now : D) : Type 0 where
  pub jobs : ℕ
  pub below : jobs ≤ place
  pub chain : WorkedTo disk (RaisesOne (is_of name start)) (KeptRaised (NamedAt name start i) start) (LeftRaised start) start jobs r old now
  pub few : FewContainers (start.parts + 1) r.seen.catalogue
  pub later : FewFrom start.parts i place r.seen.catalogue

pub purging_begins : {D : Type 0} (disk : Ghosts D) (r : Running) (now : D) (start : State) (i : ℕ) (name : List ℕ) → IsState disk r now (given_up start) → IsSomeAnd (slice_get r.seen.catalogue.tables i) (λ t. t.name ≡ name) → Purging disk name start i 0 r now now
purging_begins disk r now start i name here named =
    let c = r.seen.catalogue in
    let there = named_there here.database.files c.ahm c.tables r.seen.stores start.database.tables i name here.database.are.tables named in
    record {
      jobs = 0;
      below = omega arith;
      chain = worked_begins disk (RaisesOne (is_of name start)) (KeptRaised (NamedAt name start i) start) (LeftRaised start) r now start here
          (still_itself start here.sound.database, named_first start i name here.sound.database there) (raised_leaving (is_of name start) (NamedAt name start i) start);
      few = few_more start.parts (start.parts + 1) c (omega arith) here.parts;
      later = few_from start.parts i c here.parts;
    }

-- a projection is passed over
pub purging_on : {D : Type 0} (disk : Ghosts D) {old now : D} (name : List ℕ) (start : State) (i place : ℕ) (r : Running) → Purging disk name start i place r old now → Purging disk name start i (place + 1) r old now
purging_on disk name start i place r p =
    let below = p.below in
    record { jobs = p.jobs; below = omega (arith, below); chain = p.chain; few = p.few; later = few_on start.parts i place r.seen.catalogue p.later }

purged_turns : {D : Type 0} (disk : Ghosts D) (was : Running) (now : D) (name : List ℕ) (start : State) (jobs i place : ℕ) → Turns disk was now (RaisesOne (is_of name start)) (RisesAt i place) (KeptRaised (NamedAt name start i) start) jobs
purged_turns disk was now name start jobs i place =
    raised_turns disk was now (is_of name start) (NamedAt name start i) start jobs i place (λ d s named there. named place s there) (λ d epoch named. named_still name start i place d epoch named)

pub purging_more : {D : Type 0} (disk : Ghosts D) {old now new : D} (name : List ℕ) (start : State) (i place : ℕ) (was is : Running) (spent : Bool) → Purging disk name start i place was old now → spent ≡ nat_le 1152921504606846976 was.seen.catalogue.next → spent ≡ false
    → ((state : State) → IsState disk was now state → Does disk fault.Memory was is now new unit_ok state (RisesAt i place state)) → IsAnew i place 1 was.seen.catalogue is.seen.catalogue → Purging disk name start i (place + 1) is old new
purging_more disk {old} {now} {new} name start i place was is spent p spent_is free does anew =
    let old_c = was.seen.catalogue in
    let new_c = is.seen.catalogue in
    let few : FewContainers (start.parts + 1) new_c = anew_few (start.parts + 1) i place 1 old_c new_c anew (λ t q at. let le = p.later t q place at (omega arith) in omega (arith, le)) p.few in
    let below = p.below in
    record {
      jobs = suc p.jobs;
      below = omega (arith, below);
      chain = worked_more disk (RaisesOne (is_of name start)) (RisesAt i place) (KeptRaised (NamedAt name start i) start) (LeftRaised start) start p.jobs was is spent p.chain spent_is free
          (purged_turns disk was now name start p.jobs i place) (raised_leaving (is_of name start) (NamedAt name start i) start) does
          (anew_steps start.parts i place 1 old_c new_c anew (few_more (start.parts + 1) (start.parts + 2) old_c (omega arith) p.few)) (few_more (start.parts + 1) (start.parts + 2) new_c (omega arith) few);
      few = few;
      later = few_later start.parts i place 1 old_c new_c anew p.later;
    }

pub purging_done : {D : Type 0} (disk : Ghosts D) {old now : D} (name : List ℕ) (start : State) (i place : ℕ) (r : Running) → place ≤ 16 → Purging disk name start i place r old now → RaisesAllOf disk (is_of name start) r old now (answered false) start
purging_done disk name start i place r most p = let below = p.below in raised_all disk (is_of name start) (NamedAt name start i) start p.jobs r (few_sixteen p.jobs start.parts (omega (arith, below, most))) p.chain

pub purging_stops : {D : Type 0} (disk : Ghosts D) {old now : D} (name : List ℕ) (start : State) (i place : ℕ) (r : Running) (spent : Bool) → place < 16 → Purging disk name start i place r old now → spent ≡ nat_le 1152921504606846976 r.seen.catalogue.next → spent ≡ true
    → RaisesAllOf disk (is_of name start) r old now (answered true) start
purging_stops disk name start i place r spent most p spent_is all_spent =
    let below = p.below in raised_part disk (is_of name start) (NamedAt name start i) start p.jobs r spent (few_sixteen p.jobs start.parts (omega (arith, below, most))) p.chain spent_is all_spent

pub purging_fails : {D : Type 0} (disk : Ghosts D) {old now new : D} (name : List ℕ) (start : State) (i place : ℕ) (was is : Running) (spent : Bool) (f : StoreFault) → Purging disk name start i place was old now → spent ≡ nat_le 1152921504606846976 was.seen.catalogue.next → spent ≡ false
    → ((state : State) → IsState disk was now state → Does disk fault.Memory was is now new (unit_fault f) state (RisesAt i place state)) → ((state : State) → IsState disk was now state → IsUnblamed f) → is ≡ unworked was → RaisesAllOf disk (is_of name start) is old new (failed f) start
purging_fails disk {old} {now} {new} name start i place was is spent f p spent_is free does unblamed same =
    worked_fails disk (RaisesOne (is_of name start)) (RisesAt i place) (RaisesAll (is_of name start) start) (KeptRaised (NamedAt name start i) start) (LeftRaised start) start p.jobs was is spent f p.chain spent_is free
    (purged_turns disk was now name start p.jobs i place) (raised_leaving (is_of name start) (NamedAt name start i) start) does unblamed same
