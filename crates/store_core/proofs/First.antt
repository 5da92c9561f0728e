-- The projection that is moved out first.
use Rattle.std.proofs.Common.{◌≡◌, ◌<◌, inl, inr, ℕ, zero, suc, length, get_or, arith, Bool, true, false, cond, List, [], ◌∷◌, map, refl, sym, ◌∙◌, ap, subst}
use Rattle.std.specs.Prelude.{◌&&◌, not, find, is_some, Result, Ok, Err, Option, Some, None, option_map, option_and_then, IsErrOf, IsSomeAnd}
use Rattle.std.specs.List.{All, list_all, slice_get}
use Rattle.std.proofs.lemmas.List.Elements.{All-head, All-tail, filter_passes}
use Rattle.common_laws.specs.Maps.{Contents}
use Rattle.col_disk.specs.declared.disk.Disk.{Ghosts}
use Rattle.col_disk.specs.declared.disk.StoreFault.{StoreFault}
use Rattle.col_disk.specs.declared.disk.StoreFault.TheVariants as fault
use Rattle.col_disk.proofs.Moving.{leaves_wider, moved_none}
use Rattle.catalog_types.specs.declared.catalogue.Catalogue.{Catalogue}
use Rattle.catalog_types.specs.declared.catalogue.Projection.{Projection}
use Rattle.catalog_types.specs.declared.catalogue.Table as kept
use Rattle.stored_rows.specs.Stored.{Projected}
use Rattle.db_model.specs.Database.{Database, Shape, Table, is_behind}
use Rattle.db_model.specs.State.{State, Changes}
use Rattle.db_model.specs.Mover.{first_behind, moved_one, moves_first, reached_to, with_change, MovesFirst}
use Rattle.db_model.specs.Numbers.{IsDrawn}
use Rattle.folder_model.specs.Projections.{shape_of}
use Rattle.folder_model.specs.Tables.{StandForTables, AreDatabase}
use Rattle.sound_laws.specs.Moves.{moved_at}
use Rattle.mover_policy.specs.declared.first.Place.{Place}
use Rattle.mover_policy.specs.First.{all_projections, behind_in, first_in, projection_at, shape_at}
use Rattle.mover_policy.proofs.Shapes.{behind_are}
use Rattle.mover_policy.proofs.ByName.{moved_by_name}
use Rattle.store_commit.specs.Seen.{Seen}
use Rattle.store_commit.specs.Making.{ReopensToEither, Makes}
use Rattle.table_store.specs.Moving.{IsFreshAt}
use Rattle.table_store.proofs.Standing.{reads_only}
use Rattle.store_core.specs.Running.{Running, running, IsState, Mover}
use Rattle.store_core.specs.Events.{BeforeOrAfter, Does, MovesFirstOf}
use Rattle.store_core.proofs.Events.{moved_state}

-- ---- what the search found

pub found_in : {X : Type 0} (P : X → Type 0) (p : X → Bool) (xs : List X) (x : X) → All P xs → find p xs ≡ Some x → P x
found_in P p [] x all none = absurd (cc)
found_in P p (y ∷ ys) x all there = by (p y) there (λ rest. found_in P p ys x (All-tail P y ys all) rest)
  where
    by : (b : Bool) → cond b (Some y) (find p ys) ≡ Some x → (find p ys ≡ Some x → P x) → P x
    by true here more = let same : y ≡ x = cc in subst P same (All-head P y ys all)
    by false rest more = more rest

pub and_left : (a b : Bool) → (a && b) ≡ true → a ≡ true
and_left true b is = refl
and_left false b is = absurd (cc)

pub some_is : {X : Type 0} (o : Option X) → is_some o ≡ true → (x : X) × (o ≡ Some x)
some_is None is = absurd (cc)
some_is (Some x) is = (x, refl)

-- the projection at the place that was found is up to date
pub first_is_fresh : (tables : List kept.Table) (last : ℕ) (at : Place) (p : Projection) → projection_at tables at ≡ Some p → shape_at tables (Some at) ≡ first_in (behind_in last (all_projections tables)) → p.fresh ≡ true
first_is_fresh tables last at p there first =
    let found : first_in (behind_in last (all_projections tables)) ≡ Some (shape_of p) = sym first ∙ ap (option_map shape_of) there in
    and_left p.fresh _
    (found_in (λ s. is_behind last s ≡ true) (λ s. list_all (λ other. not (moves_first other s)) (behind_in last (all_projections tables))) (behind_in last (all_projections tables)) (shape_of p)
    (filter_passes (is_behind last) (map shape_of (all_projections tables))) found)

-- the stores have their entries in the catalogue
pub fresh_at : (tables : List kept.Table) (stores : List (List Projected)) (at : Place) (p : Projection) → map (λ ps. map (λ q. q.entry) ps) stores ≡ map (λ t. t.projections) tables → projection_at tables at ≡ Some p → p.fresh ≡ true → IsFreshAt stores at.table at.place
fresh_at tables stores at p entries there fresh = in_tables tables stores at.table entries there
  where
    in_table : (ps : List Projection) (qs : List Projected) (j : ℕ) → map (λ q. q.entry) qs ≡ ps → slice_get ps j ≡ Some p → IsSomeAnd (slice_get qs j) (λ q. q.entry.fresh ≡ true)
    in_table [] qs j same none = absurd (cc)
    in_table (x ∷ ps) [] j same is = absurd (cc)
    in_table (x ∷ ps) (q ∷ qs) zero same is = let one : q.entry ≡ x = cc in let two : x ≡ p = cc in ap (λ (y : Projection). y.fresh) (one ∙ two) ∙ fresh
    in_table (x ∷ ps) (q ∷ qs) (suc j) same is = let rest : map (λ y. y.entry) qs ≡ ps = cc in in_table ps qs j rest is

    in_tables : (ts : List kept.Table) (pss : List (List Projected)) (i : ℕ) → map (λ ps. map (λ q. q.entry) ps) pss ≡ map (λ t. t.projections) ts → option_and_then (λ t. slice_get t.projections at.place) (slice_get ts i) ≡ Some p
        → IsSomeAnd (slice_get pss i) (λ ps. IsSomeAnd (slice_get ps at.place) (λ q. q.entry.fresh ≡ true))
    in_tables [] pss i same none = absurd (cc)
    in_tables (t ∷ ts) [] i same is = absurd (cc)
    in_tables (t ∷ ts) (ps ∷ pss) zero same is = let one : map (λ q. q.entry) ps ≡ t.projections = cc in in_table t.projections ps at.place one is
    in_tables (t ∷ ts) (ps ∷ pss) (suc i) same is = let rest : map (λ qs. map (λ q. q.entry) qs) pss ≡ map (λ u. u.projections) ts = cc in in_tables ts pss i rest is

-- ---- the same in the database

shape_there : (m : Contents) (mark : ℕ) (ts : List kept.Table) (pss : List (List Projected)) (us : List Table) (i j : ℕ) (p : Projection) → StandForTables m mark ts pss us → option_and_then (λ t. slice_get t.projections j) (slice_get ts i) ≡ Some p
    → IsSomeAnd (slice_get us i) (λ u. slice_get u.shapes j ≡ Some (shape_of p))
shape_there m mark [] [] [] i j p stand none = absurd (cc)
shape_there m mark [] [] (u ∷ us) i j p stand none = absurd stand
shape_there m mark [] (ps ∷ pss) us i j p stand none = absurd stand
shape_there m mark (t ∷ ts) [] us i j p stand is = absurd stand
shape_there m mark (t ∷ ts) (ps ∷ pss) [] i j p stand is = absurd stand
shape_there m mark (t ∷ ts) (ps ∷ pss) (u ∷ us) zero j p (here, more) is = ap (λ (ss : List Shape). slice_get ss j) here.shapes ∙ mapped t.projections j is
  where
    mapped : (xs : List Projection) (k : ℕ) → slice_get xs k ≡ Some p → slice_get (map shape_of xs) k ≡ Some (shape_of p)
    mapped [] k none = absurd (cc)
    mapped (x ∷ xs) zero at = let same : x ≡ p = cc in ap (λ (y : Projection). Some (shape_of y)) same
    mapped (x ∷ xs) (suc k) at = mapped xs k at
shape_there m mark (t ∷ ts) (ps ∷ pss) (u ∷ us) (suc i) j p (here, more) is = shape_there m mark ts pss us i j p more is

-- the first projection of the database that is behind, as the search found it
pub first_so : (m : Contents) (c : Catalogue) (stores : List (List Projected)) (d : Database) (found : Option Shape) → AreDatabase m c stores d → found ≡ first_in (behind_in c.last (all_projections c.tables)) → first_behind d ≡ found
first_so m c stores d found are first = ap first_in (behind_are m c stores d are) ∙ sym first

-- a moveout of its place is the moveout that comes first
pub moved_first : {D : Type 0} (disk : Ghosts D) (r : Running) (now : D) (state new : State) (at : Place) (p : Projection) → IsState disk r now state → projection_at r.seen.catalogue.tables at ≡ Some p
    → Some (shape_of p) ≡ first_in (behind_in r.seen.catalogue.last (all_projections r.seen.catalogue.tables)) → IsDrawn state (moved_state at.table at.place state) new → MovesFirst (first_behind state.database) state new
moved_first disk r now state new at p here there first drawn =
    let are = here.database.are in
    let c = r.seen.catalogue in
    let is : first_behind state.database ≡ Some (shape_of p) = first_so here.database.files c r.seen.stores state.database (Some (shape_of p)) are first in
    let named : moved_at at.table at.place state.database ≡ with_change p.name (reached_to state.database.last) state.database =
    moved_by_name state.database at.table at.place (shape_of p) here.database.sound (shape_there here.database.files c.ahm c.tables r.seen.stores state.database.tables at.table at.place p are.tables there) in
    let one : IsDrawn state (moved_one (shape_of p) state) new = subst (λ (d : Database). IsDrawn state (record state { database = d }) new) named drawn in
    subst (λ (o : Option Shape). MovesFirst o state new) (sym is) one

-- ---- the event

either : {D : Type 0} (disk : Ghosts D) (r : Running) (now : D) (state : State) (at : Place) (p : Projection) → IsState disk r now state → projection_at r.seen.catalogue.tables at ≡ Some p → Some (shape_of p) ≡ first_in (behind_in r.seen.catalogue.last (all_projections r.seen.catalogue.tables))
    → (x : Contents) → BeforeOrAfter state (IsDrawn state (moved_state at.table at.place state)) x → BeforeOrAfter state (MovesFirst (first_behind state.database) state) x
either disk r now state at p here there first x (inl before) = inl before
either disk r now state at p here there first x (inr (new, drawn, reopens)) = inr (new, moved_first disk r now state new at p here there first drawn, reopens)

abbrev moved_ok : Result Bool StoreFault
moved_ok = Ok true

abbrev none_ok : Result Bool StoreFault
none_ok = Ok false

abbrev unit_ok : Result (Unit {0}) StoreFault
unit_ok = Ok tt

abbrev bool_fault : StoreFault → Result Bool StoreFault
bool_fault f = Err f

abbrev unit_fault : StoreFault → Result (Unit {0}) StoreFault
unit_fault f = Err f

pub first_done : {D : Type 0} (disk : Ghosts D) {old new : D} (was is : Running) (state : State) (at : Place) (p : Projection) → IsState disk was old state → projection_at was.seen.catalogue.tables at ≡ Some p
    → Some (shape_of p) ≡ first_in (behind_in was.seen.catalogue.last (all_projections was.seen.catalogue.tables)) → Does disk fault.Memory was is old new unit_ok state (IsDrawn state (moved_state at.table at.place state))
    → MovesFirstOf disk fault.Memory was is old new moved_ok state
first_done disk was is state at p here there first does = record {
  done = (does.done.0, moved_first disk was _ state does.done.0 at p here there first does.done.1, does.done.2);
  undone = λ wants. absurd (cc);
  any_moment = leaves_wider disk (either disk was _ state at p here there first) does.any_moment;
}

pub first_failed : {D : Type 0} (disk : Ghosts D) {old new : D} (was is : Running) (state : State) (f : StoreFault) (at : Place) (p : Projection) → IsState disk was old state → projection_at was.seen.catalogue.tables at ≡ Some p
    → Some (shape_of p) ≡ first_in (behind_in was.seen.catalogue.last (all_projections was.seen.catalogue.tables)) → Does disk fault.Memory was is old new (unit_fault f) state (IsDrawn state (moved_state at.table at.place state))
    → MovesFirstOf disk fault.Memory was is old new (bool_fault f) state
first_failed disk was is state f at p here there first does = record {
  done = tt;
  undone = λ wants. does.undone (short f wants);
  any_moment = leaves_wider disk (either disk was _ state at p here there first) does.any_moment;
}
  where
    short : (g : StoreFault) → IsErrOf (bool_fault g) fault.Memory → IsErrOf (unit_fault g) fault.Memory
    short g wants = let same : g ≡ fault.Memory = cc in ap unit_fault same

pub first_none : {D : Type 0} (disk : Ghosts D) (now : D) (r : Running) (state : State) → IsState disk r now state → None ≡ first_in (behind_in r.seen.catalogue.last (all_projections r.seen.catalogue.tables)) → MovesFirstOf disk fault.Memory r r now now none_ok state
first_none {D} disk now r state here first = record {
  done = (state, (first_so here.database.files r.seen.catalogue r.seen.stores state.database None here.database.are first, refl), here);
  undone = λ wants. absurd (cc);
  any_moment = leaves_wider disk (λ x reopens. same x reopens) quiet.any_moment;
}
  where
    quiet : Makes disk fault.Memory r.seen r.seen now now (unit_fault fault.Memory) state.database state.database
    quiet = reads_only disk r.seen r.seen fault.Memory state.database state.database here.database (moved_none disk now)

    same : (x : Contents) → ReopensToEither state.database state.database x → BeforeOrAfter state (MovesFirst (first_behind state.database) state) x
    same x (inl before) = inl before
    same x (inr before) = inl before

-- ---- a table by its name

pub named_at : (tables : List kept.Table) (i : ℕ) (t : kept.Table) (name : List ℕ) → i < length tables → t ≡ get_or tables i t → t.name ≡ name → IsSomeAnd (slice_get tables i) (λ u. u.name ≡ name)
named_at [] i t name lt is same = absurd (omega (arith, lt))
named_at (u ∷ us) zero t name lt is same = ap (λ (x : kept.Table). x.name) (sym is) ∙ same
named_at (u ∷ us) (suc i) t name lt is same = named_at us i t name (omega (arith, lt)) is same

-- ---- what the search found, over the store as it is seen

pub tables_at : (tables : List kept.Table) (s : Seen) (sessions : List (List Changes)) (current : ℕ) (mover : Mover) (now : Running) → s.catalogue.tables ≡ tables → running s sessions current mover ≡ now → tables ≡ now.seen.catalogue.tables
tables_at tables s sessions current mover now same view = sym same ∙ ap (λ (r : Running). r.seen.catalogue.tables) view

pub found_at : (tables : List kept.Table) (last : ℕ) (found : Option Place) (s : Seen) (sessions : List (List Changes)) (current : ℕ) (mover : Mover) (now : Running) → s.catalogue.tables ≡ tables → last ≡ s.catalogue.last → running s sessions current mover ≡ now
    → shape_at tables found ≡ first_in (behind_in last (all_projections tables)) → shape_at now.seen.catalogue.tables found ≡ first_in (behind_in now.seen.catalogue.last (all_projections now.seen.catalogue.tables))
found_at tables last found s sessions current mover now same upto view first =
    subst (λ (l : ℕ). shape_at now.seen.catalogue.tables found ≡ first_in (behind_in l (all_projections now.seen.catalogue.tables))) (upto ∙ ap (λ (r : Running). r.seen.catalogue.last) view)
    (subst (λ (ts : List kept.Table). shape_at ts found ≡ first_in (behind_in last (all_projections ts))) (tables_at tables s sessions current mover now same view) first)

pub there_now : (tables : List kept.Table) (at : Place) (s : Seen) (sessions : List (List Changes)) (current : ℕ) (mover : Mover) (now : Running) → s.catalogue.tables ≡ tables → running s sessions current mover ≡ now → is_some (projection_at tables at) ≡ true
    → (p : Projection) × (projection_at now.seen.catalogue.tables at ≡ Some p)
there_now tables at s sessions current mover now same view there =
    some_is (projection_at now.seen.catalogue.tables at) (subst (λ (ts : List kept.Table). is_some (projection_at ts at) ≡ true) (tables_at tables s sessions current mover now same view) there)

pub entries_now : (tables : List kept.Table) (s : Seen) (sessions : List (List Changes)) (current : ℕ) (mover : Mover) (now : Running) → s.catalogue.tables ≡ tables → running s sessions current mover ≡ now → map (λ ps. map (λ q. q.entry) ps) s.stores ≡ map (λ t. t.projections) tables
    → map (λ ps. map (λ q. q.entry) ps) now.seen.stores ≡ map (λ t. t.projections) now.seen.catalogue.tables
entries_now tables s sessions current mover now same view entries =
    subst (λ (r : Running). map (λ ps. map (λ q. q.entry) ps) r.seen.stores ≡ map (λ t. t.projections) r.seen.catalogue.tables) view (entries ∙ ap (map (λ (t : kept.Table). t.projections)) (sym same))

-- an up-to-date projection was found
pub found_fresh : (now : Running) (at : Place) (p : Projection) → map (λ ps. map (λ q. q.entry) ps) now.seen.stores ≡ map (λ t. t.projections) now.seen.catalogue.tables → projection_at now.seen.catalogue.tables at ≡ Some p
    → shape_at now.seen.catalogue.tables (Some at) ≡ first_in (behind_in now.seen.catalogue.last (all_projections now.seen.catalogue.tables)) → IsFreshAt now.seen.stores at.table at.place
found_fresh now at p entries there first =
    fresh_at now.seen.catalogue.tables now.seen.stores at p entries there (first_is_fresh now.seen.catalogue.tables now.seen.catalogue.last at p there first)

pub shape_first : (now : Running) (at : Place) (p : Projection) → projection_at now.seen.catalogue.tables at ≡ Some p → shape_at now.seen.catalogue.tables (Some at) ≡ first_in (behind_in now.seen.catalogue.last (all_projections now.seen.catalogue.tables))
    → Some (shape_of p) ≡ first_in (behind_in now.seen.catalogue.last (all_projections now.seen.catalogue.tables))
shape_first now at p there first = sym (ap (option_map shape_of) there) ∙ first
