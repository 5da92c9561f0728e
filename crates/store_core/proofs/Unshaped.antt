-- A projection that goes, over a running store.
use Rattle.std.proofs.Common.{◌≡◌, ℕ, zero, suc, ◌+◌, ◌++◌, Bool, true, false, cond, List, [], ◌∷◌, map, filter, refl, sym, ◌∙◌, ap, ap₂, subst, arith}
use Rattle.std.specs.Prelude.{not, find, bytes_eq, Option, Some, None, option_map, option_and_then, Result, OnOk}
use Rattle.std.specs.List.{All, AllPairs, enumerate_from, remove}
use Rattle.std.proofs.lemmas.List.Concat.{flat_map-cons}
use Rattle.std.proofs.lemmas.List.Elements.{All-tail}
use Rattle.std.proofs.lemmas.Slice.Eq.{bytes_eq-Decides}
use Rattle.col_disk.specs.declared.disk.Disk.{Ghosts}
use Rattle.db_model.specs.Database.{Database, Shape, Table}
use Rattle.db_model.specs.State.{State, Changes}
use Rattle.db_model.specs.Events.{is_not_named, without_shape, projection_dropped}
use Rattle.db_model.specs.Numbers.{IsDrawn}
use Rattle.db_model.specs.Sound.{IsSoundDatabase, IsSound, names_of, all_names}
use Rattle.sound_laws.specs.Moves.{change_at}
use Rattle.sound_laws.proofs.Created.{Differ}
use Rattle.sound_laws.proofs.Pairs.{pairs_across, pairs_back, pairs_front, pairs_head, pairs_tail}
use Rattle.state_laws.proofs.Unshaped.{has_named, none_goes, none_named, of_named, same_table, same_tables}
use Rattle.statement_plan.specs.Places.{has_projection, owner_found, places_in, projection_places, shape_found}
use Rattle.store_commit.specs.Seen.{Seen, Stands}
use Rattle.store_commit.specs.Making.{Makes}
use Rattle.table_store.specs.Drawing.{DrawsOne}
use Rattle.table_store.specs.Shaping.{unshaped_at, unshaped_in}
use Rattle.store_core.specs.Running.{Running, running, IsState, Mover}
use Rattle.store_core.specs.Events.{Does}
use Rattle.store_core.proofs.Doing.{drawn_does}
use Rattle.store_core.proofs.Events.{renumbered, viewed, grown_by_one}
use Rattle.store_core.proofs.Shaped.{same_placed}

-- of shapes whose names differ the one of a name goes
shape_goes : (name : List ℕ) (n : ℕ) (ss : List Shape) (place : ℕ) (s : Shape) → find (λ e. bytes_eq e.1.name name) (enumerate_from n ss) ≡ Some (place, s) → AllPairs Differ (map (λ o. o.name) ss)
    → (k : ℕ) × (place ≡ n + k) × (filter (λ o. is_not_named name o.name) ss ≡ remove ss k)
shape_goes name n [] place s none pairs = absurd (cc)
shape_goes name n (o ∷ os) place s there pairs = by (bytes_eq o.name name) refl (λ rest. shape_goes name (n + 1) os place s rest (pairs_tail Differ o.name (map (λ x. x.name) os) pairs)) there
  where
    left : List Shape
    left = filter (λ x. is_not_named name x.name) os

    Next : Type 0
    Next = (k : ℕ) × (place ≡ n + 1 + k) × (left ≡ remove os k)

    by : (b : Bool) → bytes_eq o.name name ≡ b → (find (λ e. bytes_eq e.1.name name) (enumerate_from (n + 1) os) ≡ Some (place, s) → Next) → cond b (Some (n, o)) (find (λ e. bytes_eq e.1.name name) (enumerate_from (n + 1) os)) ≡ Some (place, s)
        → (k : ℕ) × (place ≡ n + k) × (cond (not b) (o ∷ left) left ≡ remove (o ∷ os) k)
    by true is more here =
        let at : n ≡ place = (same_placed n place o s here).0 in
        let same : o.name ≡ name = (bytes_eq-Decides o.name name).0 is in
        let others : All (Differ name) (map (λ x. x.name) os) = subst (λ (m : List ℕ). All (Differ m) (map (λ x. x.name) os)) same (pairs_head Differ o.name (map (λ x. x.name) os) pairs) in
        (zero, omega (arith, at), none_goes name os (none_named name os others))
    by false off more rest =
        let (k, at, is) = more rest in
        (suc k, omega (arith, at), ap (λ (xs : List Shape). o ∷ xs) is)

-- a projection is found in its table
found_in : (n : ℕ) (table place : ℕ) (o : Option (ℕ × Shape)) → option_map {T = ℕ × Shape} {U = ℕ × ℕ} (λ s. (n, s.0)) o ≡ Some (table, place) → (s : Shape) × (n ≡ table) × (o ≡ Some (place, s))
found_in n table place None is = absurd (cc)
found_in n table place (Some e) is =
    let first : n ≡ table = (same_placed n table e.0 place is).0 in
    let second : e.0 ≡ place = (same_placed n table e.0 place is).1 in
    (e.1, first, ap (λ (k : ℕ). Some (k, e.1)) second)

pub owned : (name : List ℕ) (table place : ℕ) (o : Option (ℕ × Table)) → option_and_then (places_in name) o ≡ Some (table, place) → (t : Table) × (s : Shape) × (o ≡ Some (table, t)) × (shape_found name t ≡ Some (place, s))
owned name table place None is = absurd (cc)
owned name table place (Some e) is =
    let (s, at, found) = found_in e.0 table place (shape_found name e.1) is in
    (e.1, s, ap (λ (k : ℕ). Some (k, e.1)) at, found)

-- of tables whose names differ one loses the projection of a name
table_loses : (name : List ℕ) (n : ℕ) (ts : List Table) (table : ℕ) (t : Table) (place : ℕ) (s : Shape) → find (λ e. has_projection name e.1) (enumerate_from n ts) ≡ Some (table, t) → shape_found name t ≡ Some (place, s)
    → AllPairs Differ (all_names ts) → (k : ℕ) × (table ≡ n + k) × (map (without_shape name) ts ≡ change_at k (unshaped_in place) ts)
unfolding has_projection
table_loses name n [] table t place s none shape pairs = absurd (cc)
table_loses name n (u ∷ us) table t place s there shape pairs = by (has_named name u.shapes) refl (λ rest apart. table_loses name (n + 1) us table t place s rest shape apart) there
  where
    both : AllPairs Differ (names_of u ++ all_names us)
    both = subst (AllPairs Differ) (flat_map-cons names_of u us) pairs

    own : AllPairs Differ (map (λ x. x.name) u.shapes)
    own = pairs_tail Differ u.name (map (λ x. x.name) u.shapes) (pairs_front Differ (names_of u) (all_names us) both)

    shapes : All (λ m. All (Differ m) (all_names us)) (map (λ x. x.name) u.shapes)
    shapes = All-tail (λ m. All (Differ m) (all_names us)) u.name (map (λ x. x.name) u.shapes) (pairs_across Differ (names_of u) (all_names us) both)

    Next : Type 0
    Next = (k : ℕ) × (table ≡ n + 1 + k) × (map (without_shape name) us ≡ change_at k (unshaped_in place) us)

    by : (b : Bool) → has_named name u.shapes ≡ b → (find (λ e. has_named name e.1.shapes) (enumerate_from (n + 1) us) ≡ Some (table, t) → AllPairs Differ (all_names us) → Next)
        → cond b (Some (n, u)) (find (λ e. has_named name e.1.shapes) (enumerate_from (n + 1) us)) ≡ Some (table, t)
        → (k : ℕ) × (table ≡ n + k) × (map (without_shape name) (u ∷ us) ≡ change_at k (unshaped_in place) (u ∷ us))
    by true is more here =
        let at : n ≡ table = (same_placed n table u t here).0 in
        let same : t ≡ u = sym (same_placed n table u t here).1 in
        let found : shape_found name u ≡ Some (place, s) = ap (shape_found name) (sym same) ∙ shape in
        let (k, places, goes) = shape_goes name 0 u.shapes place s found own in
        let here_at : k ≡ place = omega (arith, places) in
        let first : without_shape name u ≡ unshaped_in place u = ap (λ (ss : List Shape). record u { shapes = ss }) (goes ∙ ap (remove u.shapes) here_at) in
        (zero, omega (arith, at), ap₂ (λ (v : Table) (vs : List Table). v ∷ vs) first (same_tables name us (of_named (λ m. All (Differ m) (all_names us)) name u.shapes is shapes)))
    by false off more rest =
        let (k, at, is) = more rest (pairs_back Differ (names_of u) (all_names us) both) in
        (suc k, omega (arith, at), ap₂ (λ (v : Table) (vs : List Table). v ∷ vs) (same_table name u off) is)

-- what the event makes of the database
unshapes : (d : Database) (name : List ℕ) (table place : ℕ) → IsSoundDatabase d → projection_places name d.tables ≡ Some (table, place) → map (without_shape name) d.tables ≡ change_at table (unshaped_in place) d.tables
unshapes d name table place sound there =
    let (t, s, found, shape) = owned name table place (owner_found name d.tables) there in
    let (k, at, is) = table_loses name 0 d.tables table t place s found shape sound.names in
    let same : k ≡ table = omega (arith, at) in
    is ∙ ap (λ (n : ℕ). change_at n (unshaped_in place) d.tables) same

abbrev with_tables_of : Database → List Table → Database
with_tables_of d ts = record d { tables = ts }

pub unshape_does : {D F : Type 0} (disk : Ghosts D) (short : F) {old new : D} (was is : Seen) (sessions : List (List Changes)) (current : ℕ) (mover after : Mover) (now : Running) (table place : ℕ) (name : List ℕ) (result : Result (Unit {0}) F) (state : State)
    → running was sessions current mover ≡ now → IsState disk now old state → IsSound (projection_dropped name state) → projection_places name state.database.tables ≡ Some (table, place) → after.asked ≡ filter (is_not_named name) mover.asked → after.busy ≡ 0 → after.work ≡ None
    → ((d : Database) → Stands disk was old d → IsSoundDatabase (unshaped_at table place d) → Makes disk short was is old new result d (unshaped_at table place d)) → OnOk result (DrawsOne was.catalogue is.catalogue)
    → Does disk short now (running is sessions current after) old new result state (IsDrawn state (projection_dropped name state))
unshape_does disk short {old} {new} was is sessions current mover after now table place name result state view here sound there waits idle free makes draws =
    let own = viewed disk old (running was sessions current mover) now state view here in
    let d = state.database in
    let made : (projection_dropped name state).database ≡ unshaped_at table place d = ap (with_tables_of d) (unshapes d name table place own.sound.database there) in
    subst (λ (r : Running). Does disk short r (running is sessions current after) old new result state (IsDrawn state (projection_dropped name state))) view
    (drawn_does disk short was is sessions sessions current mover after result state (projection_dropped name state) state.parts own
    (subst (λ (e : Database). Makes disk short was is old new result d e) (sym made) (makes d own.database (subst IsSoundDatabase made sound.database)))
    (grown_by_one result state was is own.next own.parts draws)
    (record { sessions = own.sessions; current = own.current; asked = ap (filter (is_not_named name)) own.asked ∙ sym waits; busy = sym idle; free = free; sound = renumbered (projection_dropped name state) sound }))
