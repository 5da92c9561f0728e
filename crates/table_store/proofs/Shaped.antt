-- A new projection among those of its table, and what the store stands for with it.
use Rattle.std.proofs.Common.{◌≡◌, ℕ, zero, suc, ◌+◌, ◌<◌, ◌≤◌, Bool, true, false, cond, List, [], ◌∷◌, length, map, set, get_or, take, drop, refl, sym, ◌∙◌, ap, ap₂, subst, arith}
use Rattle.std.specs.Prelude.{Result, IsSomeAnd}
use Rattle.std.specs.Bool.{OnTrue, OnFalse}
use Rattle.std.specs.List.{All, insert, remove, slice_get}
use Rattle.std.specs.Ordering.{is_lt, nat_cmp}
use Rattle.std.specs.Cmp.Lexicographic.{slice_cmp}
use Rattle.std.proofs.lemmas.List.{get_or-map, get_or-set_same, length-map}
use Rattle.std.proofs.lemmas.List.Elements.{All-append, All-cons, All-drop, All-head, All-nil, All-tail, All-take}
use Rattle.common_laws.specs.Bags.{SameBag}
use Rattle.common_laws.specs.Maps.{Contents}
use Rattle.common_laws.proofs.BagLaws.{bag_refl}
use Rattle.col_disk.specs.declared.disk.Disk.{Ghosts}
use Rattle.col_disk.specs.declared.disk.DiskFault.{DiskFault}
use Rattle.col_disk.specs.declared.disk.DiskFault.TheVariants as disk_fault
use Rattle.col_value.specs.declared.row.Stamped.{Stamped}
use Rattle.row_history.specs.History.{retained, on_columns}
use Rattle.catalog_types.specs.declared.catalogue.Projection.{Projection}
use Rattle.catalog_types.specs.declared.catalogue.Table as kept
use Rattle.catalog_types.specs.declared.catalogue.Catalogue.{Catalogue}
use Rattle.catalog_types.specs.Valid.{IsValid}
use Rattle.db_model.specs.Database.{Database, Shape, Table}
use Rattle.db_model.specs.Events.{put_shape}
use Rattle.db_model.specs.Sound.{IsSoundDatabase}
use Rattle.stored_rows.specs.Stored.{Beside, Projected}
use Rattle.proj_store.specs.Loaded.{Loaded}
use Rattle.folder_model.specs.Projections.{shape_of, ordinals, HasRows}
use Rattle.folder_model.specs.Tables.{StandsForTable, StandForTables, AreDatabase}
use Rattle.store_commit.specs.Seen.{Seen, Stands, seen}
use Rattle.store_commit.specs.Making.{Makes}
use Rattle.sound_laws.specs.Moves.{change_at}
use Rattle.table_store.specs.declared.shaping.NewProjection.{NewProjection}
use Rattle.table_store.specs.Held.{at_epoch, projections_of, seen_of, IsHeld}
use Rattle.table_store.specs.Creating.{bare, place_of}
use Rattle.table_store.specs.Drawing.{DrawsOne}
use Rattle.table_store.specs.Shaping.{RetainsNone, new_entry, new_shape, shaped_at, shaped_in, with_projection, with_projection_at}
use Rattle.table_store.proofs.Created.{insert_next, map_insert}
use Rattle.table_store.proofs.Makes.{at_own}
use Rattle.table_store.proofs.Moved.{at_place, change_set, map_change, set_again, stored_at}

-- ---- the shapes

put_placed : (s : Shape) (os : List Shape) → put_shape s os ≡ insert os (place_of s.name (map (λ o. o.name) os)) s
put_placed s [] = refl
put_placed s (o ∷ os) = by (is_lt (slice_cmp nat_cmp s.name o.name)) (put_placed s os)
  where
    by : (b : Bool) → put_shape s os ≡ insert os (place_of s.name (map (λ x. x.name) os)) s
        → cond b (s ∷ (o ∷ os)) (o ∷ put_shape s os) ≡ insert (o ∷ os) (cond b 0 (place_of s.name (map (λ x. x.name) os) + 1)) s
    by true rest = refl
    by false rest = ap (λ (xs : List Shape). o ∷ xs) rest ∙ sym (insert_next o os (place_of s.name (map (λ x. x.name) os)) s)

shape_names : (ps : List Projection) → map (λ s. s.name) (map shape_of ps) ≡ map (λ p. p.name) ps
shape_names [] = refl
shape_names (p ∷ ps) = ap (λ (ns : List (List ℕ)). p.name ∷ ns) (shape_names ps)

all_put : {X : Type 0} (P : X → Type 0) (xs : List X) (k : ℕ) (x : X) → All P xs → P x → All P (insert xs k x)
all_put P xs k x all one = All-append P (take k xs) (x ∷ drop k xs) (All-take P k xs all) (All-cons P x (drop k xs) one (All-drop P k xs all))

-- ---- the projection

new_rows : (m : Contents) (mark : ℕ) (rows : List Stamped) (p : NewProjection) (last : ℕ) → (p.fresh ≡ true → retained mark rows ≡ []) → HasRows m mark rows (bare (new_entry p last))
new_rows m mark rows p last none = record {
  fresh = on p.fresh (λ is. record {
    stored = [];
    are = ([], refl, refl);
    history = subst (λ (rs : List Stamped). SameBag [] (map (on_columns (ordinals (new_entry p last))) rs)) (sym (none is)) (bag_refl []);
    above = record { rows = All-nil (λ (s : Stamped). (new_entry p last).lge < s.ins); marks = All-nil {X = Beside} _ };
  });
  stale = off p.fresh (record { containers = refl; beside = refl; unsaved = refl });
}
  where
    on : {P : Type 0} (b : Bool) → (b ≡ true → P) → OnTrue b P
    on true h = h refl
    on false h = tt

    off : {P : Type 0} (b : Bool) → P → OnFalse b P
    off true h = tt
    off false h = h

-- ---- the table

abbrev IsPlacedIn : NewProjection → ℕ → kept.Table → Type 0
IsPlacedIn p place t = (place ≡ place_of p.name (map (λ q. q.name) t.projections)) × (place ≤ length t.projections)

table_shaped : (m : Contents) (mark : ℕ) (p : NewProjection) (last place : ℕ) (t : kept.Table) (ps : List Projected) (u : Table) → IsPlacedIn p place t → (p.fresh ≡ true → retained mark u.rows ≡ [])
    → StandsForTable m mark t ps u → StandsForTable m mark (with_projection place (new_entry p last) t) (insert ps place (bare (new_entry p last))) (shaped_in (new_shape p last) u)
table_shaped m mark p last place t ps u placed none stands = record {
  name = stands.name;
  columns = stands.columns;
  shapes =
      put_placed (new_shape p last) u.shapes ∙ ap (λ (k : ℕ). insert u.shapes k (new_shape p last)) at
      ∙ ap (λ (os : List Shape). insert os place (new_shape p last)) stands.shapes ∙ sym (map_insert shape_of t.projections place (new_entry p last));
  entries = map_insert (λ (q : Projected). q.entry) ps place (bare (new_entry p last)) ∙ ap (λ (es : List Projection). insert es place (new_entry p last)) stands.entries;
  rows = all_put (HasRows m mark u.rows) ps place (bare (new_entry p last)) stands.rows (new_rows m mark u.rows p last none);
}
  where
    at : place_of p.name (map (λ s. s.name) u.shapes) ≡ place
    at = ap (place_of p.name) (ap (map (λ (s : Shape). s.name)) stands.shapes ∙ shape_names t.projections) ∙ sym placed.0

-- ---- the catalogue

stand_shaped : (m : Contents) (mark : ℕ) (p : NewProjection) (last place : ℕ) (ts : List kept.Table) (pss : List (List Projected)) (us : List Table) (i : ℕ) → IsSomeAnd (slice_get ts i) (IsPlacedIn p place)
    → (p.fresh ≡ true → IsSomeAnd (slice_get us i) (λ u. retained mark u.rows ≡ [])) → StandForTables m mark ts pss us
    → StandForTables m mark (change_at i (with_projection place (new_entry p last)) ts) (change_at i (λ ps. insert ps place (bare (new_entry p last))) pss) (change_at i (shaped_in (new_shape p last)) us)
stand_shaped m mark p last place [] [] [] i there none stand = absurd there
stand_shaped m mark p last place [] [] (u ∷ us) i there none stand = absurd stand
stand_shaped m mark p last place [] (ps ∷ pss) us i there none stand = absurd stand
stand_shaped m mark p last place (t ∷ ts) [] us i there none stand = absurd stand
stand_shaped m mark p last place (t ∷ ts) (ps ∷ pss) [] i there none stand = absurd stand
stand_shaped m mark p last place (t ∷ ts) (ps ∷ pss) (u ∷ us) zero there none (here, more) = (table_shaped m mark p last place t ps u there none here, more)
stand_shaped m mark p last place (t ∷ ts) (ps ∷ pss) (u ∷ us) (suc i) there none (here, more) = (here, stand_shaped m mark p last place ts pss us i there none more)

shaped_are : (m : Contents) (c : Catalogue) (stores : List (List Projected)) (d : Database) (p : NewProjection) (i place : ℕ) → IsSomeAnd (slice_get c.tables i) (IsPlacedIn p place) → (p.fresh ≡ true → RetainsNone i d)
    → AreDatabase m c stores d
    → AreDatabase m (with_projection_at c.last i place (new_entry p c.last) c) (change_at i (λ ps. insert ps place (bare (new_entry p c.last))) stores) (shaped_at i (new_shape p c.last) d)
shaped_are m c stores d p i place there none are = record {
  last = are.last;
  ahm = are.ahm;
  tables =
      stand_shaped m c.ahm p c.last place c.tables stores d.tables i there
      (λ is. subst (λ (mark : ℕ). IsSomeAnd (slice_get d.tables i) (λ u. retained mark u.rows ≡ [])) are.ahm (none is)) are.tables;
}

-- ---- the store

pub shape_makes : {D : Type 0} (disk : Ghosts D) {old new : D} (root : Catalogue) (last : ℕ) (tables : List (List Loaded)) (now : Seen) (p : NewProjection) (i place : ℕ) (catalogue : Catalogue) (result : Result (Unit {0}) DiskFault) (d : Database)
    → ((was : Seen) (stores : List (List Projected)) (d e : Database) → (stands : Stands disk was old d) → was.catalogue.next ≤ root.next → AreDatabase stands.files catalogue stores e → IsSoundDatabase e → Makes disk disk_fault.Memory was (seen catalogue stores) old new result d e)
    → seen_of root last tables ≡ now → IsSomeAnd (slice_get root.tables i) (IsPlacedIn p place) → catalogue ≡ with_projection_at last i place (new_entry p last) root
    → Stands disk now old d → (p.fresh ≡ true → RetainsNone i d) → IsSoundDatabase (shaped_at i (new_shape p now.catalogue.last) d)
    → Makes disk disk_fault.Memory now (seen catalogue (change_at i (λ ps. insert ps place (bare (new_entry p last))) (map projections_of tables))) old new result d (shaped_at i (new_shape p now.catalogue.last) d)
shape_makes {D} disk {old} {new} root last tables now p i place catalogue result d made view there is =
    subst (λ (s : Seen). Stands disk s old d → (p.fresh ≡ true → RetainsNone i d) → IsSoundDatabase (shaped_at i (new_shape p s.catalogue.last) d) → Makes disk disk_fault.Memory s (seen catalogue stores) old new result d (shaped_at i (new_shape p s.catalogue.last) d)) view
    (λ stands none sound.
    made (seen_of root last tables) stores d (shaped_at i (new_shape p last) d) stands (omega arith)
    (subst (λ (k : Catalogue). AreDatabase stands.files k stores (shaped_at i (new_shape p last) d)) (sym is) (shaped_are stands.files (at_epoch last root) (map projections_of tables) d p i place there none stands.are)) sound)
  where
    stores : List (List Projected)
    stores = change_at i (λ ps. insert ps place (bare (new_entry p last))) (map projections_of tables)

stores_shaped : (tables after : List (List Loaded)) (i place : ℕ) (ps : List Loaded) (s : Loaded) → i < length tables → ps ≡ get_or tables i ps → after ≡ set tables i (insert ps place s)
    → map projections_of after ≡ change_at i (λ qs. insert qs place s.stored) (map projections_of tables)
stores_shaped tables after i place ps s lt is after_is =
    let put : change_at i (λ qs. insert qs place s) tables ≡ set tables i (insert ps place s) = change_set i (λ qs. insert qs place s) tables ps lt is in
    ap (map projections_of) (after_is ∙ sym put)
    ∙ map_change projections_of i (λ qs. insert qs place s) (λ qs. insert qs place s.stored) tables (λ qs. map_insert (λ (q : Loaded). q.stored) qs place s)

pub shape_seen : (root : Catalogue) (last : ℕ) (tables after : List (List Loaded)) (p : NewProjection) (i place : ℕ) (catalogue : Catalogue) (ps : List Loaded) (s : Loaded) → i < length tables → ps ≡ get_or tables i ps
    → after ≡ set tables i (insert ps place s) → s.stored ≡ bare (new_entry p last) → catalogue ≡ with_projection_at last i place (new_entry p last) root
    → seen catalogue (change_at i (λ qs. insert qs place (bare (new_entry p last))) (map projections_of tables)) ≡ seen_of catalogue last after
shape_seen root last tables after p i place catalogue ps s lt is after_is stored catalogue_is =
    ap₂ (λ (c : Catalogue) (pss : List (List Projected)). seen c pss) (at_own catalogue last (sym (ap (λ (c : Catalogue). c.last) catalogue_is)))
    (ap (λ (q : Projected). change_at i (λ qs. insert qs place q) (map projections_of tables)) (sym stored) ∙ sym (stores_shaped tables after i place ps s lt is after_is))

pub shape_held : (root : Catalogue) (last : ℕ) (tables after : List (List Loaded)) (p : NewProjection) (i place : ℕ) (catalogue : Catalogue) (ps : List Loaded) (s : Loaded) → i < length tables → ps ≡ get_or tables i ps
    → after ≡ set tables i (insert ps place s) → s.stored ≡ bare (new_entry p last) → catalogue ≡ with_projection_at last i place (new_entry p last) root → IsHeld root tables → IsValid catalogue → IsHeld catalogue after
shape_held root last tables after p i place catalogue ps s lt is after_is stored catalogue_is held valid = record {
  valid = valid;
  entries =
      ap (map (λ (qs : List Projected). map (λ q. q.entry) qs)) (stores_shaped tables after i place ps s lt is after_is)
      ∙ map_change (λ (qs : List Projected). map (λ q. q.entry) qs) i (λ qs. insert qs place s.stored) (λ es. insert es place (new_entry p last)) (map projections_of tables) one
      ∙ ap (change_at i (λ es. insert es place (new_entry p last))) held.entries
      ∙ sym (map_change (λ (t : kept.Table). t.projections) i (with_projection place (new_entry p last)) (λ es. insert es place (new_entry p last)) root.tables (λ t. refl))
      ∙ sym (ap (λ (c : Catalogue). map (λ t. t.projections) c.tables) catalogue_is);
}
  where
    one : (qs : List Projected) → map (λ q. q.entry) (insert qs place s.stored) ≡ insert (map (λ q. q.entry) qs) place (new_entry p last)
    one qs = map_insert (λ (q : Projected). q.entry) qs place s.stored ∙ ap (λ (q : Projected). insert (map (λ x. x.entry) qs) place q.entry) stored

-- what was put into a list, taken out again
pub removed_again : {X : Type 0} (xs : List X) (k : ℕ) (x : X) → k ≤ length xs → remove (insert xs k x) k ≡ xs
removed_again [] zero x le = refl
removed_again [] (suc k) x le = absurd (omega (arith, le))
removed_again (y ∷ xs) zero x le = refl
removed_again {X} (y ∷ xs) (suc k) x le = ap (λ (zs : List X). y ∷ zs) (removed_again xs k x (omega (arith, le)))

set_same : {X : Type 0} (xs : List X) (i : ℕ) (x : X) → i < length xs → x ≡ get_or xs i x → set xs i x ≡ xs
set_same [] i x lt is = absurd (omega (arith, lt))
set_same {X} (y ∷ xs) zero x lt is = ap (λ (z : X). z ∷ xs) is
set_same {X} (y ∷ xs) (suc i) x lt is = ap (λ (zs : List X). y ∷ zs) (set_same xs i x (omega (arith, lt)) is)

-- a projection that was put among those of a table, as it is found there
pub put_there : (tables : List (List Loaded)) (i : ℕ) (put again : List Loaded) → i < length tables → again ≡ get_or (set tables i put) i again → again ≡ put
put_there tables i put again lt is = is ∙ get_or-set_same tables i put again lt

-- and taken out again
pub put_back : (tables : List (List Loaded)) (i place : ℕ) (ps put again back : List Loaded) (s : Loaded) → i < length tables → ps ≡ get_or tables i ps → place ≤ length ps → put ≡ insert ps place s
    → again ≡ get_or (set tables i put) i again → back ≡ remove again place → set (set tables i put) i back ≡ tables
put_back tables i place ps put again back s lt is le put_is again_is back_is =
    set_again tables i put back
    ∙ ap (set tables i) (back_is ∙ ap (λ (qs : List Loaded). remove qs place) (put_there tables i put again lt again_is ∙ put_is) ∙ removed_again ps place s le)
    ∙ set_same tables i ps lt is

-- the table is there, and the place in it
pub table_there : (root : Catalogue) (last : ℕ) (tables : List (List Loaded)) (now : Seen) (i : ℕ) → seen_of root last tables ≡ now → IsHeld root tables → i < length now.catalogue.tables → i < length tables
table_there root last tables now i view held lt =
    let within : i < length root.tables = subst (λ (s : Seen). i < length s.catalogue.tables) (sym view) lt in
    omega (arith, within, ap length held.entries, length-map root.tables (λ (t : kept.Table). t.projections), length-map (map projections_of tables) (λ (ps : List Projected). map (λ p. p.entry) ps), length-map tables projections_of)

pub place_there : (root : Catalogue) (tables : List (List Loaded)) (i place : ℕ) (p : NewProjection) (ps : List Loaded) → IsHeld root tables → i < length tables → ps ≡ get_or tables i ps → IsSomeAnd (slice_get root.tables i) (IsPlacedIn p place)
    → place ≤ length ps
place_there root tables i place p ps held lt is there =
    let (t, below, t_is, placed) = at_place root.tables i (IsPlacedIn p place) there in
    let inside : i < length (map projections_of tables) = omega (arith, lt, length-map tables projections_of) in
    let here : map (λ q. q.entry) (projections_of ps) ≡ t.projections =
    ap (map (λ (q : Projected). q.entry)) (stored_at tables i ps lt is) ∙ sym (get_or-map (λ (qs : List Projected). map (λ q. q.entry) qs) (map projections_of tables) i (projections_of ps) [] inside)
    ∙ ap (λ (es : List (List Projection)). get_or es i []) held.entries ∙ get_or-map (λ (u : kept.Table). u.projections) root.tables i t [] below
    ∙ ap (λ (u : kept.Table). u.projections) (sym t_is) in
    omega (arith, placed.1, ap length here, length-map (projections_of ps) (λ (q : Projected). q.entry), length-map ps (λ (q : Loaded). q.stored))

-- ---- what it draws

each_small : (most i place : ℕ) (p : NewProjection) (last : ℕ) (ts : List kept.Table) → All (λ t. All (λ q. length q.containers ≤ most) t.projections) ts
    → All (λ t. All (λ q. length q.containers ≤ most) t.projections) (change_at i (with_projection place (new_entry p last)) ts)
each_small most i place p last [] all = All-nil (λ t. All (λ q. length q.containers ≤ most) t.projections)
each_small most zero place p last (t ∷ ts) all =
    All-cons (λ u. All (λ q. length q.containers ≤ most) u.projections) (with_projection place (new_entry p last) t) ts
    (all_put (λ (q : Projection). length q.containers ≤ most) t.projections place (new_entry p last) (All-head (λ u. All (λ q. length q.containers ≤ most) u.projections) t ts all) (omega arith))
    (All-tail (λ u. All (λ q. length q.containers ≤ most) u.projections) t ts all)
each_small most (suc i) place p last (t ∷ ts) all =
    All-cons (λ u. All (λ q. length q.containers ≤ most) u.projections) t (change_at i (with_projection place (new_entry p last)) ts)
    (All-head (λ u. All (λ q. length q.containers ≤ most) u.projections) t ts all)
    (each_small most i place p last ts (All-tail (λ u. All (λ q. length q.containers ≤ most) u.projections) t ts all))

pub shape_draws : (root c : Catalogue) (last i place : ℕ) (p : NewProjection) → c ≡ with_projection_at last i place (new_entry p last) root → DrawsOne root c
shape_draws root c last i place p is = subst (DrawsOne root) (sym is) (record { next = refl; few = λ most all. each_small most i place p last root.tables all })
