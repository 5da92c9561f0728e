-- A projection that goes from those of its table, and what the store stands for without it.
use Rattle.std.proofs.Common.{◌≡◌, ℕ, zero, suc, ◌<◌, ◌≤◌, List, [], ◌∷◌, length, map, set, get_or, take, drop, refl, sym, ◌∙◌, ap, ap₂, subst, arith}
use Rattle.std.specs.Prelude.{Result, IsSomeAnd}
use Rattle.std.specs.List.{All, remove, slice_get}
use Rattle.std.proofs.lemmas.List.{get_or-map, length-map}
use Rattle.std.proofs.lemmas.List.Elements.{All-append, All-cons, All-drop, All-head, All-nil, All-tail, All-take}
use Rattle.common_laws.specs.Maps.{Contents}
use Rattle.col_disk.specs.declared.disk.Disk.{Ghosts}
use Rattle.col_disk.specs.declared.disk.DiskFault.{DiskFault}
use Rattle.col_disk.specs.declared.disk.DiskFault.TheVariants as disk_fault
use Rattle.catalog_types.specs.declared.catalogue.Projection.{Projection}
use Rattle.catalog_types.specs.declared.catalogue.Table as kept
use Rattle.catalog_types.specs.declared.catalogue.Catalogue.{Catalogue}
use Rattle.catalog_types.specs.Valid.{IsValid}
use Rattle.db_model.specs.Database.{Database, Shape, Table}
use Rattle.db_model.specs.Sound.{IsSoundDatabase}
use Rattle.stored_rows.specs.Stored.{Projected}
use Rattle.proj_store.specs.Loaded.{Loaded}
use Rattle.folder_model.specs.Projections.{shape_of, HasRows}
use Rattle.folder_model.specs.Tables.{StandsForTable, AreDatabase}
use Rattle.store_commit.specs.Seen.{Seen, Stands, seen}
use Rattle.store_commit.specs.Making.{Makes}
use Rattle.sound_laws.specs.Moves.{change_at}
use Rattle.table_store.specs.Drawing.{DrawsOne}
use Rattle.table_store.specs.Held.{at_epoch, projections_of, seen_of, IsHeld}
use Rattle.table_store.specs.Shaping.{unshaped_at, unshaped_in, without_projection, without_projection_at}
use Rattle.table_store.proofs.Drawn.{place_within}
use Rattle.table_store.proofs.Dropped.{map_remove}
use Rattle.table_store.proofs.Makes.{at_own}
use Rattle.table_store.proofs.Moved.{at_place, change_set, map_change, stand_changed, stored_at}
use Rattle.table_store.proofs.Shaped.{table_there}

all_left : {X : Type 0} (P : X → Type 0) (xs : List X) (k : ℕ) → All P xs → All P (remove xs k)
all_left P xs k all = All-append P (take k xs) (drop (suc k) xs) (All-take P k xs all) (All-drop P (suc k) xs all)

table_unshaped : (m : Contents) (mark place : ℕ) (t : kept.Table) (ps : List Projected) (u : Table) → StandsForTable m mark t ps u → StandsForTable m mark (without_projection place t) (remove ps place) (unshaped_in place u)
table_unshaped m mark place t ps u stands = record {
  name = stands.name;
  columns = stands.columns;
  shapes = ap (λ (os : List Shape). remove os place) stands.shapes ∙ sym (map_remove shape_of t.projections place);
  entries = map_remove (λ (q : Projected). q.entry) ps place ∙ ap (λ (es : List Projection). remove es place) stands.entries;
  rows = all_left (HasRows m mark u.rows) ps place stands.rows;
}

unshaped_are : (m : Contents) (c : Catalogue) (stores : List (List Projected)) (d : Database) (i place : ℕ) → AreDatabase m c stores d
    → AreDatabase m (without_projection_at c.last i place c) (change_at i (λ ps. remove ps place) stores) (unshaped_at i place d)
unshaped_are m c stores d i place are = record {
  last = are.last;
  ahm = are.ahm;
  tables =
      stand_changed m m c.ahm c.tables stores d.tables i (without_projection place) (λ ps. remove ps place) (unshaped_in place) (λ t ps u there before after. table_unshaped m c.ahm place t ps u after) are.tables are.tables;
}

pub unshape_makes : {D : Type 0} (disk : Ghosts D) {old new : D} (root : Catalogue) (last : ℕ) (tables : List (List Loaded)) (now : Seen) (i place : ℕ) (catalogue : Catalogue) (result : Result (Unit {0}) DiskFault) (d : Database)
    → ((was : Seen) (stores : List (List Projected)) (d e : Database) → (stands : Stands disk was old d) → was.catalogue.next ≤ root.next → AreDatabase stands.files catalogue stores e → IsSoundDatabase e → Makes disk disk_fault.Memory was (seen catalogue stores) old new result d e)
    → seen_of root last tables ≡ now → catalogue ≡ without_projection_at last i place root → Stands disk now old d → IsSoundDatabase (unshaped_at i place d)
    → Makes disk disk_fault.Memory now (seen catalogue (change_at i (λ ps. remove ps place) (map projections_of tables))) old new result d (unshaped_at i place d)
unshape_makes {D} disk {old} {new} root last tables now i place catalogue result d made view is =
    subst (λ (s : Seen). Stands disk s old d → IsSoundDatabase (unshaped_at i place d) → Makes disk disk_fault.Memory s (seen catalogue stores) old new result d (unshaped_at i place d)) view
    (λ stands sound.
    made (seen_of root last tables) stores d (unshaped_at i place d) stands (omega arith)
    (subst (λ (k : Catalogue). AreDatabase stands.files k stores (unshaped_at i place d)) (sym is) (unshaped_are stands.files (at_epoch last root) (map projections_of tables) d i place stands.are)) sound)
  where
    stores : List (List Projected)
    stores = change_at i (λ ps. remove ps place) (map projections_of tables)

stores_unshaped : (tables after : List (List Loaded)) (i place : ℕ) (ps : List Loaded) → i < length tables → ps ≡ get_or tables i ps → after ≡ set tables i (remove ps place)
    → map projections_of after ≡ change_at i (λ qs. remove qs place) (map projections_of tables)
stores_unshaped tables after i place ps lt is after_is =
    let put : change_at i (λ qs. remove qs place) tables ≡ set tables i (remove ps place) = change_set i (λ qs. remove qs place) tables ps lt is in
    ap (map projections_of) (after_is ∙ sym put)
    ∙ map_change projections_of i (λ qs. remove qs place) (λ qs. remove qs place) tables (λ qs. map_remove (λ (q : Loaded). q.stored) qs place)

pub unshape_seen : (root : Catalogue) (last : ℕ) (tables after : List (List Loaded)) (i place : ℕ) (catalogue : Catalogue) (ps : List Loaded) → i < length tables → ps ≡ get_or tables i ps
    → after ≡ set tables i (remove ps place) → catalogue ≡ without_projection_at last i place root
    → seen catalogue (change_at i (λ qs. remove qs place) (map projections_of tables)) ≡ seen_of catalogue last after
unshape_seen root last tables after i place catalogue ps lt is after_is catalogue_is =
    ap₂ (λ (c : Catalogue) (pss : List (List Projected)). seen c pss) (at_own catalogue last (sym (ap (λ (c : Catalogue). c.last) catalogue_is))) (sym (stores_unshaped tables after i place ps lt is after_is))

pub unshape_held : (root : Catalogue) (last : ℕ) (tables after : List (List Loaded)) (i place : ℕ) (catalogue : Catalogue) (ps : List Loaded) → i < length tables → ps ≡ get_or tables i ps
    → after ≡ set tables i (remove ps place) → catalogue ≡ without_projection_at last i place root → IsHeld root tables → IsValid catalogue → IsHeld catalogue after
unshape_held root last tables after i place catalogue ps lt is after_is catalogue_is held valid = record {
  valid = valid;
  entries =
      ap (map (λ (qs : List Projected). map (λ q. q.entry) qs)) (stores_unshaped tables after i place ps lt is after_is)
      ∙ map_change (λ (qs : List Projected). map (λ q. q.entry) qs) i (λ qs. remove qs place) (λ es. remove es place) (map projections_of tables) (λ qs. map_remove (λ (q : Projected). q.entry) qs place)
      ∙ ap (change_at i (λ es. remove es place)) held.entries
      ∙ sym (map_change (λ (t : kept.Table). t.projections) i (without_projection place) (λ es. remove es place) root.tables (λ t. refl))
      ∙ sym (ap (λ (c : Catalogue). map (λ t. t.projections) c.tables) catalogue_is);
}

-- the table is there, and the projection in it
pub table_inside : (root : Catalogue) (last : ℕ) (tables : List (List Loaded)) (now : Seen) (i place : ℕ) → seen_of root last tables ≡ now → IsHeld root tables
    → IsSomeAnd (slice_get now.catalogue.tables i) (λ t. place < length t.projections) → i < length tables
table_inside root last tables now i place view held there = table_there root last tables now i view held (place_within now.catalogue.tables i (λ t. place < length t.projections) there)

pub place_inside : (root : Catalogue) (last : ℕ) (tables : List (List Loaded)) (now : Seen) (i place : ℕ) (ps : List Loaded) → seen_of root last tables ≡ now → IsHeld root tables → i < length tables → ps ≡ get_or tables i ps
    → IsSomeAnd (slice_get now.catalogue.tables i) (λ t. place < length t.projections) → place < length ps
place_inside root last tables now i place ps view held lt is there =
    let here_it_is : IsSomeAnd (slice_get root.tables i) (λ t. place < length t.projections) = subst (λ (s : Seen). IsSomeAnd (slice_get s.catalogue.tables i) (λ t. place < length t.projections)) (sym view) there in
    let (t, below, t_is, in_it) = at_place root.tables i (λ (u : kept.Table). place < length u.projections) here_it_is in
    let inside : i < length (map projections_of tables) = omega (arith, lt, length-map tables projections_of) in
    let here : map (λ q. q.entry) (projections_of ps) ≡ t.projections =
    ap (map (λ (q : Projected). q.entry)) (stored_at tables i ps lt is) ∙ sym (get_or-map (λ (qs : List Projected). map (λ q. q.entry) qs) (map projections_of tables) i (projections_of ps) [] inside)
    ∙ ap (λ (es : List (List Projection)). get_or es i []) held.entries ∙ get_or-map (λ (u : kept.Table). u.projections) root.tables i t [] below
    ∙ ap (λ (u : kept.Table). u.projections) (sym t_is) in
    omega (arith, in_it, ap length here, length-map (projections_of ps) (λ (q : Projected). q.entry), length-map ps (λ (q : Loaded). q.stored))

-- ---- what it draws

fewer_left : (most i place : ℕ) (ts : List kept.Table) → All (λ t. All (λ q. length q.containers ≤ most) t.projections) ts → All (λ t. All (λ q. length q.containers ≤ most) t.projections) (change_at i (without_projection place) ts)
fewer_left most i place [] all = All-nil (λ t. All (λ q. length q.containers ≤ most) t.projections)
fewer_left most zero place (t ∷ ts) all =
    All-cons (λ u. All (λ q. length q.containers ≤ most) u.projections) (without_projection place t) ts
    (all_left (λ (q : Projection). length q.containers ≤ most) t.projections place (All-head (λ u. All (λ q. length q.containers ≤ most) u.projections) t ts all))
    (All-tail (λ u. All (λ q. length q.containers ≤ most) u.projections) t ts all)
fewer_left most (suc i) place (t ∷ ts) all =
    All-cons (λ u. All (λ q. length q.containers ≤ most) u.projections) t (change_at i (without_projection place) ts) (All-head (λ u. All (λ q. length q.containers ≤ most) u.projections) t ts all)
    (fewer_left most i place ts (All-tail (λ u. All (λ q. length q.containers ≤ most) u.projections) t ts all))

pub unshape_draws : (root c : Catalogue) (last i place : ℕ) → c ≡ without_projection_at last i place root → DrawsOne root c
unshape_draws root c last i place is = subst (DrawsOne root) (sym is) (record { next = refl; few = λ most all. fewer_left most i place root.tables all })
