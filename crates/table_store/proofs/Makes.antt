-- What the calls of a store make of it.
use Rattle.std.proofs.Common.{◌≡◌, ℕ, ◌+◌, ◌<◌, ◌≤◌, List, [], ◌∷◌, length, map, set, get_or, true, refl, sym, ◌∙◌, ap, ap₂, subst, inl, arith}
use Rattle.std.specs.Prelude.{Result, Ok, Err, IsErrOf, IsSomeAnd}
use Rattle.std.specs.List.{Any, flat_map, insert, remove, slice_get}
use Rattle.std.proofs.lemmas.List.{length-map}
use Rattle.col_disk.specs.Moved.{Moved, NoName}
use Rattle.col_disk.specs.Faults.{store_fault}
use Rattle.col_disk.specs.declared.disk.Disk.{Ghosts}
use Rattle.col_disk.specs.declared.disk.DiskFault.{DiskFault}
use Rattle.col_disk.specs.declared.disk.DiskFault.TheVariants as disk_fault
use Rattle.col_disk.specs.declared.disk.StoreFault.{StoreFault}
use Rattle.col_disk.specs.declared.disk.StoreFault.TheVariants as fault
use Rattle.col_disk.proofs.Moving.{leaves_join, leaves_wider}
use Rattle.col_value.specs.declared.column.Column.{Column}
use Rattle.catalog_types.specs.declared.catalogue.Projection.{Projection}
use Rattle.catalog_types.specs.declared.catalogue.Table as kept
use Rattle.catalog_types.specs.declared.catalogue.Catalogue.{Catalogue}
use Rattle.catalog_types.specs.Numbers.{table_spans}
use Rattle.catalog_types.specs.Valid.{IsValid}
use Rattle.catalog_root.specs.declared.found.Found.{Found}
use Rattle.catalog_root.specs.declared.found.Found.TheVariants.{Fresh, Root}
use Rattle.catalog_root.specs.Listed.{IsIn}
use Rattle.catalog_root.specs.Quiet.{IsSpare}
use Rattle.container_writer.specs.Writing.{DataFrom}
use Rattle.cut_model.proofs.Staying.{undrawn_unlisted}
use Rattle.db_model.specs.Database.{Database, super_name}
use Rattle.db_model.specs.Sound.{IsSoundDatabase}
use Rattle.stored_rows.specs.Stored.{Projected}
use Rattle.proj_store.specs.Loaded.{Loaded}
use Rattle.folder_model.specs.Tables.{AreDatabase}
use Rattle.folder_model.specs.Standing.{IsRootOf}
use Rattle.folder_model.proofs.Committing.{stands_moved, moved_reopens}
use Rattle.folder_model.proofs.Marked.{mark_rises}
use Rattle.store_commit.specs.Seen.{Seen, Stands, seen}
use Rattle.store_commit.specs.Making.{Makes}
use Rattle.store_commit.proofs.Settled.{failed}
use Rattle.sound_laws.specs.Moves.{change_at, moved_at}
use Rattle.sound_laws.proofs.Moved.{moved_sound}
use Rattle.table_store.specs.Held.{at_epoch, projections_of, seen_of, IsHeld}
use Rattle.table_store.specs.Creating.{first_entry, first_table, bare, place_of, with_mark, with_table, created, without_table, dropped}
use Rattle.table_store.specs.Moving.{IsFreshAt, IsRewrittenFrom, IsRewritten, with_entry_at}
use Rattle.table_store.proofs.Created.{map_insert, created_are}
use Rattle.table_store.proofs.Dropped.{map_remove, dropped_are, dropped_sound}
use Rattle.table_store.proofs.Standing.{all_entries}
use Rattle.table_store.proofs.Moved.{ReadIsStored, moved_are, entry_below, fresh_table, fresh_rewritten, stores_moved, entries_moved}

-- numbers that weren't drawn are those of spare files
pub undrawn : (root : Catalogue) (last : ℕ) (f : Found) → IsRootOf (at_epoch last root) f → (root.tables ≡ [] → ⊥) → IsValid root → (q : ℕ) → DataFrom root.next q → IsSpare f q
undrawn root last Fresh (tables, none, ahm) some valid q is = absurd (some tables)
undrawn root last (Root v r) (tables, ahm, below, reached) some valid q (n, from, is) = (n, is, λ listed. undrawn_unlisted n root valid from (subst (λ (ts : List kept.Table). Any (IsIn n) (flat_map table_spans ts)) tables listed))

some_parts : (stores : List (List Projected)) (i : ℕ) → i < length stores → stores ≡ [] → ⊥
some_parts stores i lt none = let zero : length stores ≡ 0 = ap length none in omega (arith, lt, zero)

-- ---- while files were written that nothing lists

pub wrote_only : {D F : Type 0} (disk : Ghosts D) (short : F) {W : ℕ → Type 0} {old new : D} (was is : Seen) (f : F) (d e : Database) → (stands : Stands disk was old d) → ((q : ℕ) → W q → IsSpare stands.root q) → Moved disk W NoName old new
    → Makes disk short was is old new (Err f) d e
wrote_only disk short {W} {old} {new} was is f d e stands spare moved = record {
  done = tt;
  undone = λ s. stands_moved disk {W = W} {R = NoName} was.catalogue was.stores d stands spare (λ q no. absurd no) moved;
  any_moment = leaves_wider disk (λ x reopens. inl reopens) (moved_reopens disk {W = W} {R = NoName} was.catalogue was.stores d stands spare (λ q no. absurd no) moved);
}

abbrev told : StoreFault → Result (Unit {0}) StoreFault
told f = Err f

short_is : (f : DiskFault) → IsErrOf (told (store_fault f)) fault.Memory → IsErrOf (failed f) disk_fault.Memory
short_is disk_fault.Failed is = absurd (cc)
short_is disk_fault.Memory is = refl

-- ---- a new table

pub settled_not : {D : Type 0} (disk : Ghosts D) {old new : D} (was is other : Seen) (f : DiskFault) (d e : Database) → Makes disk disk_fault.Memory was is old new (Err f) d e → Makes disk disk_fault.Memory was other old new (Err f) d e
settled_not disk was is other f d e made = record { done = tt; undone = made.undone; any_moment = made.any_moment }

pub create_makes : {D : Type 0} (disk : Ghosts D) {old new : D} (root : Catalogue) (last : ℕ) (tables : List (List Loaded)) (now : Seen) (name : List ℕ) (columns : List Column) (place : ℕ) (catalogue : Catalogue) (result : Result (Unit {0}) DiskFault) (d : Database)
    → ((was : Seen) (stores : List (List Projected)) (d e : Database) → (stands : Stands disk was old d) → was.catalogue.next ≤ root.next → AreDatabase stands.files catalogue stores e → IsSoundDatabase e → Makes disk disk_fault.Memory was (seen catalogue stores) old new result d e)
    → seen_of root last tables ≡ now → place ≡ place_of name (map (λ t. t.name) root.tables) → catalogue ≡ with_table last place (first_table name columns last) root
    → Stands disk now old d → IsSoundDatabase (created name columns d)
    → Makes disk disk_fault.Memory now (seen catalogue (insert (map projections_of tables) place (bare (first_entry (super_name name) columns last) ∷ []))) old new result d (created name columns d)
create_makes {D} disk {old} {new} root last tables now name columns place catalogue result d made view place_is is stands sound =
    let here : Stands disk (seen_of root last tables) old d = subst (λ (s : Seen). Stands disk s old d) (sym view) stands in
    let are = created_are here.files (at_epoch last root) (map projections_of tables) d name columns place place_is here.are in
    subst (λ (s : Seen). Makes disk disk_fault.Memory s (seen catalogue (insert (map projections_of tables) place (bare (first_entry (super_name name) columns last) ∷ []))) old new result d (created name columns d)) view
    (made (seen_of root last tables) (insert (map projections_of tables) place (bare (first_entry (super_name name) columns last) ∷ [])) d (created name columns d) here (omega arith)
    (subst (λ (k : Catalogue). AreDatabase here.files k (insert (map projections_of tables) place (bare (first_entry (super_name name) columns last) ∷ [])) (created name columns d)) (sym is) are) sound)

new_stores : (tables after : List (List Loaded)) (place : ℕ) (parts : List Loaded) (one : List Projected) → after ≡ insert tables place parts → projections_of parts ≡ one → insert (map projections_of tables) place one ≡ map projections_of after
new_stores tables after place parts one is same =
    sym (ap (map projections_of) is ∙ map_insert projections_of tables place parts ∙ ap (insert (map projections_of tables) place) same)

pub at_own : (c : Catalogue) (n : ℕ) → n ≡ c.last → c ≡ at_epoch n c
at_own c n same = ap (λ (k : ℕ). at_epoch k c) (sym same)

pub create_seen : (root : Catalogue) (last : ℕ) (tables after : List (List Loaded)) (name : List ℕ) (columns : List Column) (place : ℕ) (catalogue : Catalogue) (parts : List Loaded)
    → after ≡ insert tables place parts → projections_of parts ≡ bare (first_entry (super_name name) columns last) ∷ [] → catalogue ≡ with_table last place (first_table name columns last) root
    → seen catalogue (insert (map projections_of tables) place (bare (first_entry (super_name name) columns last) ∷ [])) ≡ seen_of catalogue last after
create_seen root last tables after name columns place catalogue parts is same catalogue_is =
    ap₂ (λ (c : Catalogue) (pss : List (List Projected)). seen c pss) (at_own catalogue last (sym (ap (λ (c : Catalogue). c.last) catalogue_is))) (new_stores tables after place parts (bare (first_entry (super_name name) columns last) ∷ []) is same)

pub create_held : (root : Catalogue) (last : ℕ) (tables after : List (List Loaded)) (name : List ℕ) (columns : List Column) (place : ℕ) (catalogue : Catalogue) (parts : List Loaded)
    → after ≡ insert tables place parts → projections_of parts ≡ bare (first_entry (super_name name) columns last) ∷ [] → catalogue ≡ with_table last place (first_table name columns last) root
    → IsHeld root tables → IsValid catalogue → IsHeld catalogue after
create_held root last tables after name columns place catalogue parts is same catalogue_is held valid = record {
  valid = valid;
  entries =
      sym (ap all_entries (new_stores tables after place parts (bare (first_entry (super_name name) columns last) ∷ []) is same))
      ∙ map_insert (λ (ps : List Projected). map (λ p. p.entry) ps) (map projections_of tables) place (bare (first_entry (super_name name) columns last) ∷ [])
      ∙ ap (λ (ess : List (List Projection)). insert ess place (first_entry (super_name name) columns last ∷ [])) held.entries
      ∙ sym (map_insert (λ (t : kept.Table). t.projections) root.tables place (first_table name columns last))
      ∙ sym (ap (λ (c : Catalogue). map (λ t. t.projections) c.tables) catalogue_is);
}

pub settled_done : {D : Type 0} (disk : Ghosts D) {old new : D} (was is other : Seen) (d e : Database) → is ≡ other → Makes disk disk_fault.Memory was is old new (Ok tt) d e → Makes disk disk_fault.Memory was other old new (Ok tt) d e
settled_done disk {old} {new} was is other d e same made = subst (λ (s : Seen). Makes disk disk_fault.Memory was s old new (Ok tt) d e) same made

-- ---- a moveout

pub moved_stands : {D : Type 0} (disk : Ghosts D) {old mid : D} (root : Catalogue) (last : ℕ) (stores : List (List Projected)) (i : ℕ) (d : Database) → i < length stores → map (λ ps. map (λ p. p.entry) ps) stores ≡ map (λ t. t.projections) root.tables
    → IsValid root → (stands : Stands disk (seen (at_epoch last root) stores) old d) → Moved disk (DataFrom root.next) NoName old mid
    → ((q : ℕ) → DataFrom root.next q → IsSpare stands.root q)
moved_stands disk root last stores i d lt entries valid stands moved =
    undrawn root last stands.root stands.is_root (λ none. some_parts stores i lt (no_tables stores root.tables entries none)) valid
  where
    no_tables : (pss : List (List Projected)) (ts : List kept.Table) → map (λ ps. map (λ p. p.entry) ps) pss ≡ map (λ t. t.projections) ts → ts ≡ [] → pss ≡ []
    no_tables [] ts same none = refl
    no_tables (ps ∷ pss) [] same none = absurd (cc)
    no_tables (ps ∷ pss) (t ∷ ts) same none = absurd (cc)

pub rewritten_are : ReadIsStored → {D : Type 0} (disk : Ghosts D) {old mid : D} (root c : Catalogue) (last : ℕ) (stores : List (List Projected)) (d : Database) (version i j : ℕ) (parts : List Projected) (p new : Projected)
    → i < length stores → parts ≡ get_or stores i parts → j < length parts → p ≡ get_or parts j p → p.entry.fresh ≡ true
    → map (λ ps. map (λ x. x.entry) ps) stores ≡ map (λ t. t.projections) root.tables → IsValid root
    → (stands : Stands disk (seen (at_epoch last root) stores) old d) → (then : Stands disk (seen (at_epoch last root) stores) mid d)
    → IsRewrittenFrom last root i j version c p new (disk.holds old) (disk.holds mid)
    → AreDatabase then.files c (change_at i (change_at j (λ x. new)) stores) (moved_at i j d)
rewritten_are read {D} disk {old} {mid} root c last stores d version i j parts p new lt parts_are below p_is fresh entries valid stands then is =
    subst (λ (k : Catalogue). AreDatabase then.files k (change_at i (change_at j (λ x. new)) stores) (moved_at i j d)) (sym is.catalogue)
    (moved_are read stands.files then.files (at_epoch last root) stores d version root.next version i j parts p new lt parts_are below p_is fresh is.entry (is.loaded then.files then.quiet.told_is)
    (is.rows stands.files then.files stands.quiet.told_is then.quiet.told_is (entry_below root stores i j parts p valid entries lt parts_are below p_is)) stands.are then.are)

pub move_makes : {D F : Type 0} (disk : Ghosts D) (short : F) {old mid new : D} (was is : Seen) (result : Result (Unit {0}) F) (d e : Database) → (stands : Stands disk was old d) → {W : ℕ → Type 0} → ((q : ℕ) → W q → IsSpare stands.root q)
    → Moved disk W NoName old mid → Makes disk short was is mid new result d e → Makes disk short was is old new result d e
move_makes disk short {old} {mid} {new} was is result d e stands {W} spare moved made = record {
  done = made.done;
  undone = made.undone;
  any_moment = leaves_join disk (leaves_wider disk (λ x reopens. inl reopens) (moved_reopens disk {W = W} {R = NoName} was.catalogue was.stores d stands spare (λ q no. absurd no) moved)) made.any_moment;
}

pub store_makes : {D : Type 0} (disk : Ghosts D) {old new : D} (was is other : Seen) (f : DiskFault) (d e : Database) → Makes disk disk_fault.Memory was is old new (Err f) d e → Makes disk fault.Memory was other old new (Err (store_fault f)) d e
store_makes disk was is other f d e made = record { done = tt; undone = λ s. made.undone (short_is f s); any_moment = made.any_moment }

pub store_done : {D : Type 0} (disk : Ghosts D) {old new : D} (was is other : Seen) (d e : Database) → is ≡ other → Makes disk disk_fault.Memory was is old new (Ok tt) d e → Makes disk fault.Memory was other old new (Ok tt) d e
store_done disk {old} {new} was is other d e same made = record { done = subst (λ (s : Seen). Stands disk s new e) same made.done; undone = λ s. absurd (cc); any_moment = made.any_moment }

-- the files of a moveout were written, and nothing lists them
pub move_short : {D : Type 0} (disk : Ghosts D) {old new : D} (root : Catalogue) (last : ℕ) (tables : List (List Loaded)) (now is : Seen) (i j : ℕ) (f : StoreFault) (d e : Database) → seen_of root last tables ≡ now → IsHeld root tables
    → IsFreshAt (map projections_of tables) i j → Moved disk (DataFrom root.next) NoName old new → Stands disk now old d → Makes disk fault.Memory now is old new (Err f) d e
move_short disk {old} {new} root last tables now is i j f d e view held fresh moved stands =
    let here : Stands disk (seen_of root last tables) old d = subst (λ (s : Seen). Stands disk s old d) (sym view) stands in
    let lt : i < length (map projections_of tables) = omega (arith, fresh_table tables i j fresh, length-map tables projections_of) in
    subst (λ (s : Seen). Makes disk fault.Memory s is old new (Err f) d e) view
    (wrote_only disk fault.Memory {W = DataFrom root.next} (seen_of root last tables) is f d e here (moved_stands disk root last (map projections_of tables) i d lt held.entries held.valid here moved) moved)

-- and then the catalogue that lists them was committed, or that failed
pub move_made : ReadIsStored → {D : Type 0} (disk : Ghosts D) {old mid new : D} (root c : Catalogue) (last : ℕ) (tables : List (List Loaded)) (now : Seen) (i j version : ℕ) (one : Projected) (result : Result (Unit {0}) DiskFault) (d : Database)
    → ((was : Seen) (stores : List (List Projected)) (d e : Database) → (stands : Stands disk was mid d) → was.catalogue.next ≤ version → AreDatabase stands.files c stores e → IsSoundDatabase e → Makes disk disk_fault.Memory was (seen c stores) mid new result d e)
    → seen_of root last tables ≡ now → IsHeld root tables → IsFreshAt (map projections_of tables) i j → IsRewritten last root (map projections_of tables) i j version c one (disk.holds old) (disk.holds mid)
    → Moved disk (DataFrom root.next) NoName old mid → Stands disk now old d
    → Makes disk disk_fault.Memory now (seen c (change_at i (change_at j (λ x. one)) (map projections_of tables))) old new result d (moved_at i j d)
move_made read {D} disk {old} {mid} {new} root c last tables now i j version one result d made view held fresh is moved stands =
    let here : Stands disk (seen_of root last tables) old d = subst (λ (s : Seen). Stands disk s old d) (sym view) stands in
    let (parts, lt, parts_are, p, below, p_is, up_to_date, from) = fresh_rewritten last root stores i j version c one (disk.holds old) (disk.holds mid) fresh is in
    let spare = moved_stands disk root last stores i d lt held.entries held.valid here moved in
    let then : Stands disk (seen_of root last tables) mid d = stands_moved disk {W = DataFrom root.next} {R = NoName} (at_epoch last root) stores d here spare (λ q no. absurd no) moved in
    let are = rewritten_are read disk root c last stores d version i j parts p one lt parts_are below p_is up_to_date held.entries held.valid here then from in
    subst (λ (s : Seen). Makes disk disk_fault.Memory s (seen c (change_at i (change_at j (λ x. one)) stores)) old new result d (moved_at i j d)) view
    (move_makes disk disk_fault.Memory (seen_of root last tables) (seen c (change_at i (change_at j (λ x. one)) stores)) result d (moved_at i j d) here {W = DataFrom root.next} spare moved
    (made (seen_of root last tables) (change_at i (change_at j (λ x. one)) stores) d (moved_at i j d) then from.drawn are (moved_sound d i j here.sound)))
  where
    stores : List (List Projected)
    stores = map projections_of tables

pub move_seen : (root c : Catalogue) (last version i j : ℕ) (tables after : List (List Loaded)) (ps : List Loaded) (s : Loaded) → i < length tables → ps ≡ get_or tables i ps → j < length ps → after ≡ set tables i (set ps j s)
    → c ≡ with_entry_at last version i j s.stored.entry root → seen c (change_at i (change_at j (λ x. s.stored)) (map projections_of tables)) ≡ seen_of c last after
move_seen root c last version i j tables after ps s lt ps_are below after_is catalogue =
    ap₂ (λ (k : Catalogue) (pss : List (List Projected)). seen k pss) (at_own c last (sym (ap (λ (k : Catalogue). k.last) catalogue))) (sym (stores_moved tables after i j ps s lt ps_are below after_is))

pub move_held : (root c : Catalogue) (last version i j : ℕ) (tables after : List (List Loaded)) (ps : List Loaded) (s : Loaded) → i < length tables → ps ≡ get_or tables i ps → j < length ps → after ≡ set tables i (set ps j s)
    → c ≡ with_entry_at last version i j s.stored.entry root → IsHeld root tables → IsValid c → IsHeld c after
move_held root c last version i j tables after ps s lt ps_are below after_is catalogue held valid = record {
  valid = valid;
  entries = ap all_entries (stores_moved tables after i j ps s lt ps_are below after_is) ∙ entries_moved root c (map projections_of tables) last version i j s.stored held.entries catalogue;
}

-- ---- a table that goes

pub drop_makes : {D : Type 0} (disk : Ghosts D) {old new : D} (root : Catalogue) (last : ℕ) (tables : List (List Loaded)) (now : Seen) (name : List ℕ) (place : ℕ) (catalogue : Catalogue) (result : Result (Unit {0}) DiskFault) (d : Database)
    → ((was : Seen) (stores : List (List Projected)) (d e : Database) → (stands : Stands disk was old d) → was.catalogue.next ≤ root.next → AreDatabase stands.files catalogue stores e → IsSoundDatabase e → Makes disk disk_fault.Memory was (seen catalogue stores) old new result d e)
    → seen_of root last tables ≡ now → catalogue ≡ without_table last place root → IsSomeAnd (slice_get now.catalogue.tables place) (λ t. t.name ≡ name) → Stands disk now old d
    → Makes disk disk_fault.Memory now (seen catalogue (remove (map projections_of tables) place)) old new result d (dropped name d)
drop_makes {D} disk {old} {new} root last tables now name place catalogue result d made view is there stands =
    let here : Stands disk (seen_of root last tables) old d = subst (λ (s : Seen). Stands disk s old d) (sym view) stands in
    let named : IsSomeAnd (slice_get root.tables place) (λ t. t.name ≡ name) = subst (λ (s : Seen). IsSomeAnd (slice_get s.catalogue.tables place) (λ t. t.name ≡ name)) (sym view) there in
    let are = dropped_are here.files (at_epoch last root) (map projections_of tables) d name place here.sound named here.are in
    subst (λ (s : Seen). Makes disk disk_fault.Memory s (seen catalogue (remove (map projections_of tables) place)) old new result d (dropped name d)) view
    (made (seen_of root last tables) (remove (map projections_of tables) place) d (dropped name d) here (omega arith)
    (subst (λ (k : Catalogue). AreDatabase here.files k (remove (map projections_of tables) place) (dropped name d)) (sym is) are) (dropped_sound d name here.sound))

pub drop_seen : (root : Catalogue) (last : ℕ) (tables after : List (List Loaded)) (place : ℕ) (catalogue : Catalogue) → after ≡ remove tables place → catalogue ≡ without_table last place root
    → seen catalogue (remove (map projections_of tables) place) ≡ seen_of catalogue last after
drop_seen root last tables after place catalogue is catalogue_is =
    ap₂ (λ (c : Catalogue) (pss : List (List Projected)). seen c pss) (at_own catalogue last (sym (ap (λ (c : Catalogue). c.last) catalogue_is)))
    (sym (ap (map projections_of) is ∙ map_remove projections_of tables place))

pub drop_held : (root : Catalogue) (last : ℕ) (tables after : List (List Loaded)) (place : ℕ) (catalogue : Catalogue) → after ≡ remove tables place → catalogue ≡ without_table last place root
    → IsHeld root tables → IsValid catalogue → IsHeld catalogue after
drop_held root last tables after place catalogue is catalogue_is held valid = record {
  valid = valid;
  entries =
      ap (λ (pss : List (List Loaded)). all_entries (map projections_of pss)) is
      ∙ ap all_entries (map_remove projections_of tables place)
      ∙ map_remove (λ (ps : List Projected). map (λ p. p.entry) ps) (map projections_of tables) place
      ∙ ap (λ (ess : List (List Projection)). remove ess place) held.entries
      ∙ sym (map_remove (λ (t : kept.Table). t.projections) root.tables place)
      ∙ sym (ap (λ (c : Catalogue). map (λ t. t.projections) c.tables) catalogue_is);
}

-- ---- the ancient history mark rises

pub mark_makes : {D : Type 0} (disk : Ghosts D) {old new : D} (root : Catalogue) (last : ℕ) (tables : List (List Loaded)) (now : Seen) (mark : ℕ) (catalogue : Catalogue) (result : Result (Unit {0}) DiskFault) (d : Database)
    → ((was : Seen) (stores : List (List Projected)) (d e : Database) → (stands : Stands disk was old d) → was.catalogue.next ≤ root.next → AreDatabase stands.files catalogue stores e → IsSoundDatabase e → Makes disk disk_fault.Memory was (seen catalogue stores) old new result d e)
    → seen_of root last tables ≡ now → catalogue ≡ with_mark last mark root → Stands disk now old d → d.ahm ≤ mark → IsSoundDatabase (record d { ahm = mark })
    → Makes disk disk_fault.Memory now (seen catalogue (map projections_of tables)) old new result d (record d { ahm = mark })
mark_makes {D} disk {old} {new} root last tables now mark catalogue result d made view is stands le sound =
    let here : Stands disk (seen_of root last tables) old d = subst (λ (s : Seen). Stands disk s old d) (sym view) stands in
    let own : root.ahm ≤ mark = subst (λ (n : ℕ). n ≤ mark) here.are.ahm le in
    let are = mark_rises here.files (at_epoch last root) (map projections_of tables) d mark (root.next + 1) own here.are in
    subst (λ (s : Seen). Makes disk disk_fault.Memory s (seen catalogue (map projections_of tables)) old new result d (record d { ahm = mark })) view
    (made (seen_of root last tables) (map projections_of tables) d (record d { ahm = mark }) here (omega arith)
    (subst (λ (k : Catalogue). AreDatabase here.files k (map projections_of tables) (record d { ahm = mark })) (sym is) are) sound)

pub mark_seen : (root : Catalogue) (last : ℕ) (tables : List (List Loaded)) (mark : ℕ) (catalogue : Catalogue) → catalogue ≡ with_mark last mark root → seen catalogue (map projections_of tables) ≡ seen_of catalogue last tables
mark_seen root last tables mark catalogue is = ap (λ (c : Catalogue). seen c (map projections_of tables)) (at_own catalogue last (sym (ap (λ (c : Catalogue). c.last) is)))

pub mark_held : (root : Catalogue) (last : ℕ) (tables : List (List Loaded)) (mark : ℕ) (catalogue : Catalogue) → catalogue ≡ with_mark last mark root → IsHeld root tables → IsValid catalogue → IsHeld catalogue tables
mark_held root last tables mark catalogue is held valid = record {
  valid = valid;
  entries = held.entries ∙ sym (ap (λ (c : Catalogue). map (λ t. t.projections) c.tables) is);
}
